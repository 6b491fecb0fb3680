-- Parts with the names of their fields.
use Rattle.tv_framing.specs.declared.per_field_usage.NamedPart.{NamedPart}
use Rattle.tv_framing.specs.Fields.{FieldSpace, part_alone}

-- what a part takes alone
abbrev pub alone : NamedPart → FieldSpace
alone part = part_alone part.name.now part.idx part.size
