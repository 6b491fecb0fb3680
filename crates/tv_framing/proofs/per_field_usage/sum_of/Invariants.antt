use Rattle.std.proofs.Common.{◌≡◌, take}
use Rattle.tv_framing.specs.Usage.{capped}
use Rattle.tv_framing.specs.PerField.{fields_sum}
use Rattle.tv_framing.proofs.per_field_usage.sum_of.Given as goal

abbrev pub invariant-loop-field : goal.invariant-loop-field
invariant-loop-field l = l.sum.0 ≡ capped (fields_sum (take l.field-index l.fields))
