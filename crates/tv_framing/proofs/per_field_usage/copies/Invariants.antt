use Rattle.std.proofs.Common.{◌≡◌, take}
use Rattle.tv_framing.proofs.per_field_usage.copies.Given as goal

abbrev pub invariant-loop-field : goal.invariant-loop-field
invariant-loop-field l = l.copies.items ≡ take l.field-index l.fields
