use Rattle.std.proofs.Common.{◌≡◌, fold}
use Rattle.std.specs.Vec.Iter.{into_iter_items}
use Rattle.tv_framing.specs.Places.{by_name, with_field}
use Rattle.tv_framing.proofs.per_field_usage.PerFieldSpaceUsage.new.Given as goal

abbrev pub invariant-loop-field : goal.invariant-loop-field
invariant-loop-field l = fold with_field l.usage (into_iter_items l.field-iterator) ≡ by_name l.fn.fields.items
