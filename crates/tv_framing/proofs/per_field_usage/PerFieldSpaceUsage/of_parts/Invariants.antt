use Rattle.std.proofs.Common.{◌≡◌, fold, map}
use Rattle.std.specs.Vec.Iter.{into_iter_items}
use Rattle.tv_framing.specs.NamedParts.{alone}
use Rattle.tv_framing.specs.Places.{by_name, with_field}
use Rattle.tv_framing.proofs.per_field_usage.PerFieldSpaceUsage.of_parts.Given as goal

abbrev pub invariant-loop-part : goal.invariant-loop-part
invariant-loop-part l = fold with_field l.usage (map alone (into_iter_items l.part-iterator)) ≡ by_name (map alone l.fn.parts.items)
