use Rattle.std.proofs.Common.{◌≡◌, None, get_or, map}
use Rattle.std.specs.List.{range_with_len}
use Rattle.tv_framing.specs.Usage.{together}
use Rattle.tv_framing.proofs.field_usage.joined_parts.Given as goal

abbrev pub invariant-loop-i : goal.invariant-loop-i
invariant-loop-i l = l.parts.items ≡ map (λ i. together (get_or l.one i None) (get_or l.other i None)) (range_with_len 0 l.i)
