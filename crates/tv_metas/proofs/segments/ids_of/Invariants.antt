use Rattle.std.proofs.Common.{◌≡◌, map, take}
use Rattle.tv_metas.proofs.segments.ids_of.Given as goal

abbrev pub invariant-loop-segment : goal.invariant-loop-segment
invariant-loop-segment l = l.ids.items ≡ map (λ s. s.segment_id) (take l.segment-index l.segments)
