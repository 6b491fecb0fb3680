use Rattle.std.proofs.Common.{◌≡◌, [], drop, map}
use Rattle.tv_metas.specs.TrackedMetas.{put_all}
use Rattle.tv_metas.proofs.tracked_meta.by_id.Given as goal

abbrev pub invariant-loop-segment : goal.invariant-loop-segment
invariant-loop-segment l = put_all [] (map (λ s. s.1) l.segments) ≡ put_all l.found.entries (map (λ s. s.1) (drop l.segment-index l.segments))
