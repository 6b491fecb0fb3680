use Rattle.std.proofs.Common.{◌≡◌, map, take}
use Rattle.tv_metas.specs.Segments.{entry_of}
use Rattle.tv_metas.specs.Tracked.{TrackAll}
use Rattle.tv_metas.proofs.tracking.track_each.Given as goal

abbrev pub invariant-loop-segment : goal.invariant-loop-segment
invariant-loop-segment l = record {
  tracks : TrackAll l.shares.items l.fn.inventory l.inventory;
  segments : map (λ s. s.1) l.shares.items ≡ map entry_of (take l.segment-index l.segments);
}
