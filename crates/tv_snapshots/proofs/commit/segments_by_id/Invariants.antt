use Rattle.std.proofs.Common.{◌≡◌, map, take}
use Rattle.tv_metas.specs.Segments.{entry_of}
use Rattle.tv_snapshots.specs.SegmentOrder.{IsSorted}
use Rattle.tv_snapshots.proofs.commit.segments_by_id.Given as goal

abbrev pub invariant-loop-segment : goal.invariant-loop-segment
invariant-loop-segment l = IsSorted (map entry_of l.segments) → l.by_id.entries ≡ map entry_of (take l.segment-index l.segments)
