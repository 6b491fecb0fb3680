use Rattle.std.proofs.Common.{length}
use Rattle.tv_metas.specs.Tracked.{KeptMetas, TrackAll}
use Rattle.tv_metas.proofs.tracking.release_all.Given as goal

abbrev pub invariant-loop-share : goal.invariant-loop-share
invariant-loop-share l = (before : KeptMetas) → TrackAll l.fn.shares.items before l.fn.inventory → TrackAll l.shares.items before l.inventory

abbrev pub decreases-loop-share : goal.decreases-loop-share
decreases-loop-share l = length l.shares.items
