use Rattle.std.proofs.Common.{length, map}
use Rattle.tv_metas.specs.Tracked.{KeptMetas}
use Rattle.tv_registers.specs.Sharing.{Undoes}
use Rattle.tv_registers.proofs.sharing.release_each.Given as goal

abbrev pub invariant-loop-share : goal.invariant-loop-share
invariant-loop-share g l = (before : KeptMetas) → Undoes (map g.T.Counted.ticket l.fn.shares.items) before l.fn.inventory → Undoes (map g.T.Counted.ticket l.shares.items) before l.inventory

abbrev pub decreases-loop-share : goal.decreases-loop-share
decreases-loop-share g l = length l.shares.items
