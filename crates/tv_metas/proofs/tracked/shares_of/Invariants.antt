use Rattle.std.proofs.Common.{◌≡◌, map}
use Rattle.tv_metas.specs.Tracked.{share_of}
use Rattle.tv_metas.proofs.tracked.shares_of.Given as goal

abbrev pub invariant-loop-entry : goal.invariant-loop-entry
invariant-loop-entry l = l.shares.items ≡ map share_of (map (λ e. e.now) l.yielded)
