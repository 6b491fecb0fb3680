use Rattle.std.proofs.Common.{◌≡◌, map}
use Rattle.tv_snapshots.proofs.commit.listed.Given as goal

abbrev pub invariant-loop-id : goal.invariant-loop-id
invariant-loop-id l = l.list.items ≡ map (λ e. (e.0.now, e.1.now)) l.yielded
