use Rattle.std.specs.Prelude.{◌≡◌, length}
use Rattle.tv_shared.proofs.racing.read_all.Given as goal

abbrev pub invariant-loop-handle : goal.invariant-loop-handle
invariant-loop-handle g l = length l.seen.items ≡ l.handle-index
