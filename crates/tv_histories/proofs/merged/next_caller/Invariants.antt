use Rattle.tv_histories.proofs.Mixing.{IsLeast}
use Rattle.tv_histories.proofs.merged.next_caller.Given as goal

abbrev pub invariant-loop-caller : goal.invariant-loop-caller
invariant-loop-caller l = IsLeast (λ q. q.items) l.lists l.caller l.least
