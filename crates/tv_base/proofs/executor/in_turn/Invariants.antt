use Rattle.tv_base.proofs.MapSteps.{IsUnderWay}
use Rattle.tv_base.proofs.executor.in_turn.Given as goal

abbrev pub invariant-loop-arg : goal.invariant-loop-arg
invariant-loop-arg g l = IsUnderWay (λ x r. goal.F-post g l.f x r) l.fn.args.items l.arg-iterator.rest.items l.values.items
