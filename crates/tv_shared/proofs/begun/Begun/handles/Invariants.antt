use Rattle.tv_shared.specs.Begins.{AreFresh}
use Rattle.tv_shared.proofs.begun.Begun.handles.Given as goal

abbrev pub invariant-loop : goal.invariant-loop
invariant-loop g l = AreFresh l.counter l.list.items
