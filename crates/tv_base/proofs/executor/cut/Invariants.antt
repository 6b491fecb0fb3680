use Rattle.std.proofs.Common.{◌≡◌, ◌++◌}
use Rattle.std.specs.List.{flat_map}
use Rattle.tv_base.proofs.executor.cut.Given as goal

abbrev pub invariant-loop-arg : goal.invariant-loop-arg
invariant-loop-arg g l = flat_map (λ part. part.items) l.parts.items ++ (l.part.items ++ l.arg-iterator.rest.items) ≡ l.fn.args.items
