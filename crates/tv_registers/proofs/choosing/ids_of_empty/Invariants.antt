use Rattle.std.proofs.Common.{◌≡◌, map}
use Rattle.tv_registers.specs.Registers.{empty_in}
use Rattle.tv_registers.proofs.choosing.ids_of_empty.Given as goal

abbrev pub invariant-loop-id : goal.invariant-loop-id
invariant-loop-id l = l.ids.items ≡ map (λ e. e.0) (empty_in (map (λ e. (e.0.now, e.1.now)) l.yielded))
