use Rattle.std.proofs.Common.{◌≡◌, List, ℕ, map}
use Rattle.tv_registers.specs.Registers.{EntryState}
use Rattle.tv_registers.proofs.choosing.ids_of_all.Given as goal

abbrev pub invariant-loop-id : goal.invariant-loop-id
invariant-loop-id l = l.ids.items ≡ map (λ (e : List ℕ × EntryState). e.0) (map (λ e. (e.0.now, e.1.now)) l.yielded)
