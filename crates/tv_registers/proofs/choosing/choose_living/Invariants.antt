use Rattle.std.proofs.Common.{◌≡◌, map}
use Rattle.tv_registers.specs.Registers.{living_in, metas_in}
use Rattle.tv_registers.proofs.choosing.choose_living.Given as goal

abbrev pub invariant-loop-entry : goal.invariant-loop-entry
invariant-loop-entry l = map (λ c. c.now) l.chosen.items ≡ metas_in (living_in (map (λ e. (e.0.now, e.1.now)) l.yielded))
