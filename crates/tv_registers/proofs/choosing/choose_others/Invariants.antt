use Rattle.std.proofs.Common.{◌≡◌, map}
use Rattle.tv_registers.specs.Registers.{metas_in, outside}
use Rattle.tv_registers.proofs.choosing.choose_others.Given as goal

abbrev pub invariant-loop-id : goal.invariant-loop-id
invariant-loop-id l = map (λ c. c.now) l.chosen.items ≡ metas_in (outside l.ids.keys (map (λ e. (e.0.now, e.1.now)) l.yielded))
