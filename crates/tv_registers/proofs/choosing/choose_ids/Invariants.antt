use Rattle.std.proofs.Common.{◌≡◌, map, take}
use Rattle.tv_registers.specs.Registers.{entries_at}
use Rattle.tv_registers.proofs.choosing.choose_ids.Given as goal

abbrev pub invariant-loop-id : goal.invariant-loop-id
invariant-loop-id l = map (λ c. c.now) l.chosen.items ≡ entries_at l.segments.entries (take l.id-index l.ids)
