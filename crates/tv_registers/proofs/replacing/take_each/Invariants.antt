use Rattle.std.proofs.Common.{◌≡◌, drop}
use Rattle.tv_registers.specs.Registers.{without_each}
use Rattle.tv_registers.proofs.replacing.take_each.Given as goal

abbrev pub invariant-loop-id : goal.invariant-loop-id
invariant-loop-id l = without_each (drop l.id-index l.ids) (l.segments.entries, l.inventory) ≡ without_each l.ids (l.fn.segments.entries, l.fn.inventory)
