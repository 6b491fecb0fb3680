use Rattle.std.proofs.Common.{◌≡◌, length}
use Rattle.tv_registers.specs.Registers.{tickets_in}
use Rattle.tv_registers.specs.Sharing.{releases}
use Rattle.tv_registers.proofs.replacing.take_all.Given as goal

abbrev pub invariant-loop-entry : goal.invariant-loop-entry
invariant-loop-entry l = releases (tickets_in l.segments.entries) l.inventory ≡ releases (tickets_in l.fn.segments.entries) l.fn.inventory

abbrev pub decreases-loop-entry : goal.decreases-loop-entry
decreases-loop-entry l = length l.segments.entries
