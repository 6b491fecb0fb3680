use Rattle.std.proofs.Common.{◌≡◌, [], map}
use Rattle.std.specs.Prelude.{OnOk}
use Rattle.tv_registers.specs.Registers.{ticket_of, tickets_in, with_each}
use Rattle.tv_registers.specs.Sharing.{releases}
use Rattle.tv_registers.proofs.replacing.put_each.Given as goal

abbrev pub invariant-loop-entry : goal.invariant-loop-entry
invariant-loop-entry l = record {
  ok : OnOk l.put ((l.segments.entries, l.inventory) ≡ with_each l.yielded ([], l.fn.inventory));
  all : releases (tickets_in l.segments.entries) l.inventory ≡ releases (map ticket_of l.yielded) l.fn.inventory;
}
