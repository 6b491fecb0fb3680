use Rattle.std.proofs.Common.{sym, subst}
use Rattle.tv_machine.specs.Living.{HasOneLock}
use Rattle.tv_snapshots.proofs.Reloading.{one_left}
use Rattle.tv_snapshots.proofs.readers.Readers.release_reader.Goals as goal

pub invariant_of-self : goal.invariant_of-self
invariant_of-self c = subst HasOneLock (sym c.remove.ensures.entries) (one_left c.self.inside.readers.entries _ c.self.invariant)
