use Rattle.std.proofs.Common.{sym, ap, subst}
use Rattle.tv_machine.specs.Living.{HasOneLock, is_locked}
use Rattle.tv_snapshots.proofs.Reloading.{one_more}
use Rattle.tv_snapshots.proofs.readers.Readers.add_reader.Goals as goal

pub invariant_of-self-2 : goal.invariant_of-self-2
invariant_of-self-2 c =
    subst HasOneLock (sym c.in_ok-insert.ensures.entries) (one_more c.self.inside.readers.entries _ c.new.result c.self.invariant (ap is_locked c.new.ensures))
