use Rattle.tv_base.specs.EntryLaws.{none_at}
use Rattle.tv_base.proofs.inventory.Inventory.track.Goals as goal

pub returns-clause-fresh : goal.returns-clause-fresh
returns-clause-fresh g c = rw (← c.self.view_is) (none_at _ _ c.self.invariant.1)
