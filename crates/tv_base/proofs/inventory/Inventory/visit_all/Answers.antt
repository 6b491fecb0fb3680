use Rattle.tv_base.proofs.KeyedLaws.{numbers_stay}
use Rattle.tv_base.proofs.inventory.Inventory.visit_all.Goals as goal

pub invariant_of-self : goal.invariant_of-self
invariant_of-self g c =
    (c.visit_entries.ensures.keyed, numbers_stay g.T.Visit.visited _ _ _ c.self.invariant.1 c.visit_entries.ensures.visited)
