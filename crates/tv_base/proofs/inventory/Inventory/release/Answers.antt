use Rattle.tv_base.specs.Entries.{released}
use Rattle.tv_base.proofs.KeyedLaws.{below_released, entries_are, kept}
use Rattle.tv_base.proofs.inventory.Inventory.release.Goals as goal

pub invariant_of-self : goal.invariant_of-self
invariant_of-self g c = kept _ _ _ c.count_less.ensures (below_released c.t.inside.number _ _ c.self.invariant.1)

pub returns : goal.returns
returns g c = record {
  released =
      rw (← c.t.view_is)
      (entries_are (released c.t.inside.number) _ c.self.inside.entries.entries _ c.args.self.now c.self.view_is c.count_less.ensures);
}
