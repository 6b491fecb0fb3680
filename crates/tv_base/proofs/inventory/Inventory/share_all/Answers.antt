use Rattle.std.proofs.Common.{◌<◌, sym}
use Rattle.std.proofs.lemmas.List.Elements.{All-map}
use Rattle.std.specs.Map.{values_of}
use Rattle.std.specs.Prelude.{map}
use Rattle.tv_base.specs.declared.inventory.Entry.{Entry}
use Rattle.tv_base.specs.Entries.{one_more}
use Rattle.tv_base.proofs.KeyedLaws.{all_counted, entries_are, kept}
use Rattle.tv_base.proofs.inventory.Inventory.share_all.Goals as goal

pub invariant_of-self : goal.invariant_of-self
invariant_of-self g c =
    kept _ _ _ (all_counted c.self.inside.entries.entries _ c.self.invariant.0 (sym c.if-has_full.ensures) c.count_each.ensures)
    (All-map (λ (e : Entry g.row.T.Denot). e.number < c.self.inside.next) one_more (values_of c.self.inside.entries.entries) c.self.invariant.1)

pub returns-clause-ok : goal.returns-clause-ok
returns-clause-ok g c =
    entries_are (map one_more) _ c.self.inside.entries.entries _ c.args.self.now c.self.view_is
    (all_counted c.self.inside.entries.entries _ c.self.invariant.0 (sym c.if-has_full.ensures) c.count_each.ensures)
