use Rattle.std.proofs.Common.{ℕ, List, ap, ◌∙◌}
use Rattle.std.specs.BTreeMap.{insert_entry}
use Rattle.std.specs.Map.{values_of}
use Rattle.std.specs.Ordering.{nat_cmp}
use Rattle.tv_base.specs.declared.inventory.Entry.{Entry}
use Rattle.tv_base.proofs.KeyedLaws.{put_keyed}
use Rattle.tv_base.proofs.inventory.put_last.Goals as goal

pub returns-clause-ok : goal.returns-clause-ok
returns-clause-ok g c =
    let e : Entry g.row.T.Denot = record { number = c.args.number; count = 1; value = c.args.value } in
    c.in_ok-insert.ensures.entries
    ∙ ap (λ (l : List (ℕ × Entry g.row.T.Denot)). insert_entry nat_cmp l c.args.number e) c.requires.keyed
    ∙ put_keyed e (values_of c.args.entries.now.entries) c.requires.below
