use Rattle.tv_histories.proofs.Races.{if_ok_map, merged_from}
use Rattle.tv_histories.proofs.interleaving.merge_of.Goals as goal

pub returns : goal.returns
returns c =
    if_ok_map _ _ c.merge.result c.merge.ensures (λ m all.
    merged_from (λ s. s.items) (λ l. l.items) c.args.scripts.now c.args.lists.items m.callers.items
    m.receipts.items c.requires all)
