use Rattle.tv_histories.proofs.Races.{if_ok_map, follows}
use Rattle.tv_histories.proofs.gathering.gather.Goals as goal

pub returns-clause-lists : goal.returns-clause-lists
returns-clause-lists c =
    if_ok_map _ _ c.all_or_fault.result c.all_or_fault.ensures.all (λ lists all.
    follows (λ s. s.items) (λ l. l.items) c.args.scripts.now c.args.answers.items lists.items all
    c.requires.count c.requires.each)
