use Rattle.std.proofs.lemmas.Result.{IfOk-weaker}
use Rattle.tv_store.proofs.ReloadLaws.{notes, waits}
use Rattle.tv_store.proofs.laws.reloads.notes_the_current_commit.Goals as goal

pub returns-clause-waits : goal.returns-clause-waits
returns-clause-waits g c h may = IfOk-weaker c.apply.result _ _ (λ answer did. waits g.O.Directory c.args.store.now c.apply.new.self h c.args.number answer did may) c.apply.ensures.step

pub returns-clause-notes : goal.returns-clause-notes
returns-clause-notes g c h may reader there = IfOk-weaker c.apply.result _ _ (λ answer did. notes g.O.Directory c.args.store.now c.apply.new.self h c.args.number answer did reader may there) c.apply.ensures.step
