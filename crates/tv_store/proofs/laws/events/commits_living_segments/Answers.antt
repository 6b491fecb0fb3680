use Rattle.std.proofs.lemmas.Result.{IfOk-weaker}
use Rattle.tv_store.proofs.EventLaws.{commits_living, commits_saved}
use Rattle.tv_store.proofs.laws.events.commits_living_segments.Goals as goal

pub returns-clause-living : goal.returns-clause-living
returns-clause-living g c h =
    IfOk-weaker c.apply.result _ _ (λ answer did other. commits_living g.O.Directory c.args.store.now c.apply.new.self h c.args.payload c.args.ids answer did other) c.apply.ensures.step

pub returns-clause-saved : goal.returns-clause-saved
returns-clause-saved g c h =
    IfOk-weaker c.apply.result _ _ (λ answer did other. commits_saved g.O.Directory c.args.store.now c.apply.new.self h c.args.payload c.args.ids answer did other c.apply.ensures.frame.form) c.apply.ensures.step
