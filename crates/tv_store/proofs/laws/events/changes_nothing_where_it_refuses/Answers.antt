use Rattle.std.proofs.lemmas.Result.{IfOk-weaker}
use Rattle.tv_store.proofs.EventLaws.{leaves_alone}
use Rattle.tv_store.proofs.laws.events.changes_nothing_where_it_refuses.Goals as goal

pub returns : goal.returns
returns g c h writes =
    IfOk-weaker c.apply.result _ _ (λ answer did. leaves_alone g.O.Directory c.args.store.now c.apply.new.self h c.args.event.now answer writes did) c.apply.ensures.step
