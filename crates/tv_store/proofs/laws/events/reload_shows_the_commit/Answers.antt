use Rattle.std.proofs.lemmas.Result.{IfOk-weaker}
use Rattle.tv_store.proofs.EventLaws.{shows_commit}
use Rattle.tv_store.proofs.laws.events.reload_shows_the_commit.Goals as goal

pub returns : goal.returns
returns g c h may reader there =
    IfOk-weaker c.apply.result _ _ (λ answer did. shows_commit g.O.Directory c.args.store.now c.apply.new.self h c.args.number answer reader may there did) c.apply.ensures.step
