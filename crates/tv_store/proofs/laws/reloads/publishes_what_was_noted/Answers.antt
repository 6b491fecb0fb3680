use Rattle.std.proofs.lemmas.Result.{IfOk-weaker}
use Rattle.tv_store.proofs.ReloadLaws.{publishes}
use Rattle.tv_store.proofs.laws.reloads.publishes_what_was_noted.Goals as goal

pub returns : goal.returns
returns g c h was now noted bodies is read there =
    IfOk-weaker c.apply.result _ _ (λ answer did. publishes g.O.Directory c.args.store.now c.apply.new.self h c.args.number answer did was now noted bodies is read there) c.apply.ensures.step
