use Rattle.std.proofs.lemmas.Result.{IfOk-weaker}
use Rattle.tv_store.proofs.EventLaws.{draws_anew}
use Rattle.tv_store.proofs.laws.events.draws_a_new_delete_name.Goals as goal

pub returns : goal.returns
returns g c h taken =
    IfOk-weaker c.apply.result _ _ (λ answer did. draws_anew g.O.Directory c.args.store.now c.apply.new.self h c.args.id answer c.args.n taken did) c.apply.ensures.step
