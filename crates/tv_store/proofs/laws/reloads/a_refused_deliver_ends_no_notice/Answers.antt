use Rattle.std.proofs.lemmas.Result.{IfOk-weaker}
use Rattle.tv_store.proofs.ReloadLaws.{deliver_refused}
use Rattle.tv_store.proofs.laws.reloads.a_refused_deliver_ends_no_notice.Goals as goal

pub returns : goal.returns
returns g c h refused = IfOk-weaker c.apply.result _ _ (λ answer did. deliver_refused g.O.Directory c.args.store.now c.apply.new.self h answer did refused) c.apply.ensures.step
