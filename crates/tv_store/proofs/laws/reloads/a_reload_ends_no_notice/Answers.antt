use Rattle.std.proofs.lemmas.Result.{IfOk-weaker}
use Rattle.tv_store.proofs.ReloadLaws.{keeps_notice}
use Rattle.tv_store.proofs.laws.reloads.a_reload_ends_no_notice.Goals as goal

pub returns : goal.returns
returns g c h was now is there = IfOk-weaker c.apply.result _ _ (λ answer did. keeps_notice g.O.Directory c.args.store.now c.apply.new.self h c.args.number answer did was now is there) c.apply.ensures.step
