use Rattle.std.proofs.lemmas.Result.{IfOk-weaker}
use Rattle.tv_store.proofs.ReloadLaws.{frees}
use Rattle.tv_store.proofs.laws.reloads.frees_the_lock_of_a_released_reader.Goals as goal

pub returns : goal.returns
returns g c h told one rises holds =
    IfOk-weaker c.apply.result _ _ (λ answer did. frees g.O.Directory c.args.store.now c.apply.new.self h c.args.number answer did one rises holds (c.apply.ensures.frame.locks told)) c.apply.ensures.step
