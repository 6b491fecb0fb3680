use Rattle.tv_store.proofs.ReloadLaws.{meanwhile}
use Rattle.tv_store.proofs.laws.reloads.holds_the_lock_for_a_reload.Goals as goal

pub returns : goal.returns
returns g c told = meanwhile _ _ _ _ (c.apply.ensures.frame.locks told)
