use Rattle.tv_reader.proofs.WarmingLaws.{why_no_end}
use Rattle.tv_reader.proofs.laws.a_reload_in_steps_invents_no_warmers_error.Goals as goal

pub returns : goal.returns
returns g c =
    why_no_end (λ w. (goal.Warmer-dyn g (w.vtable, w.value)).errors w.value) (λ w. (goal.Warmer-dyn g (w.vtable, w.value)).test w.value) (λ w. (goal.Warmer-dyn g (w.vtable, w.value)).called_for w.value) _ _ _ _ _ c.reload_publish.result c.reload_publish.ensures.cause
