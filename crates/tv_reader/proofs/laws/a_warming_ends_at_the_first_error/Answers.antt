use Rattle.tv_reader.proofs.WarmingLaws.{ends_at_error}
use Rattle.tv_reader.proofs.laws.a_warming_ends_at_the_first_error.Goals as goal

pub returns : goal.returns
returns g c =
    ends_at_error (λ w. (goal.Warmer-dyn g (w.vtable, w.value)).errors w.value) (λ w. (goal.Warmer-dyn g (w.vtable, w.value)).test w.value) (λ w. (goal.Warmer-dyn g (w.vtable, w.value)).called_for w.value)
    c.args.searcher.now.shown _ _ c.warm_new_searcher_generation.result c.warm_new_searcher_generation.ensures.warms
