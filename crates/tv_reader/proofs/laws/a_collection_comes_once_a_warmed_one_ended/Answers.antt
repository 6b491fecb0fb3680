use Rattle.tv_reader.proofs.CollectionLaws.{comes}
use Rattle.tv_reader.proofs.laws.a_collection_comes_once_a_warmed_one_ended.Goals as goal

pub returns : goal.returns
returns g c =
    comes (λ w. (goal.Warmer-dyn g (w.vtable, w.value)).errors w.value) (λ w. (goal.Warmer-dyn g (w.vtable, w.value)).test w.value) (λ w. (goal.Warmer-dyn g (w.vtable, w.value)).called_for w.value)
    c.args.searcher.now.shown _ _ _ _ c.in_ok-warm_new_searcher_generation.ensures.warms c.in_ok-gc_maybe.ensures.collects
