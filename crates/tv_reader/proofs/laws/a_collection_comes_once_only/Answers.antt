use Rattle.tv_reader.proofs.CollectionLaws.{once_more}
use Rattle.tv_reader.proofs.laws.a_collection_comes_once_only.Goals as goal

pub returns : goal.returns
returns g c =
    once_more (λ w. (goal.Warmer-dyn g (w.vtable, w.value)).errors w.value) (λ w. (goal.Warmer-dyn g (w.vtable, w.value)).test w.value) (λ w. (goal.Warmer-dyn g (w.vtable, w.value)).called_for w.value)
    c.args.live.now _ _ _ _ c.gc_maybe-2.result c.in_ok-gc_maybe.ensures.collects c.gc_maybe-2.ensures.collects
