use Rattle.std.proofs.Common.{All, ap, sym, subst}
use Rattle.tv_metas.specs.Tracked.{IsShared, KeptMetas}
use Rattle.tv_metas.proofs.KeptWithin.{within_released}
use Rattle.tv_metas.proofs.tracked.SegmentMetaInventory.release.Goals as goal

pub invariant_of-self : goal.invariant_of-self
invariant_of-self c =
    subst (λ (es : KeptMetas). All IsShared es) (sym (ap (λ state. state.entries) c.release.ensures.released)) (within_released c.meta.inside.ticket c.self.inside.segments.entries c.self.invariant)
