use Rattle.std.proofs.Common.{sym, subst}
use Rattle.std.specs.Prelude.{All}
use Rattle.tv_metas.specs.Tracked.{IsShared}
use Rattle.tv_metas.proofs.tracked.SegmentMetaInventory.track.Goals as goal

pub invariant_of-self : goal.invariant_of-self
invariant_of-self c = subst (λ state. All IsShared state.entries) (sym c.in_err-ticket.ensures.err) c.self.invariant
