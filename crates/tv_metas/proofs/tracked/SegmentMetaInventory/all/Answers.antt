use Rattle.tv_metas.proofs.KeptWithin.{within_shares}
use Rattle.tv_metas.proofs.tracked.SegmentMetaInventory.all.Goals as goal

pub invariant_of-self : goal.invariant_of-self
invariant_of-self c = within_shares c.share_all.result c.self.inside.segments c.share_all.new.self c.share_all.ensures.ok c.share_all.ensures.err c.self.invariant
