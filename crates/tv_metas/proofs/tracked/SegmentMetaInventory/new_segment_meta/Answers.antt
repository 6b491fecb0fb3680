use Rattle.tv_metas.proofs.tracked.SegmentMetaInventory.new_segment_meta.Goals as goal

pub returns : goal.returns
returns c = record { ok = c.track.ensures.ok; err = c.track.ensures.err }
