use Rattle.tv_index.proofs.index.Index.exists.Goals as goal

pub returns : goal.returns
returns g c = record { answer = c.exists.ensures.answer; faults = c.exists.ensures.faults; frame = c.exists.ensures.frame; images = c.exists.ensures.images }
