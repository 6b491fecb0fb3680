use Rattle.tv_framing.proofs.Proxied.{one_step, two_steps}
use Rattle.tv_framing.proofs.composite_write.finish.Goals as goal

pub returns-in_err-write_all-clause-stays : goal.returns-in_err-write_all-clause-stays
returns-in_err-write_all-clause-stays g c = one_step _ _ _ c.write_all.ensures.stays

pub returns-clause-stays : goal.returns-clause-stays
returns-clause-stays g c = two_steps _ _ _ _ c.write_all.ensures.stays c.terminate.ensures.stays
