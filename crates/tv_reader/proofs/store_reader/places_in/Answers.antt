use Rattle.tv_reader.proofs.StoreBodies.{reads_all, reads_on, stops_short}
use Rattle.tv_reader.proofs.store_reader.places_in.Goals as goal

pub returns-in_default : goal.returns-in_default
returns-in_default c = stops_short _ _ _ c.loop-end.invariant c.loop-end-test.true c.in_default.ensures

pub loop-end-preserved : goal.loop-end-preserved
loop-end-preserved c = reads_on _ _ _ _ _ c.loop-end.invariant c.in-Some.ensures c.in_ok-push.ensures.items

pub returns : goal.returns
returns c = reads_all _ _ _ c.loop-end.invariant c.loop-end-test.false
