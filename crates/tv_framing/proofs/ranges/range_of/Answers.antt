use Rattle.tv_framing.proofs.Parts.{range_inside, start_front}
use Rattle.tv_framing.proofs.ranges.range_of.Goals as goal

pub returns-then-is_at-clause-inside : goal.returns-then-is_at-clause-inside
returns-then-is_at-clause-inside c =
    range_inside c.args.starts.now c.loop-i.i c.loop-i.invariant.0.0 c.args.end c.end_of.result c.index-starts-i.result
    (start_front c.args.starts.now c.loop-i.i c.index-starts-i.result c.loop-i-test.true c.index-starts-i.is) c.loop-i.invariant.0.1 c.end_of.ensures
