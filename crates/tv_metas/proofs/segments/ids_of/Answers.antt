use Rattle.tv_metas.proofs.Lists.{all_of, one_more}
use Rattle.tv_metas.proofs.segments.ids_of.Goals as goal

pub loop-segment-preserved : goal.loop-segment-preserved
loop-segment-preserved c =
    one_more (λ s. s.segment_id) c.args.segments.now c.loop-segment.segment-index c.segment-item.result c.loop-segment.ids.items c.push.new.self.items
    c.loop-segment-test.true c.segment-item.is c.loop-segment.invariant c.in_ok-push.ensures.items

pub returns : goal.returns
returns c = all_of (λ s. s.segment_id) c.args.segments.now c.loop-segment.segment-index c.loop-segment.ids.items c.loop-segment-test.false c.loop-segment.invariant
