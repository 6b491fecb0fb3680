use Rattle.std.proofs.Common.{◌<◌, ◌∙◌, ap, length, map, arith}
use Rattle.std.proofs.lemmas.List.{take_all}
use Rattle.std.specs.BTreeMap.{insert_entry}
use Rattle.tv_formats.specs.Names.{byte_cmp}
use Rattle.tv_formats.specs.declared.segment.LiveSegment.{LiveSegment}
use Rattle.tv_metas.specs.Segments.{entry_of}
use Rattle.tv_snapshots.proofs.SegmentOrder.{next_segment}
use Rattle.tv_snapshots.proofs.commit.segments_by_id.Goals as goal

pub loop-segment-preserved : goal.loop-segment-preserved
loop-segment-preserved c =
    let within : c.loop-segment.segment-index < length c.args.segments.now = omega arith in
    next_segment entry_of c.args.segments.now c.loop-segment.segment-index c.segment-item.result c.loop-segment.by_id.entries c.insert.new.self.entries within c.segment-item.is
    (c.in_ok-insert.ensures.entries ∙ ap (λ (live : LiveSegment). insert_entry byte_cmp c.loop-segment.by_id.entries c.segment-item.result.segment_id live) c.live.ensures) c.loop-segment.invariant

pub returns : goal.returns
returns c =
    c.loop-segment.invariant c.requires ∙ ap (map entry_of) (take_all c.loop-segment.segment-index c.args.segments.now (omega arith))
