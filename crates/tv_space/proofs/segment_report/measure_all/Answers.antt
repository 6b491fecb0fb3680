use Rattle.std.proofs.Common.{◌<◌, length, map, string_bytes, arith}
use Rattle.tv_space.proofs.Measures.{bad_at, measured_more}
use Rattle.tv_space.proofs.segment_report.measure_all.Goals as goal

pub loop-segment-preserved : goal.loop-segment-preserved
loop-segment-preserved c =
    let within : c.loop-segment.segment-index < length c.args.segments.now = omega arith in
    measured_more (map string_bytes c.args.names.now) c.args.segments.now c.loop-segment.segment-index c.segment-item.result c.loop-segment.reports.items c.push.new.self.items (record { id = c.segment_id.result; space = c.in_ok-space.space })
    within c.segment-item.is c.loop-segment.invariant (record { id_is = c.segment_id.ensures.id; takes = c.in_ok-space.ensures.ok }) c.in_ok-push.ensures.items

pub returns-in_err-space-clause-outside : goal.returns-in_err-space-clause-outside
returns-in_err-space-clause-outside c =
    let within : c.loop-segment.segment-index < length c.args.segments.now = omega arith in
    bad_at (map string_bytes c.args.names.now) c.args.segments.now c.loop-segment.segment-index c.segment-item.result c.from_residual.result c.in_err-space.field-0.0 c.from_residual.ensures.1 within c.segment-item.is c.in_err-space.ensures.outside
