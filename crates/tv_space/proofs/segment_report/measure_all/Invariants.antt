use Rattle.std.proofs.Common.{map, take, string_bytes}
use Rattle.tv_space.specs.Measuring.{AreMeasured}
use Rattle.tv_space.proofs.segment_report.measure_all.Given as goal

abbrev pub invariant-loop-segment : goal.invariant-loop-segment
invariant-loop-segment l = AreMeasured (map string_bytes l.names) (take l.segment-index l.segments) l.reports.items
