use Rattle.std.proofs.Common.{◌≡◌, take}
use Rattle.tv_space.specs.ReportLines.{segment_lines, total_of}
use Rattle.tv_space.proofs.printing.report_text.Given as goal

abbrev pub invariant-loop-report : goal.invariant-loop-report
invariant-loop-report l = record {
  text : l.text.items ≡ segment_lines (take l.report-index l.reports);
  sum : l.sum.0 ≡ total_of (take l.report-index l.reports);
}
