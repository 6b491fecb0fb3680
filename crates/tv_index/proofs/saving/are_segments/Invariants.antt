use Rattle.std.proofs.Common.{drop, map}
use Rattle.std.specs.List.{AllByRecursion}
use Rattle.tv_formats.specs.Commits.{IsSegment}
use Rattle.tv_index.proofs.saving.are_segments.Given as goal

abbrev pub invariant-loop-segment : goal.invariant-loop-segment
invariant-loop-segment l = AllByRecursion IsSegment (map (λ s. s.1) (drop l.segment-index l.segments)) → AllByRecursion IsSegment (map (λ s. s.1) l.segments)
