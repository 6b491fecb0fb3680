use Rattle.std.proofs.Common.{◌≡◌, take}
use Rattle.tv_framing.specs.Usage.{capped}
use Rattle.tv_framing.specs.Segments.{segments_sum}
use Rattle.tv_framing.proofs.searcher_usage.sum_of.Given as goal

abbrev pub invariant-loop-segment : goal.invariant-loop-segment
invariant-loop-segment l = l.sum.0 ≡ capped (segments_sum (take l.segment-index l.segments))
