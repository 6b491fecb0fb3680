use Rattle.std.proofs.Common.{◌≡◌, ◌==◌, take}
use Rattle.std.specs.List.{slice_split, sum_by}
use Rattle.tv_replay.specs.Summaries.{deleted_in}
use Rattle.tv_replay.proofs.summary.collected_in.Given as goal

abbrev pub invariant-loop-line : goal.invariant-loop-line
invariant-loop-line l = l.collected ≡ sum_by (λ line. deleted_in (slice_split (λ b. b == 32) line.now)) (take l.line-index l.line-items)
