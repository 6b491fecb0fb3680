use Rattle.std.proofs.Common.{◌≡◌, ◌+◌, drop, map}
use Rattle.tv_replay.specs.Summaries.{before_failed}
use Rattle.tv_replay.proofs.summary.before_failed.Given as goal

abbrev pub invariant-loop-word : goal.invariant-loop-word
invariant-loop-word l = (before_failed (map (λ w. w.now) l.words) ≡ l.count + before_failed (map (λ w. w.now) (drop l.word-index l.words))) × (l.count ≡ l.word-index)
