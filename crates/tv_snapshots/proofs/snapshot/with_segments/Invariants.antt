use Rattle.std.proofs.Common.{◌≡◌, map, drop}
use Rattle.tv_events.specs.AnswerLines.{segment_word, line}
use Rattle.tv_snapshots.proofs.snapshot.with_segments.Given as goal

abbrev pub invariant-loop-reader : goal.invariant-loop-reader
invariant-loop-reader l =
    line l.whole (map segment_word (map (λ r. (r.id, r.segment)) (drop l.reader-index l.segments))) ≡ line l.initial.whole (map segment_word (map (λ r. (r.id, r.segment)) l.segments))
