use Rattle.std.proofs.Common.{◌≡◌, codes, decimal, filter, map}
use Rattle.tv_events.specs.AnswerLines.{line}
use Rattle.tv_snapshots.proofs.readers.Readers.delivered_line.Given as goal

abbrev pub invariant-loop-number : goal.invariant-loop-number
invariant-loop-number l = line l.answer (map (λ e. decimal e.0) (filter (λ e. e.1.has_notice) l.number-iterator)) ≡ line (codes "delivered") (map (λ e. decimal e.0) (filter (λ e. e.1.has_notice) l.self.readers))
