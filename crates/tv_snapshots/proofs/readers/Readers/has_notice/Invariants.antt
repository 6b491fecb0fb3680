use Rattle.std.proofs.Common.{◌≡◌}
use Rattle.std.specs.List.{list_any}
use Rattle.tv_snapshots.proofs.readers.Readers.has_notice.Given as goal

abbrev pub invariant-loop-reader : goal.invariant-loop-reader
invariant-loop-reader l = list_any (λ e. e.1.has_notice) l.reader-iterator ≡ list_any (λ e. e.1.has_notice) l.self.readers
