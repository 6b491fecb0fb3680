use Rattle.std.proofs.Common.{◌≡◌, filter}
use Rattle.std.specs.Prelude.{is_some}
use Rattle.std.specs.List.{list_any}
use Rattle.tv_snapshots.proofs.readers.Readers.is_unfinished.Given as goal

abbrev pub invariant-loop-reader : goal.invariant-loop-reader
invariant-loop-reader l = list_any (λ e. is_some e.1.reload) (filter (λ e. e.1.has_notice) l.reader-iterator) ≡ list_any (λ e. is_some e.1.reload) (filter (λ e. e.1.has_notice) l.self.readers)
