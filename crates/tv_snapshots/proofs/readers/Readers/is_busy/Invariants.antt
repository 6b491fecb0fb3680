use Rattle.std.proofs.Common.{◌≡◌}
use Rattle.std.specs.List.{list_any}
use Rattle.tv_machine.specs.Living.{is_locked}
use Rattle.tv_snapshots.proofs.readers.Readers.is_busy.Given as goal

abbrev pub invariant-loop-reader : goal.invariant-loop-reader
invariant-loop-reader l = list_any (λ e. is_locked e.1) l.reader-iterator ≡ list_any (λ e. is_locked e.1) l.self.readers
