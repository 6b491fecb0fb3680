use Rattle.tv_snapshots.specs.Reloads.{CanServe}
use Rattle.tv_snapshots.proofs.readers.Readers.is_spent.Given as goal

abbrev pub invariant-loop-reader : goal.invariant-loop-reader
invariant-loop-reader l = CanServe l.reader-iterator → CanServe l.self.readers
