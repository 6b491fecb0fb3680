-- How far the numbers of readers, of their snapshots, of searchers and of collections have come.
use Rattle.std.specs.Prelude.{ℕ, ◌≤◌}
use Rattle.std.specs.List.{AllByRecursion}
use Rattle.tv_formats.specs.Collections.{Collections}
use Rattle.tv_machine.specs.State.{Readers}

-- none of the numbers that are given next is above this
pub record FewNumbers (bound : ℕ) (reading : Readers) (collections : Collections) : Type 0 where
  pub next_reader : reading.next_reader ≤ bound
  pub next_searcher : reading.next_searcher ≤ bound
  pub next_collection : collections.next ≤ bound
  pub next_snapshots : AllByRecursion (λ e. e.1.next ≤ bound) reading.readers
