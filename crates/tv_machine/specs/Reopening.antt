-- What an opening finds of the files that were left, and that it finds one state.
use Rattle.std.specs.Prelude.{ℕ, ◌≡◌, List, map, Option, Some, None}
use Rattle.tv_formats.specs.Files.{Reads}
use Rattle.tv_machine.specs.State.{State, FileState, SealedFile, Open, Left, file_at}

-- a file that was left is found with the bytes that its name reads, and a sealed one as it is
abbrev pub found_file : FileState → (read : Option (List ℕ)) → FileState
found_file (SealedFile bytes) read = SealedFile bytes
found_file (Open body) read = Open body
found_file Left None = Left
found_file Left (Some bytes) = SealedFile bytes

-- the state with its files as such a directory reads them
abbrev pub found_in : Reads → State → State
found_in reads s = record s { files = map (λ e. (e.0, found_file e.1 (reads e.0))) s.files }

-- Two states have the same catalog, managed names and collections, and at each name the same file; how their
-- files are listed may differ.
pub record AreAlike (s t : State) : Type 0 where
  pub catalog : s.catalog ≡ t.catalog
  pub files : (n : List ℕ) → file_at s n ≡ file_at t n
  pub managed : s.managed ≡ t.managed
  pub collections : s.collections ≡ t.collections
