-- What a call does that opens the files of a store again.
use Rattle.std.specs.Prelude.{ℕ, ◌≡◌, ◌||◌, List, [], is_some}
use Rattle.tv_formats.specs.Collections.{no_collections}
use Rattle.tv_formats.specs.Names.{has, at}
use Rattle.tv_store.specs.Kept.{FilesState}

-- The open files are left, beside those that were, and no collection is unfinished.
pub record Reopens {O : Type 0} (old new : FilesState O) : Type 0 where
  pub open_files : new.open_files ≡ []
  pub left : (n : List ℕ) → has new.left n ≡ (has old.left n || is_some (at old.open_files n))
  pub collections : new.collections ≡ no_collections
