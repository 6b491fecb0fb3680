-- What a store keeps in memory, and the state of the machine that it holds with what its directory reads.
use Rattle.std.specs.Prelude.{ℕ, ◌≡◌, ◌≤◌, Bool, true, false, List, length, Option, Some, None, IsSome, is_some}
use Rattle.std.specs.List.{AllByRecursion}
use Rattle.tv_formats.specs.Names.{has, meta_name, at}
use Rattle.tv_formats.specs.Files.{Reads}
use Rattle.tv_formats.specs.Listing.{Listing}
use Rattle.tv_formats.specs.Commits.{IndexForm, IsSegment}
use Rattle.tv_formats.specs.Meaning.{Means}
use Rattle.tv_formats.specs.Collections.{Collections}
use Rattle.tv_machine.specs.State.{Catalog, State, FileState, SealedFile, Open, Left, file_at}
use Rattle.tv_machine.specs.Index.{IsFileOf}
use Rattle.tv_device.specs.declared.directory.Directory.{Ghosts}
use Rattle.tv_managed.specs.Names.{ManagedNames}
use Rattle.tv_catalog.specs.Kept.{KeptState, KnownState}

-- how a store stands: whether the next event may be applied
pub record Standing : Type 0 where
  pub is_open : Bool

-- a store: what it keeps in memory, its directory, and how it stands
pub record StoreState (O : Type 0) : Type 0 where
  pub kept : KeptState
  pub outside : O
  pub standing : Standing

-- the files of a store: its directory, its index's settings and schema, the managed names, the unfinished
-- collections, what was written to each open file, the files that were left, and whether the meta lock is
-- kept for a reload
pub record FilesState (O : Type 0) : Type 0 where
  pub outside : O
  pub form : IndexForm
  pub managed : List (List ℕ)
  pub collections : Collections
  pub open_files : List (List ℕ × List ℕ)
  pub left : List (List ℕ)
  pub locked : Bool

-- the directory, with what is kept of its names
abbrev pub names_below : {O : Type 0} → FilesState O → O × ManagedNames
names_below files = (files.outside, record { managed = files.managed; collections = files.collections })

-- the same of a store
abbrev pub kept_below : {O : Type 0} → StoreState O → O × ManagedNames
kept_below store =
    (store.outside, record { managed = store.kept.managed; collections = store.kept.collections })

-- what is known of the files of a store without asking the device
abbrev pub known_of : {O : Type 0} → FilesState O → KnownState
known_of files = record {
  form = files.form;
  managed = files.managed;
  collections = files.collections;
  open_files = files.open_files;
  left = files.left;
}

-- what a store keeps of an index, with this catalog and these files
abbrev pub kept_of : {O : Type 0} → Catalog → FilesState O → KeptState
kept_of catalog files = record {
  form = files.form;
  catalog = catalog;
  managed = files.managed;
  collections = files.collections;
  open_files = files.open_files;
  left = files.left;
}

-- a file of the machine, next to what its name reads and what was written to it
abbrev pub FileHolds : Option FileState → Option (List ℕ) → Option (List ℕ) → Type 0
FileHolds None read written = (read ≡ None) × (written ≡ None)
FileHolds (Some (SealedFile bytes)) read written = (read ≡ Some bytes) × (written ≡ None)
FileHolds (Some (Open body)) read written = IsSome read × (written ≡ Some body)
FileHolds (Some Left) read written = IsSome read × (written ≡ None)

-- whether a file was left
abbrev pub is_left : Option FileState → Bool
is_left None = false
is_left (Some (SealedFile bytes)) = false
is_left (Some (Open body)) = false
is_left (Some Left) = true

-- what is read and what is kept hold this state
pub record Holds (reads : Reads) (kept : KeptState) (s : State) : Type 0 where
  pub catalog : kept.catalog ≡ s.catalog
  pub managed : kept.managed ≡ s.managed
  pub collections : kept.collections ≡ s.collections
  pub segments : AllByRecursion IsSegment s.catalog.live
  pub names : (n : List ℕ) → is_some (file_at s n) ≡ true → IsFileOf n
  pub files : (n : List ℕ) → IsFileOf n → FileHolds (file_at s n) (reads n) (at kept.open_files n)
  pub left : (n : List ℕ) → IsFileOf n → has kept.left n ≡ is_left (file_at s n)
  pub meta : (text : List ℕ) × (reads meta_name ≡ Some text)
      × Means kept.form.settings kept.form.schema text s.catalog.commit
  pub listing : Listing reads s.managed
  pub listed : has s.managed meta_name ≡ true

-- The directory and what the store keeps hold this state of the machine.
abbrev pub IsHeld : {O W C : Type 0} → Ghosts O W C → StoreState O → State → Type 0
IsHeld g store s = Holds (g.view store.outside).reads store.kept s

-- no open file has more bytes than this
abbrev pub AtMost : ℕ → KeptState → Type 0
AtMost bound kept = AllByRecursion (λ e. length e.1 ≤ bound) kept.open_files
