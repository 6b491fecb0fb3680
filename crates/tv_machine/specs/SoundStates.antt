-- What every step keeps of a state whose directory is sound.
use Rattle.std.specs.Prelude.{ℕ, ◌≡◌, ◌⊎◌, ◌<◌, ◌≤◌, true, false, List, None, Some, is_some}
use Rattle.std.specs.List.{AllByRecursion}
use Rattle.std.specs.List.Sorted.{IsStrictlySortedBy}
use Rattle.tv_formats.specs.declared.segment.LiveSegment.{LiveSegment}
use Rattle.tv_formats.specs.Names.{byte_cmp, has, meta_name}
use Rattle.tv_formats.specs.Footer.{IsGood}
use Rattle.tv_formats.specs.Segments.{num_deleted, all_required}
use Rattle.tv_formats.specs.Collections.{Collection, AreOnce, Rises, collection_at, held}
use Rattle.tv_formats.specs.Commits.{Commit}
use Rattle.tv_machine.specs.CommitEvents.{last_stamp, is_sealed}
use Rattle.tv_machine.specs.Living.{living, kept_commits}
use Rattle.tv_machine.specs.State.{State, SealedFile, file_at}
use Rattle.tv_machine.specs.Index.{IsFileOf}

-- What holds of unfinished collections and of the names that they took.
pub record CollectsSoundly (s : State) : Type 0 where
  -- they are managed
  pub managed : (n : List ℕ) → has (held s.collections) n ≡ true → has s.managed n ≡ true
  -- and nothing needs them
  pub spared : (n : List ℕ) → has (held s.collections) n ≡ true → has (living s.catalog) n ≡ false
  -- no two collections have a name in common, and none has one twice
  pub once : AreOnce (held s.collections)
  -- what is done has no file
  pub gone : (number : ℕ) (c : Collection) (n : List ℕ) → collection_at s.collections number ≡ Some c
      → has c.done n ≡ true → file_at s n ≡ None
  -- the next number and those after it are free
  pub free : (number : ℕ) → s.collections.next ≤ number → collection_at s.collections number ≡ None
  -- the collections stand in the order of their numbers, and the managed names in theirs
  pub ordered : Rises s.collections.unfinished
  pub sorted : IsStrictlySortedBy byte_cmp s.managed

-- the files that a commit requires are sealed
abbrev pub HasSealedFiles : State → Commit → Type 0
HasSealedFiles s commit = (n : List ℕ) → has (all_required commit.segments) n ≡ true
    → is_sealed (file_at s n) ≡ true

-- no unfinished collection holds a file that a commit requires
abbrev pub IsUnheld : State → Commit → Type 0
IsUnheld s commit = (n : List ℕ) → has (all_required commit.segments) n ≡ true
    → has (held s.collections) n ≡ false

-- The files that the kept commits require are sealed, and no unfinished collection holds them; and what holds
-- of unfinished collections from a sound start on (`CollectsSoundly`) does so.
pub record IsWhole (s : State) : Type 0 where
  -- the files of each kept commit are sealed
  pub each : AllByRecursion (HasSealedFiles s) (kept_commits s.catalog)
  -- and no unfinished collection holds one of them
  pub unheld : AllByRecursion (IsUnheld s) (kept_commits s.catalog)
  -- collections took managed names alone that nothing needs, each name once, and what is done has no file
  pub collecting : CollectsSoundly s

-- what is sealed of the files that these segments require has a body and a footer
abbrev pub AreGood : State → List (List ℕ × LiveSegment) → Type 0
AreGood s segments =
    (n bytes : List ℕ) → has (all_required segments) n ≡ true
    → file_at s n ≡ Some (SealedFile bytes) → IsGood bytes

-- no more documents of a segment are deleted than it has
abbrev pub AreWithin : List (List ℕ × LiveSegment) → Type 0
AreWithin segments = AllByRecursion (λ e. num_deleted e.1.deletes ≤ e.1.max_doc) segments

-- The state of a sound directory. Files that neither a kept commit nor a live segment requires may be
-- anything.
pub record IsSoundState (s : State) : Type 0 where
  -- `meta.json` is managed
  pub meta : has s.managed meta_name ≡ true
  -- a file's name has no dot in front, and isn't `meta.json`
  pub names : (n : List ℕ) → is_some (file_at s n) ≡ true → IsFileOf n
  -- a file is managed
  pub listed : (n : List ℕ) → is_some (file_at s n) ≡ true → has s.managed n ≡ true
  -- the files that the kept commits require are sealed, and unfinished collections are sound
  pub whole : IsWhole s
  -- the files of each kept commit have a body and a footer
  pub good : AllByRecursion (λ commit. AreGood s commit.segments) (kept_commits s.catalog)
  -- so has what is sealed of the files that the live segments require
  pub live : AreGood s s.catalog.live
  -- the next commit gets a higher number than the current one has, or both numbers are the end of 64 bits
  pub stamps : (s.catalog.commit.opstamp < s.catalog.next)
      ⊎ ((s.catalog.commit.opstamp ≡ last_stamp) × (s.catalog.next ≡ last_stamp))
  -- no segment of a kept commit, and no live one, has more deleted documents than documents
  pub within : AllByRecursion (λ commit. AreWithin commit.segments) (kept_commits s.catalog)
  pub live_within : AreWithin s.catalog.live
