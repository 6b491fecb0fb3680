-- Which directories are sound, and what an opening finds there.
use Rattle.std.specs.Prelude.{ℕ, ◌≡◌, Bool, true, false, List, [], ◌∷◌, Option, Some, None, IsSome}
use Rattle.std.specs.BTreeSet.{insert_key}
use Rattle.tv_formats.specs.Names.{byte_cmp, has, is_undotted, meta_name}
use Rattle.tv_formats.specs.Disk.{Disk, IsImage, possible_now}
use Rattle.tv_formats.specs.Files.{Reads}
use Rattle.tv_formats.specs.Footer.{IsGood}
use Rattle.tv_formats.specs.Listing.{Listing}
use Rattle.tv_formats.specs.Commits.{required_by, Commit, Settings, default_settings, first_commit}
use Rattle.tv_formats.specs.Meaning.{Means}

-- the files that these commits require are there and can be read
pub record HasFiles (reads : Reads) (commits : List Commit) : Type 0 where
  pub each : (n : List ℕ) → has (required_by commits) n ≡ true
      → (bytes : List ℕ) × (reads n ≡ Some bytes) × IsGood bytes

-- `meta.json` is absent, or it means a commit whose required files are there and can be read
abbrev pub IsSoundMeta : List ℕ → Reads → Option (List ℕ) → Type 0
IsSoundMeta schema reads None = Unit {0}
IsSoundMeta schema reads (Some text) =
    (settings : Settings) × (commit : Commit) × Means settings schema text commit
    × HasFiles reads (commit ∷ [])

-- what is read is sound: every undotted file is listed, and the commit's files can be read
pub record IsSoundImage (schema : List ℕ) (reads : Reads) : Type 0 where
  pub names : List (List ℕ)
  pub listing : Listing reads names
  pub listed : (n : List ℕ) → is_undotted n ≡ true → IsSome (reads n) → has names n ≡ true
  pub commit : IsSoundMeta schema reads (reads meta_name)

-- A sound start: what is read is sound, and no lock is held.
pub record IsSoundStart (schema : List ℕ) (reads : Reads) (held : List ℕ → Bool) : Type 0 where
  pub image : IsSoundImage schema reads
  pub free : (lock : List ℕ) → held lock ≡ false

-- A sound directory, where it is told what a crash may leave: every image that a crash now may leave is
-- sound, and no lock is held.
pub record IsSoundDirectory (schema : List ℕ) (disk : Disk) (held : List ℕ → Bool) : Type 0 where
  pub images : (image : Reads) → IsImage (possible_now disk) image → IsSoundImage schema image
  pub free : (lock : List ℕ) → held lock ≡ false

-- the settings and the commit of the index that stands: those that `meta.json` means, or, where there is
-- none, those of a new index
abbrev pub FindsCommit : (schema : List ℕ) → Option (List ℕ) → Settings → Commit → Type 0
FindsCommit schema None settings commit = (settings ≡ default_settings) × (commit ≡ first_commit)
FindsCommit schema (Some text) settings commit = Means settings schema text commit

-- the managed names of an index that was opened: those on the list, and `meta.json`, which is made where
-- there is none
abbrev pub managed_with : Option (List ℕ) → List (List ℕ) → List (List ℕ)
managed_with None listed = insert_key byte_cmp listed meta_name
managed_with (Some text) listed = listed
