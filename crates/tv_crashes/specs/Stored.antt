-- What an index stores, and what a crash may leave of it.
use Rattle.std.specs.Prelude.{ℕ, ◌≡◌, ◌⊎◌, true, List, [], ◌∷◌, map, Option, Some, None}
use Rattle.tv_formats.specs.Commits.{Commit, IndexForm, Settings, default_settings, first_commit, required_by}
use Rattle.tv_formats.specs.Disk.{Disk, DiskState, Absent, Unsealed, Sealed, Possible, IsImage, possible_now}
use Rattle.tv_formats.specs.Files.{Reads}
use Rattle.tv_formats.specs.Listed.{ListsEachFile, ListsItsFiles}
use Rattle.tv_formats.specs.Meaning.{Means}
use Rattle.tv_formats.specs.Names.{has, meta_name}
use Rattle.tv_formats.specs.Sound.{IsSoundImage}
use Rattle.tv_machine.specs.State.{State, FileState, SealedFile, Open, Left, file_at}

-- What an index stores: its settings and its schema, the current commit, the pinned commits by the names of
-- their pins, and the bytes with which each file is sealed.
pub record Stored : Type 0 where
  pub form : IndexForm
  pub commit : Commit
  pub pins : List (List ℕ × Commit)
  pub bytes : Reads

-- the bytes with which a file is sealed, where it is
abbrev pub sealed_bytes : Option FileState → Option (List ℕ)
sealed_bytes None = None
sealed_bytes (Some (SealedFile bytes)) = Some bytes
sealed_bytes (Some (Open body)) = None
sealed_bytes (Some Left) = None

-- what an index in this state stores; so far no commit is pinned
abbrev pub stored_of : IndexForm → State → Stored
stored_of form s =
    record { form = form; commit = s.catalog.commit; pins = []; bytes = λ n. sealed_bytes (file_at s n) }

-- this file is required, by the current commit or by a pinned one
abbrev pub Requires : Stored → List ℕ → Type 0
Requires c n = has (required_by (c.commit ∷ map (λ pin. pin.1) c.pins)) n ≡ true

-- this text of `meta.json` means the current commit
abbrev pub MeansStored : (text : List ℕ) → Stored → Type 0
MeansStored text c = Means c.form.settings c.form.schema text c.commit

-- ---- what an image shows

-- The image shows what is stored, whole: `meta.json` means the current commit, and each required file has
-- exactly the bytes with which it is sealed.
pub record ShowsWhole (image : Reads) (c : Stored) : Type 0 where
  pub meta : (text : List ℕ) × (image meta_name ≡ Some text) × MeansStored text c
  pub files : (n : List ℕ) → Requires c n
      → (bytes : List ℕ) × (c.bytes n ≡ Some bytes) × (image n ≡ Some bytes)

-- the image shows the one or the other whole, and each of its undotted files is listed
pub record ShowsEither (image : Reads) (before after : Stored) : Type 0 where
  pub whole : ShowsWhole image before ⊎ ShowsWhole image after
  pub listed : ListsItsFiles image

-- ---- what each moment keeps

-- `meta.json` in this state means the current commit
abbrev pub StateMeans : DiskState → Stored → Type 0
StateMeans Absent c = ⊥
StateMeans Unsealed c = ⊥
StateMeans (Sealed text) c = MeansStored text c

-- each required file has one possible state: sealed with its bytes
pub record HasOneState (possible : Possible) (c : Stored) : Type 0 where
  pub each : (n : List ℕ) → Requires c n
      → (bytes : List ℕ) × (c.bytes n ≡ Some bytes) × ((s : DiskState) → possible n s → s ≡ Sealed bytes)

-- `meta.json` in this state means the current commit, and each required file, also of a pinned commit, has
-- one possible state
abbrev pub IsMetaOf : Possible → (meta : DiskState) → Stored → Type 0
IsMetaOf possible meta c = StateMeans meta c × HasOneState possible c

-- In each possible state `meta.json` means the commit of one of the two, and each file that this one
-- requires, also of a pinned commit, then has one possible state.
pub record IsStored (before after : Stored) (possible : Possible) : Type 0 where
  pub each : (meta : DiskState) → possible meta_name meta
      → IsMetaOf possible meta before ⊎ IsMetaOf possible meta after

-- the one or the other is stored, and the list forgets no file
pub record IsSafe (before after : Stored) (possible : Possible) : Type 0 where
  pub listed : ListsEachFile possible
  pub stored : IsStored before after possible

-- ---- what an opening leaves before its line

-- the image reads `meta.json`, and each file that the commit of it requires, as this earlier one does
pub record HasCommitOf (schema : List ℕ) (earlier image : Reads) : Type 0 where
  pub meta : image meta_name ≡ earlier meta_name
  pub files : (settings : Settings) (text : List ℕ) (commit : Commit)
      → image meta_name ≡ Some text → Means settings schema text commit
      → (n : List ℕ) → has (required_by (commit ∷ [])) n ≡ true → image n ≡ earlier n

-- `meta.json` means the empty commit of a new index
abbrev pub HasNewCommit : (schema : List ℕ) → Reads → Type 0
HasNewCommit schema image =
    (text : List ℕ) × (image meta_name ≡ Some text) × Means default_settings schema text first_commit

-- What a crash may leave of an opening from this disk, before its line is told: a sound image with the commit
-- of an image of the start, or, where there was no `meta.json`, with that of the new index.
pub record IsFromStart (schema : List ℕ) (start : Disk) (image : Reads) : Type 0 where
  pub sound : IsSoundImage schema image
  pub commit : ((earlier : Reads) × IsImage (possible_now start) earlier × HasCommitOf schema earlier image)
      ⊎ ((start.now meta_name ≡ Absent) × HasNewCommit schema image)
