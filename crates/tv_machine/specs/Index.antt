-- An index in a directory.
use Rattle.std.specs.Prelude.{ℕ, ◌≡◌, ◌≢◌, ◌+◌, ◌==◌, true, List, [], ◌∷◌, Option, Some, None, IsSome, is_some, option_map, if◌then◌else◌}
use Rattle.tv_formats.specs.Names.{has, is_undotted, meta_name}
use Rattle.tv_formats.specs.Files.{Reads}
use Rattle.tv_formats.specs.Listing.{Listing}
use Rattle.tv_formats.specs.Commits.{Commit, Settings, IndexForm, first_commit}
use Rattle.tv_formats.specs.Schemas.{IsSchema}
use Rattle.tv_formats.specs.Meaning.{Means}
use Rattle.tv_formats.specs.Collections.{no_collections}
use Rattle.tv_machine.specs.CommitEvents.{last_stamp}
use Rattle.tv_machine.specs.State.{Catalog, State, FileState, SealedFile, Open, Left, file_at, no_readers}
use Rattle.tv_formats.specs.Sound.{FindsCommit, managed_with}

-- a file of the machine, next to what its name reads
abbrev pub FileReads : Option FileState → Option (List ℕ) → Type 0
FileReads None read = read ≡ None
FileReads (Some (SealedFile bytes)) read = read ≡ Some bytes
FileReads (Some (Open body)) read = IsSome read
FileReads (Some Left) read = IsSome read

-- the name is that of a file of the machine: it has no dot in front, and isn't `meta.json`
abbrev pub IsFileOf : List ℕ → Type 0
IsFileOf name = (is_undotted name ≡ true) × (name ≢ meta_name)

-- a directory that reads so holds this state, under these settings and this schema
pub record DirectoryHolds (settings : Settings) (schema : List ℕ) (reads : Reads) (s : State) : Type 0 where
  pub names : (n : List ℕ) → is_some (file_at s n) ≡ true → IsFileOf n
  pub files : (n : List ℕ) → IsFileOf n → FileReads (file_at s n) (reads n)
  pub meta : (text : List ℕ) × (reads meta_name ≡ Some text) × Means settings schema text s.catalog.commit
  pub listing : Listing reads s.managed

-- the number after a commit's
abbrev pub next_after : ℕ → ℕ
next_after opstamp = if opstamp == last_stamp then last_stamp else opstamp + 1

-- a directory that reads so opens to this state
pub record OpensTo (settings : Settings) (schema : List ℕ) (reads : Reads) (s : State) : Type 0 where
  pub listed : List (List ℕ)
  pub listing : Listing reads listed
  -- a `meta.json` that is there is on the list
  pub covered : IsSome (reads meta_name) → has listed meta_name ≡ true
  pub found : FindsCommit schema (reads meta_name) settings s.catalog.commit
  pub managed : s.managed ≡ managed_with (reads meta_name) listed
  pub live : s.catalog.live ≡ s.catalog.commit.segments
  pub next : s.catalog.next ≡ next_after s.catalog.commit.opstamp
  pub reading : s.catalog.reading ≡ no_readers
  pub collections : s.collections ≡ no_collections
  pub names : (n : List ℕ) → is_some (file_at s n) ≡ true → IsFileOf n
  pub files : (n : List ℕ) → IsFileOf n → file_at s n ≡ option_map SealedFile (reads n)

-- an index to which a directory opens that reads so, under the schema that these bytes spell
pub record OpenedIndex (schema : List ℕ) (reads : Reads) : Type 0 where
  pub form : IndexForm
  pub state : State
  pub spelled : IsSchema schema form.schema
  pub opens : OpensTo form.settings form.schema reads state

-- the index that stands in a directory which reads so, under the schema that these bytes spell; where there
-- is no `meta.json`, a new one
pub record FoundIndex (schema : List ℕ) (reads : Reads) : Type 0 where
  pub form : IndexForm
  pub commit : Commit
  pub listed : List (List ℕ)
  pub spelled : IsSchema schema form.schema
  pub listing : Listing reads listed
  pub found : FindsCommit form.schema (reads meta_name) form.settings commit

-- the commits whose files an opening of this index reads: the current one, and those that are pinned, of
-- which so far there are none
abbrev pub found_commits : {schema : List ℕ} {reads : Reads} → FoundIndex schema reads → List Commit
found_commits index = index.commit ∷ []

-- What an opening makes of a catalog: live are the segments of the current commit, the next one gets the
-- number after it, and nobody reads. The commit stays.
abbrev pub as_opened : Catalog → Catalog
as_opened c = record c {
  live = c.commit.segments;
  next = next_after c.commit.opstamp;
  reading = no_readers;
}

-- the catalog of an index that was just made
abbrev pub first_catalog : Catalog
first_catalog = record { live = []; next = 1; commit = first_commit; reading = no_readers }

-- the state of an index that was just made in a directory without files
abbrev pub first_state : State
first_state =
    record { catalog = first_catalog; files = []; managed = meta_name ∷ []; collections = no_collections }
