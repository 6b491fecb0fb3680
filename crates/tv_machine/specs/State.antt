-- The state of the machine.
use Rattle.std.specs.Prelude.{ℕ, Bool, List, [], Option}
use Rattle.std.specs.Map.{lookup}
use Rattle.std.specs.BTreeMap.{is_at, insert_entry}
use Rattle.std.specs.Ordering.{nat_cmp}
use Rattle.tv_events.specs.declared.reload_policy.ReloadPolicy.{ReloadPolicy}
use Rattle.tv_formats.specs.declared.segment.LiveSegment.{LiveSegment}
use Rattle.tv_formats.specs.Names.{byte_cmp, at}
use Rattle.tv_formats.specs.Collections.{Collections}
use Rattle.tv_formats.specs.Commits.{Commit}

-- a file: sealed with its bytes, open with what was written so far, or left, which is neither sealed nor
-- written any more
pub data FileState : Type 0 where
  SealedFile : List ℕ → FileState
  Open : List ℕ → FileState
  Left : FileState

-- What is shown of a commit: under which number of its reader, the commit, and of each of its segments the
-- bodies of the required files, in their order.
pub record Snapshot : Type 0 where
  pub generation : ℕ
  pub commit : Commit
  pub bodies : List (List (List ℕ))

-- A reload in steps that isn't finished: the meta lock is held, and the commit is noted whose files are to be
-- read; or they are read, with these bodies, and the lock is free.
pub data Reload : Type 0 where
  Locked : Commit → Reload
  Read : Commit → List (List (List ℕ)) → Reload

-- a reader: when it is to reload, the number of the next snapshot, the one that it shows, whether it has a
-- notice of a commit, which `deliver` serves, and its reload in steps, where one isn't finished
pub record Reader : Type 0 where
  pub policy : ReloadPolicy
  pub next : ℕ
  pub shown : Snapshot
  pub has_notice : Bool
  pub reload : Option Reload

-- the readers and the searchers by their numbers, and the numbers that the next ones get
pub record Readers : Type 0 where
  pub readers : List (ℕ × Reader)
  pub searchers : List (ℕ × Snapshot)
  pub next_reader : ℕ
  pub next_searcher : ℕ

-- nobody reads
abbrev pub no_readers : Readers
no_readers = record { readers = []; searchers = []; next_reader = 0; next_searcher = 0 }

-- what is known of an index beside its files and their names: the live segments, the number that the next
-- commit gets, the current commit, and who reads
pub record Catalog : Type 0 where
  pub live : List (List ℕ × LiveSegment)
  pub next : ℕ
  pub commit : Commit
  pub reading : Readers

-- the catalog of an index; its files, whose names have no dot in front, `meta.json` apart; the managed names;
-- and the unfinished collections
pub record State : Type 0 where
  pub catalog : Catalog
  pub files : List (List ℕ × FileState)
  pub managed : List (List ℕ)
  pub collections : Collections

-- an answer line, and what stands after it
abbrev pub StepResult : Type 0 → Type 0
StepResult S = List ℕ × S

-- the live segment of an id, where there is one
abbrev pub live_at : Catalog → List ℕ → Option LiveSegment
live_at c id = at c.live id

-- the file of a name, where there is one
abbrev pub file_at : State → List ℕ → Option FileState
file_at s name = at s.files name

-- the catalog with this live segment under its id
abbrev pub with_live : Catalog → List ℕ → LiveSegment → Catalog
with_live c id segment = record c { live = insert_entry byte_cmp c.live id segment }

-- the state with this file under its name
abbrev pub with_file : State → List ℕ → FileState → State
with_file s name file = record s { files = insert_entry byte_cmp s.files name file }

-- what stands at a number
abbrev pub at_number : {X : Type 0} → List (ℕ × X) → ℕ → Option X
at_number entries number = lookup (is_at (nat_cmp number)) entries

-- the reader of a number, where there is one
abbrev pub reader_at : Catalog → ℕ → Option Reader
reader_at c number = at_number c.reading.readers number

-- what the searcher of a number shows, where there is one
abbrev pub searcher_at : Catalog → ℕ → Option Snapshot
searcher_at c number = at_number c.reading.searchers number

-- what a step of the catalog tells, and the state with the catalog after it
abbrev pub on_catalog : State → StepResult Catalog → StepResult State
on_catalog s result = (result.0, record s { catalog = result.1 })
