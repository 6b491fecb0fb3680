-- How an index is opened, or isn't.
use Rattle.std.specs.Prelude.{ℕ, ◌≡◌, true, List, Result, IfOk, IfErr, MatchResult}
use Rattle.tv_device.specs.declared.directory.Directory.{Ghosts}
use Rattle.tv_device.specs.Locks.{SameLocks, TakesLock}
use Rattle.tv_managed.specs.declared.managed_directory.Refused.{Refused}
use Rattle.tv_formats.specs.Collections.{no_collections}
use Rattle.tv_formats.specs.Files.{Same}
use Rattle.tv_machine.specs.Lines.{opening_of}
use Rattle.tv_formats.specs.Schemas.{IsSchema}
use Rattle.tv_machine.specs.State.{no_readers}
use Rattle.tv_index.specs.Crashes.{LacksMeta, MayMake, OnlyLooks, TracksFrom}
use Rattle.tv_index.specs.Opening.{Finds, LeavesFound, NotesMade, NotesNone, first_text}
use Rattle.tv_machine.specs.Index.{FoundIndex, OpenedIndex, as_opened, found_commits}
use Rattle.tv_formats.specs.Sound.{HasFiles}
use Rattle.tv_machine.specs.Readable.{CanRead}
use Rattle.tv_store.specs.Kept.{StoreState, AtMost, kept_below, IsHeld}
use Rattle.tv_store.specs.Making.{LeavesRefused, WritesNone}
use Rattle.tv_store.specs.OpeningCauses.{OpeningCause, opening_facts}
use Rattle.tv_store.specs.StoreCauses.{writer_lock_name}
use Rattle.tv_store.specs.UnderLock.{OpensUnderLock, WritesUnderLock}
use Rattle.tv_store.specs.Stays.{MayNotify}
use Rattle.tv_store.specs.Telling.{TellsLine, TellsFirstPart, TellsNoLine}

-- An index with this schema is open in this directory: the one that stood there, of which no name was
-- touched, or a new one. What it keeps is its settings, its commit, and its list. It is each one to which the
-- directory opens, and holds its state; the files that it requires can be read. No open file has a byte,
-- nobody reads, and no collection was begun.
pub record Opens {O W C : Type 0} (g : Ghosts O W C) (outside : O) (schema : List ℕ)
    (store : StoreState O) : Type 0 where
  pub is_open : store.standing.is_open ≡ true
  pub spelled : IsSchema schema store.kept.form.schema
  pub finds : g.told.content
      → Finds (g.view outside).reads store.kept.form store.kept.catalog.commit store.kept.managed
  pub opened : store.kept.catalog ≡ as_opened store.kept.catalog
  pub left : g.told.content
      → LeavesFound (g.view outside).reads (g.view store.outside).reads store.kept.form.schema
  pub found : g.told.content → (index : FoundIndex schema (g.view outside).reads)
      × HasFiles (g.view outside).reads (found_commits index)
  pub holds : g.told.content → (index : OpenedIndex schema (g.view outside).reads)
      → (store.kept.form ≡ index.form) × IsHeld g store index.state × CanRead index.state
  pub lens : AtMost 0 store.kept
  pub numbers : store.kept.catalog.reading ≡ no_readers
  pub collections : store.kept.collections ≡ no_collections

-- A refusal takes no commit away: where `meta.json` was there, each name reads what it read, and where
-- it wasn't, there may be the first commit of a new index. That of an argument, of bytes or of the lock
-- changes nothing, nor does any while somebody else holds that lock.
pub record LeavesIndex {O W C : Type 0} (g : Ghosts O W C) (outside : O) (schema : List ℕ)
    (refused : Refused O) : Type 0 where
  pub leaves : g.told.content
      → LeavesRefused (g.view outside).reads (g.view refused.directory).reads schema
  pub unchanged : g.told.content → WritesNone g outside refused.error
      → Same (g.view outside).reads (g.view refused.directory).reads

-- The opening line was told; after a refusal no more than a first part of it was, without its line feed.
pub record TellsOpening {O W C : Type 0} (g : Ghosts O W C) (outside : O) (schema : List ℕ)
    (result : Result (StoreState O) (Refused O)) : Type 0 where
  pub ok : g.told.heard → IfOk result (λ store.
      TellsLine (g.view outside).heard (g.view store.outside).heard (g.view outside).moment
      (g.view store.outside).moment (opening_of store.kept.catalog.commit))
  pub err : g.told.heard
      → IfErr result (λ refused. TellsNoLine (g.view outside).heard (g.view refused.directory).heard)
  pub part : g.told.content → g.told.heard
      → IfErr result (λ refused. (index : FoundIndex schema (g.view outside).reads)
      → TellsFirstPart (g.view outside).heard (g.view refused.directory).heard (opening_of index.commit))

-- The writer lock was free, and is held, and all was read and written under it; after a refusal the
-- same locks are held as before, and nothing was written, or that lock was taken first.
pub record TakesWriterLock {O W C : Type 0} (g : Ghosts O W C) (outside : O)
    (result : Result (StoreState O) (Refused O)) : Type 0 where
  pub ok : g.told.locks → IfOk result (λ store.
      TakesLock (g.view outside).locks (g.view store.outside).locks writer_lock_name)
  pub under : IfOk result (OpensUnderLock g outside)
  pub err : g.told.locks → IfErr result (λ refused.
      SameLocks (g.view outside).locks (g.view refused.directory).locks)
  pub writes : IfErr result (λ refused. WritesUnderLock g outside refused.directory)

-- At Ok the device refused no call; and an opening fails for one of these causes, in their order.
pub record OpeningFaults {O W C : Type 0} (g : Ghosts O W C) (outside : O) (schema : List ℕ)
    (result : Result (StoreState O) (Refused O)) : Type 0 where
  pub quiet : IfOk result (λ store. (g.view store.outside).faults ≡ (g.view outside).faults)
  pub cause : IfErr result (λ refused.
      OpeningCause (opening_facts g outside refused.directory) schema (g.view outside).reads
      refused.error)

-- No writer lost its file, no delete was refused, nobody was registered or called, and no file with a
-- dot in front was changed but the list. A notice of the first commit may stand. Where the content is
-- told none came if there was a `meta.json`, and at Ok it stands if there was none. No notice came where
-- an argument, bytes or the lock were refused, nor while somebody else holds that lock.
pub record OpeningFrame {O W C : Type 0} (g : Ghosts O W C) (outside : O)
    (result : Result (StoreState O) (Refused O)) : Type 0 where
  pub ok : IfOk result (λ store. MayNotify g.told (g.view outside) (g.view store.outside))
  pub err : IfErr result (λ refused.
      MayNotify g.told (g.view outside) (g.view refused.directory))
  pub stood : MatchResult result
      (λ store. NotesNone g.told (g.view outside) (g.view store.outside))
      (λ refused. NotesNone g.told (g.view outside) (g.view refused.directory))
  pub made : IfOk result (λ store. NotesMade g.told (g.view outside) (g.view store.outside))
  pub unnoted : IfErr result (λ refused. WritesNone g outside refused.error
      → (g.view refused.directory).watched ≡ (g.view outside).watched)

-- What a crash may leave of an opening, whatever it answers: at each moment no more than before it, or
-- what may be left of making a new index, where there was no `meta.json`. No more than before it where
-- an argument, bytes or the lock are refused, nor while somebody else holds that lock. At Ok it leaves
-- each name as it is, and track is kept of the files, where each image listed its own before.
pub record OpensSafely {O W C : Type 0} (g : Ghosts O W C) (outside : O) (schema : List ℕ)
    (result : Result (StoreState O) (Refused O)) : Type 0 where
  pub ok : IfOk result (λ store.
      MayMake g (LacksMeta g outside) (first_text store.kept.form.schema) outside store.outside)
  pub tracks : IfOk result (λ store. TracksFrom g outside (kept_below store))
  pub err : IfErr result (λ refused. (text : List ℕ) → IsSchema schema text
      → MayMake g (LacksMeta g outside) (first_text text) outside refused.directory)
  pub looks : IfErr result (λ refused. WritesNone g outside refused.error
      → OnlyLooks g outside refused.directory)

-- All of it, as one promise of an opening.
pub record OpensOrRefuses {O W C : Type 0} (g : Ghosts O W C) (outside : O) (schema : List ℕ)
    (result : Result (StoreState O) (Refused O)) : Type 0 where
  pub opens : IfOk result (Opens g outside schema)
  pub leaves : IfErr result (LeavesIndex g outside schema)
  pub tells : TellsOpening g outside schema result
  pub locks : TakesWriterLock g outside result
  pub faults : OpeningFaults g outside schema result
  pub frame : OpeningFrame g outside result
  pub safe : g.tells_images → OpensSafely g outside schema result
