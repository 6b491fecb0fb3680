-- How an index is found and shown, or isn't.
use Rattle.std.specs.Prelude.{ℕ, ◌≡◌, ◌⊎◌, true, false, List, [], Some, option_map, string_bytes, Result, IfErr, OnOk, OnErr}
use Rattle.tv_base.specs.declared.error.DataCorruption.{DataCorruption}
use Rattle.tv_base.specs.declared.error.TantivyError.{TantivyError}
use Rattle.tv_base.specs.declared.error.TantivyError.TheVariants as errors
use Rattle.tv_device.specs.declared.directory.Directory.{Ghosts}
use Rattle.tv_device.specs.View.{OnlyReads, OnlyTells}
use Rattle.tv_index.specs.Crashes.{LacksMeta, MayMake, OnlyLooks, TracksFrom}
use Rattle.tv_index.specs.Opening.{Finds, FrameNotesFirst, IsRefusedBytes, LeavesFound, LeavesUnopened, NamesListFile, NotesMade, OpenCause, first_text}
use Rattle.tv_managed.specs.Collecting.{TakesNoLock}
use Rattle.tv_formats.specs.Commits.{Commit, IsCommit}
use Rattle.tv_formats.specs.Collections.{no_collections}
use Rattle.tv_formats.specs.Files.{Reads, Rose, Same}
use Rattle.tv_machine.specs.Index.{as_opened}
use Rattle.tv_machine.specs.Lines.{opening_of}
use Rattle.tv_formats.specs.Listing.{Listing}
use Rattle.tv_formats.specs.Names.{has, meta_name}
use Rattle.tv_formats.specs.Schemas.{IsNoSchema, IsSchema}
use Rattle.tv_formats.specs.Segments.{all_required}
use Rattle.tv_machine.specs.State.{Catalog}
use Rattle.tv_store.specs.Bodies.{ReadsGoodFile}
use Rattle.tv_store.specs.Kept.{FilesState, names_below}
use Rattle.tv_store.specs.OpeningCauses.{MeetsMissing, MeetsRefused}
use Rattle.tv_store.specs.ReadCauses.{ApplyCause, reading_facts}
use Rattle.tv_store.specs.Stays.{KeepsFiles}
use Rattle.tv_store.specs.StoreCauses.{MakesNoFile, writer_lock_name}
use Rattle.tv_store.specs.Telling.{TellsLine, TellsFirstPart, TellsNoLine}

-- What a refused opening leaves, under the schema that these bytes spell; where they spell none, everything
-- reads as before.
pub record LeavesRefused (old new : Reads) (schema : List ℕ) : Type 0 where
  pub spelled : (text : List ℕ) → IsSchema schema text → LeavesUnopened old new text
  pub unspelled : IsNoSchema schema → Same old new

-- the error names a file of the list of managed files, or `meta.json`
abbrev pub NamesIndexFile : DataCorruption → Type 0
NamesIndexFile why =
    NamesListFile why ⊎ (option_map string_bytes why.filepath ≡ Some meta_name)

-- an error of bytes that are none of their format names a file of the list of managed files, or `meta.json`
abbrev pub NamesRefused : TantivyError → Type 0
NamesRefused (errors.DataCorruption why) = NamesIndexFile why
NamesRefused other = Unit {0}

-- an argument was refused, or the bytes of the list or of `meta.json`, or another schema in that, or the
-- lock of the writer wasn't given
abbrev pub IsRefusedFirst : TantivyError → Type 0
IsRefusedFirst (errors.InvalidArgument text) = Unit {0}
IsRefusedFirst (errors.DataCorruption why) = NamesIndexFile why
IsRefusedFirst (errors.SchemaError text) = Unit {0}
IsRefusedFirst (errors.LockFailure why text) = Unit {0}
IsRefusedFirst other = ⊥

-- A refusal that writes nothing: that of an argument, of bytes or of the lock, and any while somebody
-- else holds that lock.
abbrev pub WritesNone : {O W C : Type 0} → Ghosts O W C → (outside : O) → TantivyError → Type 0
WritesNone g outside error =
    IsRefusedFirst error ⊎ (g.told.locks × ((g.view outside).locks writer_lock_name ≡ true))

-- why a call fails that reads these files, one after the other
abbrev pub ReadingCause : {O W C : Type 0} → Ghosts O W C → (old new : O) → (names : List (List ℕ))
    → TantivyError → Type 0
ReadingCause g old new names =
    ApplyCause (reading_facts (Rose (g.view old).faults (g.view new).faults)
    ((g.view new).faults ≡ (g.view old).faults)
    (λ error. g.told.content → MeetsRefused (g.view old).reads names error)
    (λ path. g.told.content → MeetsMissing (g.view old).reads names path))

-- What an opening does of this catalog: it reads the files that its commit requires, and tells its opening
-- line.
pub record IsPlanned (catalog : Catalog) (required : List (List ℕ)) (line : List ℕ) : Type 0 where
  pub reads : required ≡ all_required catalog.commit.segments
  pub tells : line ≡ opening_of catalog.commit

-- The index that stands in this directory was found, or a new one was made, of which a notice stands:
-- its settings and its schema, its catalog, and its files, none of them open; no collection was begun, and no
-- lock is kept for a reload.
pub record FindsFiles {O W C : Type 0} (g : Ghosts O W C) (locked : O) (schema : List ℕ)
    (catalog : Catalog) (files : FilesState O) : Type 0 where
  pub schema_is : files.form.schema ≡ schema
  pub is_commit : IsCommit catalog.commit
  pub opened : catalog ≡ as_opened catalog
  pub finds : g.told.content
      → Finds (g.view locked).reads files.form catalog.commit files.managed
  pub leaves : g.told.content
      → LeavesFound (g.view locked).reads (g.view files.outside).reads files.form.schema
  pub lists : g.told.content → Listing (g.view files.outside).reads files.managed
  pub open_files : files.open_files ≡ []
  pub left : files.left ≡ []
  pub collections : files.collections ≡ no_collections
  pub unlocked : files.locked ≡ false
  pub quiet : (g.view files.outside).faults ≡ (g.view locked).faults
  pub notes : NotesMade g.told (g.view locked) (g.view files.outside)
  pub frame : FrameNotesFirst g.told (g.view locked) (g.view files.outside)
  pub makes : g.tells_images
      → MayMake g (LacksMeta g locked) (first_text schema) locked files.outside
      × TracksFrom g locked (names_below files)

-- None was, and the directory comes back. Refused bytes changed nothing, and left no notice.
pub record FindsNone {O W C : Type 0} (g : Ghosts O W C) (locked : O) (schema : List ℕ) (now : O)
    (error : TantivyError) : Type 0 where
  pub leaves : g.told.content → LeavesUnopened (g.view locked).reads (g.view now).reads schema
  pub unchanged : g.told.content → IsRefusedBytes error
      → Same (g.view locked).reads (g.view now).reads
  pub cause : OpenCause g.told.content schema (g.view locked).reads
      (Rose (g.view locked).faults (g.view now).faults)
      ((g.view now).faults ≡ (g.view locked).faults) error
  pub unnoted : IsRefusedBytes error → (g.view now).watched ≡ (g.view locked).watched
  pub frame : FrameNotesFirst g.told (g.view locked) (g.view now)
  pub makes : g.tells_images → MayMake g (LacksMeta g locked) (first_text schema) locked now
  pub spares : g.tells_images → IsRefusedBytes error → OnlyLooks g locked now

-- Each of these files can be read; or the first that can't be is refused, or the device refused a call,
-- or memory was wanted.
pub record ChecksFiles {A O W C : Type 0} (g : Ghosts O W C) (old new : FilesState O)
    (names : List (List ℕ)) (result : Result A TantivyError) : Type 0 where
  pub good : g.told.content → OnOk result
      ((n : List ℕ) → has names n ≡ true → ReadsGoodFile ((g.view old.outside).reads n))
  pub quiet : OnOk result ((g.view new.outside).faults ≡ (g.view old.outside).faults)
  pub cause : IfErr result (ReadingCause g old.outside new.outside names)
  pub file : IfErr result MakesNoFile
  pub lock : IfErr result TakesNoLock
  pub frame : KeepsFiles (OnlyReads g.told) g.view old new
  pub looks : g.tells_images → OnlyLooks g old.outside new.outside

-- The files of this commit can be read, and its opening line was told. Else of the files the first that
-- can't be read is refused, or the device refused a call, or memory was wanted; and of the line no more
-- than a first part was told.
pub record OpensCommit {A O W C : Type 0} (g : Ghosts O W C) (commit : Commit) (old new : FilesState O)
    (result : Result A TantivyError) : Type 0 where
  pub good : g.told.content → OnOk result
      ((n : List ℕ) → has (all_required commit.segments) n ≡ true
      → ReadsGoodFile ((g.view old.outside).reads n))
  pub told : g.told.heard → OnOk result
      (TellsLine (g.view old.outside).heard (g.view new.outside).heard
      (g.view old.outside).moment (g.view new.outside).moment (opening_of commit))
  pub untold : g.told.heard
      → OnErr result (TellsNoLine (g.view old.outside).heard (g.view new.outside).heard)
  pub part : g.told.heard → OnErr result
      (TellsFirstPart (g.view old.outside).heard (g.view new.outside).heard (opening_of commit))
  pub quiet : OnOk result ((g.view new.outside).faults ≡ (g.view old.outside).faults)
  pub cause : IfErr result
      (ReadingCause g old.outside new.outside (all_required commit.segments))
  pub file : IfErr result MakesNoFile
  pub lock : IfErr result TakesNoLock
  pub frame : KeepsFiles (OnlyTells g.told) g.view old new
  pub looks : g.tells_images → OnlyLooks g old.outside new.outside
