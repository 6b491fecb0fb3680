-- How an index is opened, or made where there is none.
use Rattle.std.specs.Prelude.{◌≡◌, ◌⊎◌, ◌<◌, ◌^◌, ◌++◌, ◌∷◌, [], ℕ, List, codes, Option, Some, None, IsSome, option_map, string_bytes, Result, Ok, Err, IfErr, OnOk}
use Rattle.tv_base.specs.Causes.{IsDevice}
use Rattle.tv_base.specs.declared.error.DataCorruption.{DataCorruption}
use Rattle.tv_base.specs.declared.error.TantivyError.{TantivyError}
use Rattle.tv_base.specs.declared.error.TantivyError.TheVariants as errors
use Rattle.tv_device.specs.View.{View, Told}
use Rattle.tv_device.specs.Watch.{noted}
use Rattle.tv_device.specs.declared.directory.Directory.{Ghosts}
use Rattle.tv_managed.specs.Managed.{KeepsOtherFiles}
use Rattle.tv_managed.specs.Names.{ManagedNames}
use Rattle.tv_formats.specs.Collections.{no_collections}
use Rattle.tv_formats.specs.Commits.{Commit, IndexForm, IsCommit, default_settings, first_commit, printed}
use Rattle.tv_formats.specs.Files.{Reads, Rose, Same}
use Rattle.tv_formats.specs.Sound.{FindsCommit, managed_with}
use Rattle.tv_formats.specs.Listing.{IsListFile, Listing}
use Rattle.tv_formats.specs.Meaning.{Means, MeansOther, MeansNothing}
use Rattle.tv_formats.specs.Names.{meta_name}
use Rattle.tv_metas.specs.Metas.{commit_of, settings_of}
use Rattle.tv_index.specs.Saving.{FrameNotesUnless, IsUnrefused}
use Rattle.tv_metas.specs.declared.index_meta.UntrackedIndexMeta.{UntrackedIndexMeta}

-- what an index keeps of how it is made
abbrev pub form_of : UntrackedIndexMeta → IndexForm
form_of meta = record { settings = settings_of meta; schema = meta.schema }

-- the text of the first commit of an index with this schema
abbrev pub first_text : List ℕ → List ℕ
first_text schema = printed default_settings schema first_commit ++ 10 ∷ []

-- the value is a commit, under this schema
pub record HasCommit (schema : List ℕ) (meta : UntrackedIndexMeta) : Type 0 where
  pub schema_is : meta.schema ≡ schema
  pub is_commit : IsCommit (commit_of meta)
  pub blocksize : (settings_of meta).blocksize < 2 ^ 64

-- what is read of `meta.json` under this schema: nothing where it isn't there, and else what it means
abbrev pub Loads : (schema : List ℕ) → Option (List ℕ) → Option UntrackedIndexMeta → Type 0
Loads schema None found = found ≡ None
Loads schema (Some bytes) None = ⊥
Loads schema (Some bytes) (Some meta) = Means (settings_of meta) schema bytes (commit_of meta)

-- what is said of the bytes that are read, where there are some
abbrev pub OfBytes : (List ℕ → Type 0) → Option (List ℕ) → Type 0
OfBytes says None = ⊥
OfBytes says (Some bytes) = says bytes

-- Why `meta.json` isn't read, where `tells` says that the content is told: it means no commit; or one of
-- another schema; or the device refused the call, which is `refused`, or memory was wanted. `quiet` says that
-- no call was refused.
abbrev pub LoadCause : (tells : Type 0) → (schema : List ℕ) → (read : Option (List ℕ))
    → (refused quiet : Type 0) → TantivyError → Type 0
LoadCause tells schema read refused quiet (errors.DataCorruption why) =
    quiet × (option_map string_bytes why.filepath ≡ Some meta_name)
    × (tells → OfBytes (MeansNothing (Some schema)) read)
LoadCause tells schema read refused quiet (errors.SchemaError text) =
    quiet × (string_bytes text ≡ codes "An index exists but the schema does not match.")
    × (tells → OfBytes (MeansOther schema) read)
LoadCause tells schema read refused quiet (errors.IoError fault) = IsDevice fault × refused
LoadCause tells schema read refused quiet errors.Memory = quiet
LoadCause tells schema read refused quiet other = ⊥

-- it fails for one of these causes
pub record LoadFaults {A D W C : Type 0} (g : Ghosts D W C) (old new : D) (schema : List ℕ)
    (result : Result A TantivyError) : Type 0 where
  pub quiet : OnOk result ((g.view new).faults ≡ (g.view old).faults)
  pub cause : IfErr result (LoadCause g.told.content schema ((g.view old).reads meta_name)
      (Rose (g.view old).faults (g.view new).faults) ((g.view new).faults ≡ (g.view old).faults))

-- what a load tells where `meta.json` need not be there: nothing where it isn't, and else the same error
abbrev pub NoneIfAbsent : TantivyError → Result (Option UntrackedIndexMeta) TantivyError → Type 0
NoneIfAbsent (errors.OpenReadError why) result = result ≡ Ok None
NoneIfAbsent error result = result ≡ Err error

-- the list that reads is one of some names
abbrev pub HasList : Reads → Type 0
HasList reads = (names : List (List ℕ)) × Listing reads names

-- what reads as the list is none, not even an empty one
abbrev pub HasNoList : Reads → Type 0
HasNoList reads = (names : List (List ℕ)) → Listing reads names → ⊥

-- the error names a file of the list of managed files
abbrev pub NamesListFile : DataCorruption → Type 0
NamesListFile why =
    (file : List ℕ) × (option_map string_bytes why.filepath ≡ Some file) × IsListFile file

-- Why an index isn't opened, in this order: its list is no list; its `meta.json` means no commit, or one of
-- another schema. Each is so, and none before it. A device may refuse a call, and memory may be wanted, at
-- any time.
abbrev pub OpenCause : (tells : Type 0) → (schema : List ℕ) → Reads → (refused quiet : Type 0)
    → TantivyError → Type 0
OpenCause tells schema reads refused quiet (errors.DataCorruption why) =
    (quiet × NamesListFile why × (tells → HasNoList reads))
    ⊎ ((tells → HasList reads)
    × LoadCause tells schema (reads meta_name) refused quiet (errors.DataCorruption why))
OpenCause tells schema reads refused quiet (errors.SchemaError text) =
    (tells → HasList reads) × LoadCause tells schema (reads meta_name) refused quiet (errors.SchemaError text)
OpenCause tells schema reads refused quiet (errors.IoError fault) = IsDevice fault × refused
OpenCause tells schema reads refused quiet errors.Memory = quiet
OpenCause tells schema reads refused quiet other = ⊥

-- the list, the settings and the commit with which an index opens that reads so, and its managed names then
pub record Finds (reads : Reads) (form : IndexForm) (commit : Commit) (managed : List (List ℕ)) : Type 0 where
  pub listed : List (List ℕ)
  pub listing : Listing reads listed
  pub found : FindsCommit form.schema (reads meta_name) form.settings commit
  pub managed_is : managed ≡ managed_with (reads meta_name) listed

-- What an opening leaves: where there was a `meta.json`, each name reads what it read; where there was none,
-- only the list and it were written.
pub record LeavesFound (old new : Reads) (schema : List ℕ) : Type 0 where
  pub stood : IsSome (old meta_name) → Same old new
  pub others : KeepsOtherFiles old new meta_name
  pub made : old meta_name ≡ None → new meta_name ≡ Some (first_text schema)

-- the content is told, and there is a `meta.json`
abbrev pub TellsMeta : {W : Type 0} → Told → View W → Type 0
TellsMeta told view = told.content × IsSome (view.reads meta_name)

-- where the content is told and there was a `meta.json`, nobody was registered or called, and no notice came
abbrev pub NotesNone : {W : Type 0} → Told → (old new : View W) → Type 0
NotesNone told old new = TellsMeta told old → new.watched ≡ old.watched

-- where the content is told and there was no `meta.json`, nobody was registered or called, and a notice of it
-- stands
abbrev pub NotesMade : {W : Type 0} → Told → (old new : View W) → Type 0
NotesMade told old new = told.content → old.reads meta_name ≡ None → new.watched ≡ noted meta_name old.watched

-- Nothing was told, no lock was taken or freed, and nobody was registered or called. A notice of the first
-- commit may stand, but where the content is told none came if there was a `meta.json`.
abbrev pub FrameNotesFirst : {W : Type 0} → Told → (old new : View W) → Type 0
FrameNotesFirst told old new = FrameNotesUnless told (TellsMeta told old) old new

-- The same with this error, where none came either unless the device refused a call.
abbrev pub FrameNotesRefused : {W : Type 0} → Told → TantivyError → (old new : View W) → Type 0
FrameNotesRefused told error old new = FrameNotesUnless told (TellsMeta told old ⊎ IsUnrefused error) old new

-- An index with this schema is open in this directory: the one that stood there, or a new one, of which a
-- notice stands. No collection was begun.
pub record OpensIndex {D W C : Type 0} (g : Ghosts D W C) (before : D) (schema : List ℕ)
    (now : D × ManagedNames) (meta : UntrackedIndexMeta) : Type 0 where
  pub has : HasCommit schema meta
  pub finds : g.told.content → Finds (g.view before).reads (form_of meta) (commit_of meta) now.1.managed
  pub left : g.told.content → LeavesFound (g.view before).reads (g.view now.0).reads schema
  pub lists : g.told.content → Listing (g.view now.0).reads now.1.managed
  pub collections : now.1.collections ≡ no_collections
  pub quiet : (g.view now.0).faults ≡ (g.view before).faults
  pub notes : NotesMade g.told (g.view before) (g.view now.0)
  pub frame : FrameNotesFirst g.told (g.view before) (g.view now.0)

-- What a refused opening leaves: where there was a `meta.json`, each name reads what it read; where there was
-- none, only the list and it may have been written.
pub record LeavesUnopened (old new : Reads) (schema : List ℕ) : Type 0 where
  pub stood : IsSome (old meta_name) → Same old new
  pub others : KeepsOtherFiles old new meta_name
  pub made : old meta_name ≡ None → (new meta_name ≡ None) ⊎ (new meta_name ≡ Some (first_text schema))

-- bytes were refused
abbrev pub IsRefusedBytes : TantivyError → Type 0
IsRefusedBytes (errors.DataCorruption why) = Unit {0}
IsRefusedBytes (errors.SchemaError text) = Unit {0}
IsRefusedBytes other = ⊥

-- It isn't open, and the directory comes back. Where bytes were refused, nothing was changed.
pub record NotOpened {D W C : Type 0} (g : Ghosts D W C) (before : D) (schema : List ℕ) (now : D)
    (error : TantivyError) : Type 0 where
  pub left : g.told.content → LeavesUnopened (g.view before).reads (g.view now).reads schema
  pub unchanged : g.told.content → IsRefusedBytes error → Same (g.view before).reads (g.view now).reads
  pub cause : OpenCause g.told.content schema (g.view before).reads
      (Rose (g.view before).faults (g.view now).faults) ((g.view now).faults ≡ (g.view before).faults) error
  pub frame : FrameNotesRefused g.told error (g.view before) (g.view now)
