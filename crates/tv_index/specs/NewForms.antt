-- How an index is opened, or made with some settings and a schema where there is none.
use Rattle.std.specs.Prelude.{◌≡◌, ◌⊎◌, ◌++◌, ◌∷◌, [], ℕ, List, Option, Some, None, IsSome}
use Rattle.tv_base.specs.declared.error.TantivyError.{TantivyError}
use Rattle.tv_device.specs.declared.directory.Directory.{Ghosts}
use Rattle.tv_managed.specs.Managed.{KeepsOtherFiles}
use Rattle.tv_managed.specs.Names.{ManagedNames}
use Rattle.tv_formats.specs.Collections.{no_collections}
use Rattle.tv_formats.specs.Commits.{Commit, IndexForm, Settings, first_commit, printed}
use Rattle.tv_formats.specs.Files.{Reads, Rose, Same}
use Rattle.tv_formats.specs.Sound.{managed_with}
use Rattle.tv_formats.specs.Listing.{Listing}
use Rattle.tv_formats.specs.Meaning.{Means}
use Rattle.tv_formats.specs.Names.{meta_name}
use Rattle.tv_metas.specs.Metas.{commit_of, settings_of}
use Rattle.tv_index.specs.Opening.{FrameNotesFirst, FrameNotesRefused, HasCommit, IsRefusedBytes, LoadCause, NotesMade, OpenCause, form_of}
use Rattle.tv_metas.specs.Settings.{settings_view}
use Rattle.tv_metas.specs.declared.index_meta.UntrackedIndexMeta.{UntrackedIndexMeta}
use Rattle.tv_metas.specs.declared.index_settings.IndexSettings.{IndexSettings}

-- how an index is made with these settings and this schema
abbrev pub form_with : IndexSettings → (schema : List ℕ) → IndexForm
form_with settings schema = record { settings = settings_view settings; schema = schema }

-- the text of the first commit of an index that is made so
abbrev pub new_text : IndexForm → List ℕ
new_text form = printed form.settings form.schema first_commit ++ 10 ∷ []

-- The settings and the commit of the index that stands: those that `meta.json` means under the form's schema,
-- or, where there is none, those of a new index of this form.
abbrev pub FindsOrMakes : IndexForm → Option (List ℕ) → Settings → Commit → Type 0
FindsOrMakes form None settings commit = (settings ≡ form.settings) × (commit ≡ first_commit)
FindsOrMakes form (Some text) settings commit = Means settings form.schema text commit

-- the list, the settings and the commit with which an index opens that reads so, or is made, and its managed
-- names then
pub record FindsAmong (reads : Reads) (made form : IndexForm) (commit : Commit)
    (managed : List (List ℕ)) : Type 0 where
  pub listed : List (List ℕ)
  pub listing : Listing reads listed
  pub found : FindsOrMakes made (reads meta_name) form.settings commit
  pub managed_is : managed ≡ managed_with (reads meta_name) listed

-- What an opening leaves: where there was a `meta.json`, each name reads what it read; where there was none,
-- only the list and it were written, with this text.
pub record LeavesMade (old new : Reads) (text : List ℕ) : Type 0 where
  pub stood : IsSome (old meta_name) → Same old new
  pub others : KeepsOtherFiles old new meta_name
  pub made : old meta_name ≡ None → new meta_name ≡ Some text

-- What a refused opening leaves: the same, but where there was none, it may not have been written.
pub record LeavesUnmade (old new : Reads) (text : List ℕ) : Type 0 where
  pub stood : IsSome (old meta_name) → Same old new
  pub others : KeepsOtherFiles old new meta_name
  pub made : old meta_name ≡ None → (new meta_name ≡ None) ⊎ (new meta_name ≡ Some text)

-- An index is open in this directory: the one that stood there under the form's schema, or a new one of this
-- form, of which a notice stands. No collection was begun.
pub record OpensForm {D W C : Type 0} (g : Ghosts D W C) (before : D) (form : IndexForm)
    (now : D × ManagedNames) (meta : UntrackedIndexMeta) : Type 0 where
  pub has : HasCommit form.schema meta
  pub finds : g.told.content
      → FindsAmong (g.view before).reads form (form_of meta) (commit_of meta) now.1.managed
  pub left : g.told.content → LeavesMade (g.view before).reads (g.view now.0).reads (new_text form)
  pub lists : g.told.content → Listing (g.view now.0).reads now.1.managed
  pub collections : now.1.collections ≡ no_collections
  pub quiet : (g.view now.0).faults ≡ (g.view before).faults
  pub notes : NotesMade g.told (g.view before) (g.view now.0)
  pub frame : FrameNotesFirst g.told (g.view before) (g.view now.0)

-- The index isn't open, and the directory comes back. Where bytes were refused, nothing was changed.
pub record NotOpenedForm {D W C : Type 0} (g : Ghosts D W C) (before : D) (form : IndexForm) (now : D)
    (error : TantivyError) : Type 0 where
  pub left : g.told.content → LeavesUnmade (g.view before).reads (g.view now).reads (new_text form)
  pub unchanged : g.told.content → IsRefusedBytes error → Same (g.view before).reads (g.view now).reads
  pub cause : OpenCause g.told.content form.schema (g.view before).reads
      (Rose (g.view before).faults (g.view now).faults) ((g.view now).faults ≡ (g.view before).faults) error
  pub frame : FrameNotesRefused g.told error (g.view before) (g.view now)

-- a new index of this form: its first commit
pub record IsFirst (form : IndexForm) (meta : UntrackedIndexMeta) : Type 0 where
  pub settings : settings_of meta ≡ form.settings
  pub commit : commit_of meta ≡ first_commit
  pub has : HasCommit form.schema meta

-- Behind the list of managed names, which was read: the index that stood there, or a new one, and its
-- managed names.
pub record LoadsOrCreates {D W C : Type 0} (g : Ghosts D W C) (old new : D × ManagedNames) (form : IndexForm)
    (meta : UntrackedIndexMeta) : Type 0 where
  pub has : HasCommit form.schema meta
  pub found : g.told.content
      → FindsOrMakes form ((g.view old.0).reads meta_name) (settings_of meta) (commit_of meta)
  pub managed : g.told.content → new.1.managed ≡ managed_with ((g.view old.0).reads meta_name) old.1.managed
  pub collections : new.1.collections ≡ old.1.collections
  pub left : g.told.content → LeavesMade (g.view old.0).reads (g.view new.0).reads (new_text form)
  pub lists : g.told.content → Listing (g.view old.0).reads old.1.managed
      → Listing (g.view new.0).reads new.1.managed
  pub quiet : (g.view new.0).faults ≡ (g.view old.0).faults
  pub notes : NotesMade g.told (g.view old.0) (g.view new.0)
  pub frame : FrameNotesFirst g.told (g.view old.0) (g.view new.0)

-- Behind the list of managed names, which was read: no index was opened, for one of these causes, and none
-- took a commit away.
pub record NotLoaded {D W C : Type 0} (g : Ghosts D W C) (old : D × ManagedNames) (now : D) (form : IndexForm)
    (error : TantivyError) : Type 0 where
  pub left : g.told.content → LeavesUnmade (g.view old.0).reads (g.view now).reads (new_text form)
  pub unchanged : g.told.content → IsRefusedBytes error → Same (g.view old.0).reads (g.view now).reads
  pub cause : LoadCause g.told.content form.schema ((g.view old.0).reads meta_name)
      (Rose (g.view old.0).faults (g.view now).faults) ((g.view now).faults ≡ (g.view old.0).faults) error
  pub frame : FrameNotesRefused g.told error (g.view old.0) (g.view now)
