-- What a call does that saves the text of `meta.json`.
use Rattle.std.specs.Prelude.{◌≡◌, ◌⊎◌, ◌++◌, ◌∷◌, [], ℕ, List, Some, Result, IfErr, OnOk, OnErr}
use Rattle.std.specs.BTreeSet.{insert_key}
use Rattle.tv_base.specs.Causes.{IoCause, IsDevice}
use Rattle.tv_base.specs.declared.error.TantivyError.{TantivyError}
use Rattle.tv_base.specs.declared.error.TantivyError.TheVariants as errors
use Rattle.tv_base.specs.declared.io.IoError.{IoError}
use Rattle.tv_device.specs.View.{View, Told, Frame}
use Rattle.tv_device.specs.Watch.{MayNote, noted}
use Rattle.tv_device.specs.declared.directory.Directory.{Ghosts}
use Rattle.tv_managed.specs.Names.{ManagedNames}
use Rattle.tv_formats.specs.Commits.{Commit, IndexForm, Settings, printed}
use Rattle.tv_formats.specs.Files.{Rose}
use Rattle.tv_formats.specs.Listing.{Listing}
use Rattle.tv_formats.specs.Meaning.{Means}
use Rattle.tv_formats.specs.Names.{byte_cmp, meta_name}

-- Nothing was told, no lock was taken or freed, and nobody was registered or called; a notice of a commit may
-- stand.
pub record FrameNotes {W : Type 0} (told : Told) (old new : View W) : Type 0 where
  pub frame : Frame told old new
  pub watched : MayNote meta_name old.watched new.watched

-- The same, but no notice came where this is so.
pub record FrameNotesUnless {W : Type 0} (told : Told) (none : Type 0) (old new : View W) : Type 0 where
  pub notes : FrameNotes told old new
  pub unless : none → new.watched ≡ old.watched

-- an error other than `IoError`, which is what these calls answer where the device refused one
abbrev pub IsUnrefused : TantivyError → Type 0
IsUnrefused (errors.IoError fault) = ⊥
IsUnrefused other = Unit {0}

-- The text is that of `meta.json`, which is managed, and a notice of it stands.
pub record SavesMeta {D W C : Type 0} (g : Ghosts D W C) (old new : D × ManagedNames)
    (text : List ℕ) : Type 0 where
  pub names : new.1 ≡ record old.1 { managed = insert_key byte_cmp old.1.managed meta_name }
  pub saved : g.told.content → (g.view new.0).reads meta_name ≡ Some text
  pub list : g.told.content → Listing (g.view old.0).reads old.1.managed
      → Listing (g.view new.0).reads new.1.managed
  pub notes : (g.view new.0).watched ≡ noted meta_name (g.view old.0).watched

-- After an error `meta.json` has this text, or what it had; after want of memory what it had.
pub record LeavesText {A D W C : Type 0} (g : Ghosts D W C) (old new : D) (text : List ℕ)
    (result : Result A IoError) : Type 0 where
  pub either : g.told.content → OnErr result
      (((g.view new).reads meta_name ≡ Some text)
      ⊎ ((g.view new).reads meta_name ≡ (g.view old).reads meta_name))
  pub memory : g.told.content
      → IfErr result (IoCause (Unit {0}) ((g.view new).reads meta_name ≡ (g.view old).reads meta_name))

-- the text of `meta.json` of a commit
abbrev pub saved_text : Settings → (schema : List ℕ) → Commit → List ℕ
saved_text settings schema commit = printed settings schema commit ++ 10 ∷ []

-- What is true of each answer of a call that saves: `refused` where the device refused it, `quiet` where
-- memory was wanted.
abbrev pub SaveCause : (refused quiet : Type 0) → TantivyError → Type 0
SaveCause refused quiet (errors.IoError fault) = IsDevice fault × refused
SaveCause refused quiet errors.Memory = quiet
SaveCause refused quiet other = ⊥

-- a save fails where the device refused a call, and the count rose, or where memory was wanted; at Ok the
-- count stands still
pub record SaveFaults {A W : Type 0} (old new : View W) (result : Result A TantivyError) : Type 0 where
  pub quiet : OnOk result (new.faults ≡ old.faults)
  pub cause : IfErr result (SaveCause (Rose old.faults new.faults) (new.faults ≡ old.faults))

-- After an error `meta.json` has this text, or what it had; after want of memory what it had.
pub record LeavesOne {A D W C : Type 0} (g : Ghosts D W C) (old new : D) (text : List ℕ)
    (result : Result A TantivyError) : Type 0 where
  pub either : g.told.content → OnErr result
      (((g.view new).reads meta_name ≡ Some text)
      ⊎ ((g.view new).reads meta_name ≡ (g.view old).reads meta_name))
  pub memory : g.told.content
      → IfErr result (SaveCause (Unit {0}) ((g.view new).reads meta_name ≡ (g.view old).reads meta_name))

-- `meta.json`, which is managed, has the text of this commit of an index that is made in this form,
-- and means it. After an error it has that text, or what it had.
pub record SavesCommit {A D W C : Type 0} (g : Ghosts D W C) (old new : D × ManagedNames)
    (form : IndexForm) (commit : Commit) (result : Result A TantivyError) : Type 0 where
  pub saves : OnOk result (SavesMeta g old new (saved_text form.settings form.schema commit))
  pub means : Means form.settings form.schema (saved_text form.settings form.schema commit) commit
  pub leaves : LeavesOne g old.0 new.0 (saved_text form.settings form.schema commit) result
