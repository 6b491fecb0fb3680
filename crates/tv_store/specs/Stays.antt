-- What a call on a store leaves alone, and why it fails.
use Rattle.std.specs.Prelude.{ℕ, ◌≡◌, false, List, Result, OnOk, IfErr}
use Rattle.tv_formats.specs.Files.{Reads, Rose}
use Rattle.tv_formats.specs.Listing.{IsListFile}
use Rattle.tv_formats.specs.Names.{is_undotted, meta_name}
use Rattle.tv_base.specs.declared.error.TantivyError.{TantivyError}
use Rattle.tv_device.specs.View.{View, Told, DeletesNone, Kept, OnlyReads}
use Rattle.tv_device.specs.declared.directory.Directory.{Ghosts}
use Rattle.tv_device.specs.Watch.{MayNote}
use Rattle.tv_store.specs.Kept.{FilesState, StoreState}
use Rattle.tv_store.specs.StoreCauses.{EventCause, MakesNoFile}

-- Of the files of a store: the index's settings and schema stay, and whether the meta lock is kept for a
-- reload, and of the directory below what such a call keeps.
pub record KeepsForm {O W : Type 0} (keeps : View W → View W → Type 0) (view : O → View W)
    (old new : FilesState O) : Type 0 where
  pub form : new.form ≡ old.form
  pub locked : new.locked ≡ old.locked
  pub below : keeps (view old.outside) (view new.outside)

-- Of the files of a store: the index's settings and schema stay, whether the meta lock is kept for a reload,
-- and the unfinished collections, and of the directory below what such a call keeps.
pub record KeepsMade {O W : Type 0} (keeps : View W → View W → Type 0) (view : O → View W)
    (old new : FilesState O) : Type 0 where
  pub form : new.form ≡ old.form
  pub locked : new.locked ≡ old.locked
  pub collections : new.collections ≡ old.collections
  pub below : keeps (view old.outside) (view new.outside)

-- And the managed names and those that were left stay.
pub record KeepsManaged {O W : Type 0} (keeps : View W → View W → Type 0) (view : O → View W)
    (old new : FilesState O) : Type 0 where
  pub form : new.form ≡ old.form
  pub locked : new.locked ≡ old.locked
  pub names : new.managed ≡ old.managed
  pub collections : new.collections ≡ old.collections
  pub left : new.left ≡ old.left
  pub below : keeps (view old.outside) (view new.outside)

-- And no file was opened, written or closed.
pub record KeepsFiles {O W : Type 0} (keeps : View W → View W → Type 0) (view : O → View W)
    (old new : FilesState O) : Type 0 where
  pub managed : KeepsManaged keeps view old new
  pub open_files : new.open_files ≡ old.open_files

-- Of a store: its settings and its schema stay, and how it stands, and of the directory below what such a
-- call keeps.
pub record Stays {O W : Type 0} (keeps : View W → View W → Type 0) (view : O → View W)
    (old new : StoreState O) : Type 0 where
  pub form : new.kept.form ≡ old.kept.form
  pub standing : new.standing ≡ old.standing
  pub below : keeps (view old.outside) (view new.outside)

-- And so does all that is kept.
pub record Asks {O W : Type 0} (keeps : View W → View W → Type 0) (view : O → View W)
    (old new : StoreState O) : Type 0 where
  pub kept : new.kept ≡ old.kept
  pub standing : new.standing ≡ old.standing
  pub below : keeps (view old.outside) (view new.outside)

-- every name but those of the list reads what it read
abbrev pub KeepsAllButList : Reads → Reads → Type 0
KeepsAllButList old new = (n : List ℕ) → (IsListFile n → ⊥) → new n ≡ old n

-- every name with a dot in front but those of the list reads what it read
abbrev pub KeepsDotted : Reads → Reads → Type 0
KeepsDotted old new = (n : List ℕ) → is_undotted n ≡ false → (IsListFile n → ⊥) → new n ≡ old n

-- No writer lost its file, no delete was refused, and nobody was registered or called; a notice of a commit
-- may stand. No file with a dot in front was changed but the list.
pub record MayNotify {W : Type 0} (told : Told) (old new : View W) : Type 0 where
  pub deletes_none : DeletesNone told old new
  pub dotted : told.content → KeepsDotted old.reads new.reads
  pub watched : MayNote meta_name old.watched new.watched

-- A call fails where the device refused one, where memory was wanted, or where a number is spent; where the
-- call succeeds the device refused none, and none is spent.
pub record EventFaults {A W : Type 0} (spent : Type 0) (old new : View W)
    (result : Result A TantivyError) : Type 0 where
  pub quiet : OnOk result (new.faults ≡ old.faults)
  pub fits : OnOk result (spent → ⊥)
  pub cause : IfErr result (EventCause (Rose old.faults new.faults) (new.faults ≡ old.faults) spent)

-- A call that makes no file and spends no number fails where the device refused one, or where memory was
-- wanted; and the device refused none where it succeeds.
pub record Faults {A W : Type 0} (old new : View W) (result : Result A TantivyError) : Type 0 where
  pub quiet : OnOk result (new.faults ≡ old.faults)
  pub cause : IfErr result (EventCause (Rose old.faults new.faults) (new.faults ≡ old.faults) ⊥)
  pub file : IfErr result MakesNoFile

-- A call that only asks: all that is kept stays, and so does the directory; it fails as an event does that
-- makes no file and spends no number.
pub record AsksOrFails {A O W C : Type 0} (g : Ghosts O W C) (old new : StoreState O)
    (result : Result A TantivyError) : Type 0 where
  pub faults : EventFaults ⊥ (g.view old.outside) (g.view new.outside) result
  pub frame : Asks (OnlyReads g.told) g.view old new

-- A call that only asks, and of which the device refuses nothing: all that is kept stays, and so does the
-- directory.
pub record AsksQuietly {O W C : Type 0} (g : Ghosts O W C) (old new : StoreState O) : Type 0 where
  pub faults : (g.view new.outside).faults ≡ (g.view old.outside).faults
  pub frame : Asks (OnlyReads g.told) g.view old new

-- A call on an open file: the managed names stay, and the files that were left; nothing was deleted or told,
-- no lock was taken or freed, and nobody was registered or called. It fails as an event does that makes no
-- file and spends no number.
pub record OnlyWrites {A O W C : Type 0} (g : Ghosts O W C) (old new : FilesState O)
    (result : Result A TantivyError) : Type 0 where
  pub faults : EventFaults ⊥ (g.view old.outside) (g.view new.outside) result
  pub frame : KeepsManaged (Kept g.told) g.view old new
