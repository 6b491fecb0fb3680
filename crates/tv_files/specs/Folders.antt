-- Directories of plain files, of whose content nothing is told.
use Rattle.std.specs.Prelude.{ℕ, ◌≡◌, true, false, List, [], None, string_bytes}
use Rattle.tv_base.specs.Causes.{IsDevice}
use Rattle.tv_base.specs.declared.open_errors.OpenDirectoryError.{OpenDirectoryError}
use Rattle.tv_base.specs.declared.open_errors.OpenDirectoryError.TheVariants as directory
use Rattle.tv_base.specs.Texts.{counted}
use Rattle.tv_device.specs.View.{View, WriterState}
use Rattle.tv_device.specs.WatchList.{watch_state_of}
use Rattle.tv_device.specs.declared.watch_list.Watchers.{Watchers}

-- who watches, and how many calls other than deletes the operating system refused, and how many deletes
pub record FolderState (C : Type 0) : Type 0 where
  pub watchers : Watchers C
  pub faults : ℕ
  pub refusals : ℕ

-- all that is said of it: of files, locks and lines nothing
abbrev pub folder_view : {C : Type 0} → (C → ℕ) → FolderState C → View WriterState
folder_view calls folder = record {
  reads = λ name. None;
  locks = λ name. false;
  watched = watch_state_of calls folder.watchers;
  moment = 0;
  heard = [];
  room = 0;
  faults = folder.faults;
  refusals = folder.refusals;
  opened = λ writer. true;
  lives = λ writer. false;
}

-- after a refused call that isn't a delete, and after a refused delete
abbrev pub after_fault : {C : Type 0} → FolderState C → FolderState C
after_fault folder = record folder { faults = counted folder.faults }

-- a folder after a refused delete
abbrev pub after_refusal : {C : Type 0} → FolderState C → FolderState C
after_refusal folder = record folder { refusals = counted folder.refusals }

-- Why a folder isn't opened: the error names its path, and a refusal of the operating system is one of the
-- device.
abbrev pub OpenFolderCause : List ℕ → OpenDirectoryError → Type 0
OpenFolderCause path (directory.DoesNotExist text) = string_bytes text ≡ path
OpenFolderCause path (directory.NotADirectory text) = string_bytes text ≡ path
OpenFolderCause path (directory.FailedToCreateTempDir fault) = ⊥
OpenFolderCause path (directory.IoError fault text) = (string_bytes text ≡ path) × IsDevice fault
OpenFolderCause path directory.Memory = Unit {0}
