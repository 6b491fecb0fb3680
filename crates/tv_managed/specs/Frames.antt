-- What a call of a managed directory leaves alone.
use Rattle.std.specs.Prelude.{◌≡◌, ℕ, List, Result, IfErr, OnOk}
use Rattle.tv_formats.specs.Files.{Rose}
use Rattle.tv_base.specs.Causes.{OpenWriteCause}
use Rattle.tv_base.specs.declared.io.IoError.{IoError}
use Rattle.tv_base.specs.declared.open_errors.OpenWriteError.{OpenWriteError}
use Rattle.tv_device.specs.Calls.{Notes}
use Rattle.tv_device.specs.Images.{KeepsDisk}
use Rattle.tv_device.specs.View.{View, Told, Frame, OnlyReads}
use Rattle.tv_device.specs.declared.directory.Directory.{Ghosts}
use Rattle.tv_managed.specs.Names.{ManagedNames}

-- the managed names and the unfinished collections stay, and of the directory below what such a call keeps
pub record KeepsNames {D W : Type 0} (keeps : View W → View W → Type 0) (view : D → View W)
    (old new : D × ManagedNames) : Type 0 where
  pub names : new.1 ≡ old.1
  pub below : keeps (view old.0) (view new.0)

-- nothing was told, no lock was taken or freed, and nobody was registered or called; at Ok a notice of
-- `meta.json` stands that was written, and it may after a refusal
pub record KeptButNotes {A W : Type 0} (told : Told) (old new : View W) (name : List ℕ)
    (result : Result A IoError) : Type 0 where
  pub frame : Frame told old new
  pub notes : Notes old new name result

-- A step that only asks: the managed names and the unfinished collections stay, and of the directory below
-- what a read keeps; where it fails, it is for these causes.
pub record OnlyAsks {D W C : Type 0} (g : Ghosts D W C) (old new : D × ManagedNames)
    (causes : Type 0) : Type 0 where
  pub frame : KeepsNames (OnlyReads g.told) g.view old new
  pub images : g.tells_images → KeepsDisk (g.disk old.0) (g.disk new.0)
  pub faults : causes

-- A step towards a file that is made fails where the device refused a call, or where memory was wanted; the
-- error names the file.
pub record MakeFaults {A W : Type 0} (old new : View W) (name : List ℕ)
    (result : Result A OpenWriteError) : Type 0 where
  pub quiet : OnOk result (new.faults ≡ old.faults)
  pub cause : IfErr result (OpenWriteCause name ⊥ (Rose old.faults new.faults) (new.faults ≡ old.faults))
