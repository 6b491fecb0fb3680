-- How a directory is wrapped, or isn't.
use Rattle.std.specs.Prelude.{◌≡◌, ℕ, List, Option, Some, option_map, string_bytes, Result, IfErr, OnOk}
use Rattle.tv_formats.specs.Names.{list_name}
use Rattle.tv_formats.specs.Collections.{no_collections}
use Rattle.tv_formats.specs.Files.{Rose}
use Rattle.tv_formats.specs.Listing.{Listing, Lists}
use Rattle.tv_base.specs.Causes.{IsDevice}
use Rattle.tv_base.specs.declared.error.TantivyError.{TantivyError}
use Rattle.tv_base.specs.declared.error.TantivyError.TheVariants as errors
use Rattle.tv_device.specs.View.{Told, View, OnlyReads}
use Rattle.tv_device.specs.declared.directory.Directory.{Ghosts}
use Rattle.tv_managed.specs.Names.{ManagedNames}

-- what is read of the list stands for no names at all, not even for an empty list of them
abbrev pub ListsNothing : Option (List ℕ) → Type 0
ListsNothing read = (names : List (List ℕ)) → Lists read names → ⊥

-- Why the list isn't read: `damaged` where what is read is no list, and the error names its file; `refused`
-- where the device refused the call, `quiet` where memory was wanted.
abbrev pub ListCause : (damaged refused quiet : Type 0) → TantivyError → Type 0
ListCause damaged refused quiet (errors.DataCorruption why) =
    (option_map string_bytes why.filepath ≡ Some list_name) × damaged
ListCause damaged refused quiet (errors.IoError fault) = IsDevice fault × refused
ListCause damaged refused quiet errors.Memory = quiet
ListCause damaged refused quiet _ = ⊥

-- The list isn't read where it is none, where the device refused the call, and its count rose, or where
-- memory was wanted.
abbrev pub ListRefusal : {W : Type 0} → Told → (old new : View W) → TantivyError → Type 0
ListRefusal told old new =
    ListCause ((told.content → ListsNothing (old.reads list_name)) × (new.faults ≡ old.faults))
    (Rose old.faults new.faults) (new.faults ≡ old.faults)

-- a call that reads the list fails for one of these causes
pub record ListFaults {A W : Type 0} (told : Told) (old new : View W)
    (result : Result A TantivyError) : Type 0 where
  pub quiet : OnOk result (new.faults ≡ old.faults)
  pub cause : IfErr result (ListRefusal told old new)

-- The directory was only read from, and is wrapped: the managed names are those for which its list stands,
-- and no collection was begun.
pub record Wraps {D W C : Type 0} (g : Ghosts D W C) (directory : D)
    (managed : D × ManagedNames) : Type 0 where
  pub names : g.told.content → Listing (g.view directory).reads managed.1.managed
  pub collections : managed.1.collections ≡ no_collections
  pub quiet : (g.view managed.0).faults ≡ (g.view directory).faults
  pub frame : OnlyReads g.told (g.view directory) (g.view managed.0)

-- The directory was only read from, and comes back, since its list wasn't read.
pub record NotWrapped {D W C : Type 0} (g : Ghosts D W C) (directory now : D)
    (error : TantivyError) : Type 0 where
  pub cause : ListRefusal g.told (g.view directory) (g.view now) error
  pub frame : OnlyReads g.told (g.view directory) (g.view now)
