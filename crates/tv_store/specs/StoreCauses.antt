-- Why a store answers an error.
use Rattle.std.specs.Prelude.{◌≡◌, ◌⊎◌, ℕ, List, None, codes, string_bytes}
use Rattle.tv_base.specs.Causes.{IsDevice}
use Rattle.tv_base.specs.declared.open_errors.OpenWriteError.TheVariants as write
use Rattle.tv_base.specs.declared.open_errors.OpenWriteError.{OpenWriteError}
use Rattle.tv_base.specs.declared.error.TantivyError.{TantivyError}
use Rattle.tv_base.specs.declared.error.TantivyError.TheVariants as errors
use Rattle.tv_device.specs.Locks.{LockCause}
use Rattle.tv_formats.specs.Files.{Rose, RoseBy}

-- a file that was to be made was refused by the device
abbrev pub WriteFault : (refused : Type 0) → OpenWriteError → Type 0
WriteFault refused (write.IoError fault path) = IsDevice fault × refused
WriteFault refused other = ⊥

-- An event fails only where the device refused a call, where memory was wanted, or where something is spent.
abbrev pub EventCause : (refused quiet spent : Type 0) → TantivyError → Type 0
EventCause refused quiet spent (errors.IoError fault) = IsDevice fault × refused
EventCause refused quiet spent (errors.OpenWriteError error) = WriteFault refused error
EventCause refused quiet spent errors.Exhausted = quiet × spent
EventCause refused quiet spent errors.Memory = quiet
EventCause refused quiet spent other = ⊥

-- the lock of the one who writes the index
abbrev pub writer_lock_name : List ℕ
writer_lock_name = codes ".tantivy-writer.lock"

-- Why a lock isn't given: where locks are told, only where it is held; and where they aren't told, only where
-- a call was refused.
pub record IsBusy (tells_locks held refused : Type 0) : Type 0 where
  pub told : tells_locks → held
  pub untold : tells_locks ⊎ refused

-- No call was refused; or that of a lock was, which isn't given, where this says that it is held.
abbrev pub QuietBehind : (held : Type 0) → (before now : ℕ) → Type 0
QuietBehind held before now = (now ≡ before) ⊎ (held × Rose before now)

-- A call was refused. Behind a lock that isn't given, which may count as one more, the count rose from
-- before that lock on.
abbrev pub RefusedBehind : (held : Type 0) → (before now : ℕ) → Type 0
RefusedBehind held before now = Rose before now ⊎ (held × RoseBy 1 before now)

-- an event that takes a lock fails as others do, or because the lock isn't given
abbrev pub LockingCause : (busy refused quiet spent : Type 0) → TantivyError → Type 0
LockingCause busy refused quiet spent (errors.LockFailure why text) =
    LockCause busy refused ⊥ why × (text ≡ None)
LockingCause busy refused quiet spent other = EventCause refused quiet spent other

-- the error isn't that of a file that was to be made
abbrev pub MakesNoFile : TantivyError → Type 0
MakesNoFile (errors.OpenWriteError error) = ⊥
MakesNoFile other = Unit {0}

-- an argument refused with this text, or want of memory for the text
abbrev pub IsRefusal : List ℕ → TantivyError → Type 0
IsRefusal text (errors.InvalidArgument t) = string_bytes t ≡ text
IsRefusal text errors.Memory = Unit {0}
IsRefusal text other = ⊥
