-- What is said of calls of a folder, of whose content and locks nothing is told.
use Rattle.std.proofs.Common.{◌≡◌, ◌≤◌, ◌∙◌, ◌⊎◌, ℕ, List, Ok, Err, refl, sym, ap, inl, inr, arith}
use Rattle.tv_formats.specs.Files.{Rose}
use Rattle.tv_base.specs.Causes.{DeleteCause, IoCause, OpenReadCause, OpenWriteCause}
use Rattle.tv_base.specs.declared.io.IoError.{IoError}
use Rattle.tv_base.specs.declared.io.IoError.TheVariants as io
use Rattle.tv_base.specs.declared.open_errors.OpenReadError.{OpenReadError}
use Rattle.tv_base.specs.declared.open_errors.OpenReadError.TheVariants as read
use Rattle.tv_base.specs.declared.open_errors.OpenWriteError.{OpenWriteError}
use Rattle.tv_base.specs.declared.open_errors.OpenWriteError.TheVariants as write
use Rattle.tv_base.specs.declared.open_errors.DeleteError.{DeleteError}
use Rattle.tv_base.specs.declared.open_errors.DeleteError.TheVariants as delete
use Rattle.tv_base.specs.declared.open_errors.LockError.{LockError}
use Rattle.tv_base.specs.declared.open_errors.LockError.TheVariants as lock
use Rattle.tv_device.specs.Calls.{AskFaults, DeleteFaults, IoFaults, LockFaults, Notes, OpenFaults, ReadFaults}
use Rattle.tv_base.specs.Texts.{counted, last}
use Rattle.tv_device.specs.Locks.{LockCause}
use Rattle.tv_device.specs.View.{MayDelete, OnlyLocks, OnlyReads, tells_nothing}
use Rattle.tv_device.specs.WatchList.{watch_state_of}
use Rattle.tv_files.specs.Folders.{FolderState, after_fault, after_refusal, folder_view}

-- what is as it was is so but for its count of faults
pub as_it_was : {C : Type 0} (old new : FolderState C) → new ≡ old → new ≡ record old { faults = new.faults }
as_it_was old new same = same ∙ ap (λ f. record old { faults = f.faults }) (sym same)

-- nobody else watches, and no more deletes were refused, so all is kept
pub only_reads : {C : Type 0} (calls : C → ℕ) (old new : FolderState C) → new ≡ record old { faults = new.faults } → OnlyReads tells_nothing (folder_view calls old) (folder_view calls new)
only_reads calls old new kept = record {
  kept = record {
    frame = record {
      tells_none = record {
        deletes_none = record {
          goes_on = record { writers = λ w o. o; ended = λ t. absurd t; clock = omega arith; refusals = omega (arith, ap (λ f. f.refusals) kept) };
          refusals = ap (λ f. f.refusals) kept;
          alive = λ t. absurd t;
        };
        heard = refl;
        room = omega arith;
      };
      locks = λ t. absurd t;
    };
    watched = ap (λ f. watch_state_of calls f.watchers) kept;
  };
  content = λ t. absurd t;
}

-- and so at a lock, of which nothing is told either
pub only_locks : {C : Type 0} (calls : C → ℕ) (old new : FolderState C) → new ≡ record old { faults = new.faults } → OnlyLocks tells_nothing (folder_view calls old) (folder_view calls new)
only_locks calls old new kept =
    let reads = only_reads calls old new kept in
    record { tells_none = reads.kept.frame.tells_none; watched = reads.kept.watched; content = reads.content }

-- a count of 64 bits that was raised rose, and didn't fall
pub rose : (n m : ℕ) → m ≡ counted n → Rose n m
rose n m e = grind (arith, e)

pub no_less : (n m : ℕ) → n ≤ last → m ≡ counted n → n ≤ m
no_less n m fits e = grind (arith, e)

-- so the count of faults rose, or that of refused deletes
pub fault_rose : {C : Type 0} (old new : FolderState C) → new ≡ after_fault old → Rose old.faults new.faults
fault_rose old new after = rose old.faults new.faults (ap (λ f. f.faults) after)

pub refusal_rose : {C : Type 0} (old new : FolderState C) → new ≡ after_refusal old → Rose old.refusals new.refusals
refusal_rose old new after = rose old.refusals new.refusals (ap (λ f. f.refusals) after)

-- The causes of calls: where the system refused one its count rose, and else nothing changed.
pub io_faults : {A C : Type 0} (calls : C → ℕ) (old new : FolderState C) (error : IoError) → IoCause (new ≡ after_fault old) (new ≡ old) error → IoFaults {A = A} (folder_view calls old) (folder_view calls new) (Err error)
io_faults calls old new (io.Fault fault) cause = record { quiet = tt; cause = (cause.0, fault_rose old new cause.1) }
io_faults calls old new io.Memory cause = record { quiet = tt; cause = ap (λ f. f.faults) cause }

pub read_faults : {A C : Type 0} (calls : C → ℕ) (old new : FolderState C) (name : List ℕ) (error : OpenReadError) → OpenReadCause name (new ≡ old) (new ≡ after_fault old) (new ≡ old) error → ReadFaults {A = A} tells_nothing (folder_view calls old) (folder_view calls new) name (Err error)
read_faults calls old new name (read.FileDoesNotExist path) cause = record { quiet = tt; cause = (cause.0, (λ t. absurd t, ap (λ f. f.faults) cause.1)) }
read_faults calls old new name (read.IoError fault path) cause = record { quiet = tt; cause = (cause.0, cause.1, fault_rose old new cause.2) }
read_faults calls old new name (read.IncompatibleIndex why) cause = absurd cause
read_faults calls old new name read.Memory cause = record { quiet = tt; cause = ap (λ f. f.faults) cause }

pub ask_faults : {A C : Type 0} (calls : C → ℕ) (old new : FolderState C) (name : List ℕ) (error : OpenReadError) → OpenReadCause name ⊥ (new ≡ after_fault old) (new ≡ old) error → AskFaults {A = A} (folder_view calls old) (folder_view calls new) name (Err error)
ask_faults calls old new name (read.FileDoesNotExist path) cause = absurd cause.1
ask_faults calls old new name (read.IoError fault path) cause = record { quiet = tt; cause = (cause.0, cause.1, fault_rose old new cause.2) }
ask_faults calls old new name (read.IncompatibleIndex why) cause = absurd cause
ask_faults calls old new name read.Memory cause = record { quiet = tt; cause = ap (λ f. f.faults) cause }

pub open_faults : {A C : Type 0} (calls : C → ℕ) (old new : FolderState C) (name : List ℕ) (error : OpenWriteError) → OpenWriteCause name (new ≡ old) (new ≡ after_fault old) (new ≡ old) error → OpenFaults {A = A} tells_nothing (folder_view calls old) (folder_view calls new) name (Err error)
open_faults calls old new name (write.FileAlreadyExists path) cause = record { quiet = tt; cause = (cause.0, (λ t. absurd t, ap (λ f. f.faults) cause.1)) }
open_faults calls old new name (write.Leaving path) cause = absurd cause
open_faults calls old new name (write.IoError fault path) cause = record { quiet = tt; cause = (cause.0, cause.1, fault_rose old new cause.2) }
open_faults calls old new name write.Memory cause = record { quiet = tt; cause = ap (λ f. f.faults) cause }

pub lock_faults : {A C : Type 0} (calls : C → ℕ) (old new : FolderState C) (name : List ℕ) (error : LockError) → LockCause (new ≡ after_fault old) (new ≡ after_fault old) (new ≡ old) error → LockFaults {A = A} tells_nothing (folder_view calls old) (folder_view calls new) name (Err error)
lock_faults calls old new name lock.LockBusy cause = record { quiet = tt; busy = λ t. absurd t; cause = inr (fault_rose old new cause) }
lock_faults calls old new name (lock.IoError fault) cause = record { quiet = tt; busy = λ t. absurd t; cause = (cause.0, fault_rose old new cause.1) }
lock_faults calls old new name lock.Memory cause = record { quiet = tt; busy = λ t. absurd t; cause = ap (λ f. f.faults) cause }

-- A refused delete, whose count is one of 64 bits.
pub delete_faults : {A C : Type 0} (calls : C → ℕ) (old new : FolderState C) (name : List ℕ) (error : DeleteError) → old.refusals ≤ last → new ≡ record old { refusals = new.refusals } → DeleteCause name (new ≡ old) (new ≡ after_refusal old) (new ≡ old) error → DeleteFaults {A = A} tells_nothing (folder_view calls old) (folder_view calls new) name (Err error)
delete_faults calls old new name (delete.FileDoesNotExist path) fits kept cause = record { quiet = tt; cause = (cause.0, (λ t. absurd t, ap (λ f. f.refusals) cause.1)); fits = omega (arith, ap (λ f. f.refusals) cause.1); faults = ap (λ f. f.faults) kept }
delete_faults calls old new name (delete.IoError fault path) fits kept cause = record { quiet = tt; cause = (cause.0, cause.1, refusal_rose old new cause.2); fits = grind (arith, ap (λ f. f.refusals) cause.2); faults = ap (λ f. f.faults) kept }
delete_faults calls old new name delete.Memory fits kept cause = record { quiet = tt; cause = ap (λ f. f.refusals) cause; fits = omega (arith, ap (λ f. f.refusals) cause); faults = ap (λ f. f.faults) kept }

pub refused_no_less : {C : Type 0} (old new : FolderState C) (name : List ℕ) (error : DeleteError) → old.refusals ≤ last → DeleteCause name (new ≡ old) (new ≡ after_refusal old) (new ≡ old) error → old.refusals ≤ new.refusals
refused_no_less old new name (delete.FileDoesNotExist path) fits cause = omega (arith, ap (λ f. f.refusals) cause.1)
refused_no_less old new name (delete.IoError fault path) fits cause = no_less old.refusals new.refusals fits (ap (λ f. f.refusals) cause.2)
refused_no_less old new name delete.Memory fits cause = omega (arith, ap (λ f. f.refusals) cause)

-- what a delete keeps
pub may_delete : {C : Type 0} (calls : C → ℕ) (old new : FolderState C) → old.refusals ≤ new.refusals → new ≡ record old { refusals = new.refusals } → MayDelete tells_nothing (folder_view calls old) (folder_view calls new)
may_delete calls old new more kept = record {
  goes_on = record { writers = λ w o. o; ended = λ t. absurd t; clock = omega arith; refusals = more };
  heard = refl;
  room = omega arith;
  locks = λ t. absurd t;
  watched = ap (λ f. watch_state_of calls f.watchers) kept;
}

-- a refused write leaves no notice
pub notes_none : {A C : Type 0} (calls : C → ℕ) (old new : FolderState C) (name : List ℕ) (error : IoError) → IoCause (new ≡ after_fault old) (new ≡ old) error → Notes {A = A} (folder_view calls old) (folder_view calls new) name (Err error)
notes_none calls old new name (io.Fault fault) cause = record { ok = tt; err = (cause.0, inl (ap (λ f. watch_state_of calls f.watchers) cause.1)) }
notes_none calls old new name io.Memory cause = record { ok = tt; err = ap (λ f. watch_state_of calls f.watchers) cause }
