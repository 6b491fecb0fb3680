-- How the calls of a directory change what a crash may leave.
use Rattle.std.specs.Prelude.{◌≡◌, ◌≢◌, ◌⊎◌, ℕ, Bool, true, false, List, Result, OnOk, OnErr, IfErr}
use Rattle.tv_formats.specs.Disk.{DiskState, Absent, Unsealed, IsThere, MayRead, Disk, possible_now, SamePossible, Within, MayAdd, Adds, IsSettled, Elapses}
use Rattle.tv_base.specs.Causes.{IoCause, OpenWriteCause, DeleteCause}
use Rattle.tv_base.specs.declared.io.IoError.{IoError}
use Rattle.tv_base.specs.declared.open_errors.OpenWriteError.{OpenWriteError}
use Rattle.tv_base.specs.declared.open_errors.DeleteError.{DeleteError}
use Rattle.tv_device.specs.View.{View}

-- What reads is one of the images that a crash now may leave: the state of each name now is a possible one,
-- and the name reads what it may read in that state. The clock is that of the directory.
pub record StandsNow {W : Type 0} (view : View W) (disk : Disk) : Type 0 where
  pub clock : disk.moment ≡ view.moment
  pub possible : (n : List ℕ) → possible_now disk n (disk.now n)
  pub reads : (n : List ℕ) → MayRead (disk.now n) (view.reads n)

-- each name stands as it stood
abbrev pub SameStates : Disk → Disk → Type 0
SameStates old new = (n : List ℕ) → new.now n ≡ old.now n

-- every other name stands as it stood
abbrev pub KeepsOtherStates : Disk → Disk → List ℕ → Type 0
KeepsOtherStates old new name = (n : List ℕ) → n ≢ name → new.now n ≡ old.now n

-- no state changed, nor what a crash may leave
pub record KeepsStates (old new : Disk) : Type 0 where
  pub now : SameStates old new
  pub possible : SamePossible (possible_now old) (possible_now new)

-- no call changed a state, nor what a crash may leave; the clock may have run on
pub record KeepsDisk (old new : Disk) : Type 0 where
  pub states : KeepsStates old new
  pub time : Elapses old new

-- this name is in this state now, and every other one as it was; a crash may leave it so, and each as it
-- might have left it before
pub record SetsState (old new : Disk) (name : List ℕ) (state : DiskState) : Type 0 where
  pub now : new.now name ≡ state
  pub others : KeepsOtherStates old new name
  pub possible : Adds (possible_now old) (possible_now new) name state

-- the device refused a call that would have given the name this state: it is in this state or as it was, and
-- a crash may leave either
pub record MaySetState (old new : Disk) (name : List ℕ) (state : DiskState) : Type 0 where
  pub now : (new.now name ≡ state) ⊎ (new.now name ≡ old.now name)
  pub others : KeepsOtherStates old new name
  pub possible : Adds (possible_now old) (possible_now new) name state

-- A call gives this name this state. Where the device refused the call, it may have; where memory was wanted,
-- nothing changed. Whatever it answers, a crash may leave no other state besides.
pub record GivesState {A : Type 0} (old new : Disk) (name : List ℕ) (state : DiskState)
    (result : Result A IoError) : Type 0 where
  pub ok : OnOk result (SetsState old new name state)
  pub err : IfErr result (IoCause (MaySetState old new name state) (KeepsStates old new))
  pub no_more : MayAdd (possible_now old) (possible_now new) name state
  pub time : Elapses old new

-- where the name has no file, there may be one that isn't sealed; else nothing changed
pub record MayOpen (old new : Disk) (name : List ℕ) : Type 0 where
  pub absent : old.now name ≡ Absent → MaySetState old new name Unsealed
  pub there : IsThere (old.now name) → KeepsStates old new

-- A call makes a file that isn't sealed, where there was none. Where the device refused the call, it may
-- have; after another error nothing changed.
pub record OpensState {A : Type 0} (old new : Disk) (name : List ℕ)
    (result : Result A OpenWriteError) : Type 0 where
  pub ok : OnOk result ((old.now name ≡ Absent) × SetsState old new name Unsealed)
  pub err : IfErr result (OpenWriteCause name (IsThere (old.now name) × KeepsStates old new)
      (MayOpen old new name) (KeepsStates old new))
  pub no_more : MayAdd (possible_now old) (possible_now new) name Unsealed
  pub time : Elapses old new

-- The name of a writer that lives has a file. A call on the writer gives it this state; where the name was
-- deleted since the writer was opened, nothing changed.
pub record WritesState {A : Type 0} (lives : Bool) (old new : Disk) (name : List ℕ) (state : DiskState)
    (result : Result A IoError) : Type 0 where
  pub there : lives ≡ true → IsThere (old.now name)
  pub gives : lives ≡ true → GivesState old new name state result
  pub gone : lives ≡ false → KeepsDisk old new

-- A call deletes the name's file. Where it is refused, or there is none, nothing changed.
pub record DeletesState {A : Type 0} (old new : Disk) (name : List ℕ)
    (result : Result A DeleteError) : Type 0 where
  pub ok : OnOk result (IsThere (old.now name) × SetsState old new name Absent)
  pub err : IfErr result (DeleteCause name ((old.now name ≡ Absent) × KeepsStates old new)
      (KeepsStates old new) (KeepsStates old new))
  pub no_more : MayAdd (possible_now old) (possible_now new) name Absent
  pub time : Elapses old new

-- A sync changes no state. Where it succeeds a crash leaves each name as it is now; a refused one settles
-- nothing. Whatever it answers, a crash may leave no other state besides.
pub record Settles {A E : Type 0} (old new : Disk) (result : Result A E) : Type 0 where
  pub now : SameStates old new
  pub ok : OnOk result (IsSettled new)
  pub err : OnErr result (SamePossible (possible_now old) (possible_now new))
  pub no_more : Within (possible_now old) (possible_now new)
  pub time : Elapses old new
