-- What calls leave alone of the files on a disk, whatever they answer.
use Rattle.std.proofs.Common.{◌≡◌, ℕ, Bool, true, false, List, Result, Ok, Err, refl, sym, subst}
use Rattle.tv_formats.specs.Disk.{DiskState, Absent, Unsealed, Sealed, IsThere, Disk, TouchesOnly}
use Rattle.tv_formats.proofs.DiskLaws.{touches_file, touches_none}
use Rattle.tv_base.specs.declared.io.IoError.{IoError}
use Rattle.tv_base.specs.declared.io.IoError.TheVariants as io
use Rattle.tv_base.specs.declared.open_errors.OpenWriteError.{OpenWriteError}
use Rattle.tv_base.specs.declared.open_errors.OpenWriteError.TheVariants as write
use Rattle.tv_device.specs.Images.{KeepsDisk, KeepsOtherStates, GivesState, MayOpen, OpensState, WritesState}

-- a call that only reads touches no file
pub reads_touch : {old new : Disk} (touched : List ℕ → Type 0) → KeepsDisk old new
    → TouchesOnly touched old new
reads_touch touched keeps =
    touches_none touched keeps.time keeps.states.possible.no_more keeps.states.now

-- a file may be made, and the others are left alone
may_be_opened : {old new : Disk} {name : List ℕ} (was : DiskState) → old.now name ≡ was
    → MayOpen old new name → KeepsOtherStates old new name
may_be_opened Absent is opens n ne = (opens.absent is).others n ne
may_be_opened Unsealed is opens n ne = (opens.there (subst IsThere (sym is) tt)).now n
may_be_opened (Sealed bytes) is opens n ne = (opens.there (subst IsThere (sym is) tt)).now n

-- a call that makes a file leaves the others alone
pub others_opened : {A : Type 0} {old new : Disk} {name : List ℕ} (result : Result A OpenWriteError)
    → OpensState old new name result → KeepsOtherStates old new name
others_opened (Ok x) opens n ne = opens.ok.1.others n ne
others_opened (Err (write.FileAlreadyExists path)) opens n ne = opens.err.1.1.now n
others_opened (Err (write.Leaving path)) opens n ne = absurd opens.err
others_opened {old = old} {name = name} (Err (write.IoError fault path)) opens n ne =
    may_be_opened (old.now name) refl opens.err.2 n ne
others_opened (Err write.Memory) opens n ne = opens.err.now n

-- a call that gives a file a state leaves the others alone
pub others_given : {A : Type 0} {old new : Disk} {name : List ℕ} {state : DiskState}
    (result : Result A IoError) → GivesState old new name state result
    → KeepsOtherStates old new name
others_given (Ok x) gives n ne = gives.ok.others n ne
others_given (Err (io.Fault fault)) gives n ne = gives.err.1.others n ne
others_given (Err io.Memory) gives n ne = gives.err.now n

-- a call on a writer touches its file alone
pub touches_by : {A : Type 0} (lives : Bool) {old new : Disk} {name : List ℕ} {state : DiskState}
    {result : Result A IoError} → WritesState lives old new name state result
    → TouchesOnly (λ n. n ≡ name) old new
touches_by true {result = result} writes =
    let gives = writes.gives refl in
    touches_file gives.time gives.no_more (others_given result gives)
touches_by false {name = name} writes = reads_touch (λ n. n ≡ name) (writes.gone refl)
