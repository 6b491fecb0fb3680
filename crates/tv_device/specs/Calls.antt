-- What the calls of a directory do, and why they fail.
use Rattle.std.specs.Prelude.{◌≡◌, ◌≢◌, ◌≤◌, ◌<◌, ◌⊎◌, ◌++◌, ◌∷◌, ℕ, true, false, List, [], Some, None, IsSome, Result, IfErr, OnOk, OnErr, string_bytes}
use Rattle.tv_formats.specs.Files.{Reads, Same, Sets, MaySet, KeepsOthers, Rose}
use Rattle.tv_base.specs.Causes.{IsDevice, IoCause, OpenReadCause, OpenWriteCause, DeleteCause}
use Rattle.tv_base.specs.declared.io.IoFault.{IoFault}
use Rattle.tv_base.specs.declared.io.IoError.{IoError}
use Rattle.tv_base.specs.declared.open_errors.OpenReadError.{OpenReadError}
use Rattle.tv_base.specs.declared.open_errors.OpenWriteError.{OpenWriteError}
use Rattle.tv_base.specs.declared.open_errors.DeleteError.{DeleteError}
use Rattle.tv_base.specs.declared.open_errors.LockError.{LockError}
use Rattle.tv_device.specs.Locks.{FreesLock, LockCause, SameLocks, TakesLock}
use Rattle.tv_device.specs.Telling.{TellsPart}
use Rattle.tv_device.specs.View.{View, Told, WriterState, OnlyLocks, OnlyReads}
use Rattle.tv_device.specs.Watch.{MayNote, noted}

-- a fault of the device, which has no text
abbrev pub IsSilent : IoFault → Type 0
IsSilent fault = IsDevice fault × (string_bytes fault.text ≡ [])

-- A call fails where the device refused it, and the count rose; or where memory was wanted, and then, as at
-- Ok, the count stands still.
pub record IoFaults {A W : Type 0} (old new : View W) (result : Result A IoError) : Type 0 where
  pub quiet : OnOk result (new.faults ≡ old.faults)
  pub cause : IfErr result (IoCause (Rose old.faults new.faults) (new.faults ≡ old.faults))

-- A call that takes no memory fails only where the device refused it, and the count rose; at Ok the count
-- stands still.
pub record DeviceFaults {A W : Type 0} (old new : View W) (result : Result A IoFault) : Type 0 where
  pub quiet : OnOk result (new.faults ≡ old.faults)
  pub cause : IfErr result (λ fault. IsDevice fault × Rose old.faults new.faults)

-- A call that asks whether this name reads fails where the device refused it, and the count rose, or where
-- memory was wanted; never because there is no file. The error names the file.
pub record AskFaults {A W : Type 0} (old new : View W) (name : List ℕ)
    (result : Result A OpenReadError) : Type 0 where
  pub quiet : OnOk result (new.faults ≡ old.faults)
  pub cause : IfErr result (OpenReadCause name ⊥ (Rose old.faults new.faults) (new.faults ≡ old.faults))

-- A call that reads this name fails where the device refused it, and the count rose; where memory was
-- wanted; or where there is no such file, as far as that is told. The error names the file.
pub record ReadFaults {A W : Type 0} (told : Told) (old new : View W) (name : List ℕ)
    (result : Result A OpenReadError) : Type 0 where
  pub quiet : OnOk result (new.faults ≡ old.faults)
  pub cause : IfErr result (OpenReadCause name
      ((told.content → old.reads name ≡ None) × (new.faults ≡ old.faults)) (Rose old.faults new.faults)
      (new.faults ≡ old.faults))

-- A call that makes this file fails where the device refused it, and the count rose; where memory was
-- wanted; or where the file is there, as far as that is told. The error names the file.
pub record OpenFaults {A W : Type 0} (told : Told) (old new : View W) (name : List ℕ)
    (result : Result A OpenWriteError) : Type 0 where
  pub quiet : OnOk result (new.faults ≡ old.faults)
  pub cause : IfErr result (OpenWriteCause name
      ((told.content → IsSome (old.reads name)) × (new.faults ≡ old.faults)) (Rose old.faults new.faults)
      (new.faults ≡ old.faults))

-- A call that deletes this file fails where the device refused it, and the count of refusals, of 64 bits,
-- rose; where memory was wanted; or where there is no such file, as far as that is told. The error names the
-- file.
pub record DeleteFaults {A W : Type 0} (told : Told) (old new : View W) (name : List ℕ)
    (result : Result A DeleteError) : Type 0 where
  pub quiet : OnOk result (new.refusals ≡ old.refusals)
  pub cause : IfErr result (DeleteCause name
      ((told.content → old.reads name ≡ None) × (new.refusals ≡ old.refusals))
      (Rose old.refusals new.refusals) (new.refusals ≡ old.refusals))
  pub fits : new.refusals ≤ 18446744073709551615
  pub faults : new.faults ≡ old.faults

-- A call that takes the lock of this name fails where the lock is held, as far as that is told; where the
-- device refused it, and the count rose; or where memory was wanted.
pub record LockFaults {A W : Type 0} (told : Told) (old new : View W) (name : List ℕ)
    (result : Result A LockError) : Type 0 where
  pub quiet : OnOk result (new.faults ≡ old.faults)
  pub busy : told.locks → IfErr result (LockCause (old.locks name ≡ true) (Unit {0}) (Unit {0}))
  pub cause : IfErr result (LockCause ((told.locks × (new.faults ≡ old.faults)) ⊎ Rose old.faults new.faults)
      (Rose old.faults new.faults) (new.faults ≡ old.faults))

-- a writer that was just opened for a name, and has written nothing
pub record IsNewWriter {W : Type 0} (told : Told) (new : View W) (state_of : W → WriterState)
    (name : List ℕ) (w : W) : Type 0 where
  pub opened : new.opened w ≡ true
  pub lives : told.content → new.lives w ≡ true
  pub state : state_of w ≡ record { name = name; written = [] }

-- where the name was absent, it may read an empty file now; else nothing changed
abbrev pub MayMake : Reads → Reads → List ℕ → Type 0
MayMake old new name = Same old new ⊎ ((old name ≡ None) × Sets old new name (Some []))

-- An empty file is made, where there was none. Where the device refused the call, it may have been; after
-- another error nothing changed.
pub record Makes {A W : Type 0} (told : Told) (old new : View W) (name : List ℕ)
    (result : Result A OpenWriteError) : Type 0 where
  pub ok : told.content → OnOk result ((old.reads name ≡ None) × Sets old.reads new.reads name (Some []))
  pub err : told.content → IfErr result (OpenWriteCause name (Same old.reads new.reads)
      (MayMake old.reads new.reads name) (Same old.reads new.reads))

-- A writer has written these bytes more, and where memory was wanted none. After a refusal of the device only
-- its name is known.
pub record Appends {A : Type 0} (old new : WriterState) (bytes : List ℕ)
    (result : Result A IoError) : Type 0 where
  pub name : new.name ≡ old.name
  pub ok : OnOk result (new.written ≡ old.written ++ bytes)
  pub memory : IfErr result (IoCause (Unit {0}) (new.written ≡ old.written))

-- A writer may be handed in again, unless the device refused the call; and its name was deleted, or wasn't,
-- as before.
pub record HandsBack {A W : Type 0} (told : Told) (old new : View W) (before after : W)
    (result : Result A IoError) : Type 0 where
  pub ok : OnOk result (new.opened after ≡ true)
  pub memory : IfErr result (IoCause (Unit {0}) (new.opened after ≡ true))
  pub lives : told.content → new.lives after ≡ old.lives before

-- Only the writer's file may read something else, and it is still there. Where its name was deleted since,
-- nothing changed.
pub record Touches {W : Type 0} (told : Told) (old new : View W) (state_of : W → WriterState)
    (writer : W) : Type 0 where
  pub others : told.content → KeepsOthers old.reads new.reads (state_of writer).name
  pub there : told.content → old.lives writer ≡ true → IsSome (new.reads (state_of writer).name)
  pub gone : told.content → old.lives writer ≡ false → Same old.reads new.reads

-- The writer's file reads all that was written. Which bytes it reads after a refusal of the device isn't
-- said; where memory was wanted, nothing changed.
pub record Flushes {A W : Type 0} (told : Told) (old new : View W) (state_of : W → WriterState) (writer : W)
    (result : Result A IoError) : Type 0 where
  pub touches : Touches told old new state_of writer
  pub ok : told.content → old.lives writer ≡ true
      → OnOk result (Sets old.reads new.reads (state_of writer).name (Some (state_of writer).written))
  pub memory : told.content → IfErr result (IoCause (Unit {0}) (Same old.reads new.reads))

-- The writer's file is sealed with all that was written; where the device refused that, it may have been, and
-- where memory was wanted nothing changed. Where its name was deleted since, nothing changed.
pub record Seals {A W : Type 0} (told : Told) (old new : View W) (state_of : W → WriterState) (writer : W)
    (result : Result A IoError) : Type 0 where
  pub ok : told.content → old.lives writer ≡ true
      → OnOk result (Sets old.reads new.reads (state_of writer).name (Some (state_of writer).written))
  pub err : told.content → IfErr result (IoCause
      (MaySet old.reads new.reads (state_of writer).name (Some (state_of writer).written))
      (Same old.reads new.reads))
  pub gone : told.content → old.lives writer ≡ false → Same old.reads new.reads

-- The name is given these bytes. Where the device refused the call, it may have been; where memory was
-- wanted, nothing changed.
pub record Gives {A W : Type 0} (told : Told) (old new : View W) (name bytes : List ℕ)
    (result : Result A IoError) : Type 0 where
  pub ok : told.content → OnOk result (Sets old.reads new.reads name (Some bytes))
  pub err : told.content
      → IfErr result (IoCause (MaySet old.reads new.reads name (Some bytes)) (Same old.reads new.reads))

-- Of `meta.json` a notice stands. Where the device refused the call, it may.
pub record Notes {A W : Type 0} (old new : View W) (name : List ℕ) (result : Result A IoError) : Type 0 where
  pub ok : OnOk result (new.watched ≡ noted name old.watched)
  pub err : IfErr result (IoCause (MayNote name old.watched new.watched) (new.watched ≡ old.watched))

-- The name was there, and is gone; where the call is refused nothing changed.
pub record Deletes {A W : Type 0} (told : Told) (old new : View W) (name : List ℕ)
    (result : Result A DeleteError) : Type 0 where
  pub ok : told.content → OnOk result (IsSome (old.reads name) × Sets old.reads new.reads name None)
  pub err : told.content → OnErr result (Same old.reads new.reads)

-- The writers of the name that was deleted live no longer; all others do as before.
pub record EndsWriters {A W : Type 0} (told : Told) (old new : View W) (state_of : W → WriterState)
    (name : List ℕ) (result : Result A DeleteError) : Type 0 where
  pub lost : told.content → OnOk result ((w : W) → (state_of w).name ≡ name → new.lives w ≡ false)
  pub others : told.content → (w : W) → (state_of w).name ≢ name → old.lives w ≡ true → new.lives w ≡ true
  pub kept : told.content → OnErr result ((w : W) → old.lives w ≡ true → new.lives w ≡ true)

-- The lock was free, and is held; where it isn't given, no lock was taken or freed.
pub record Acquires {A W : Type 0} (told : Told) (old new : View W) (name : List ℕ)
    (result : Result A LockError) : Type 0 where
  pub ok : told.locks → OnOk result (TakesLock old.locks new.locks name)
  pub err : told.locks → OnErr result (SameLocks old.locks new.locks)

-- The line was told, with a line feed; where the device refused that, a part of it may have been, without the
-- line feed.
pub record TellsLineTo {A W : Type 0} (told : Told) (old new : View W) (line : List ℕ)
    (result : Result A IoFault) : Type 0 where
  pub ok : told.heard → OnOk result (new.heard ≡ old.heard ++ (old.moment, line ++ 10 ∷ []) ∷ [])
  pub err : told.heard → OnErr result (TellsPart old.heard new.heard old.moment line)

-- The lock of this name is free. The device refused nothing, and nothing else changed.
pub record Frees {W : Type 0} (told : Told) (name : List ℕ) (old new : View W) : Type 0 where
  pub freed : told.locks → FreesLock old.locks new.locks name
  pub faults : new.faults ≡ old.faults
  pub frame : OnlyLocks told old new

-- There is room for a line of this length, unless memory was wanted. The device refused nothing, and nothing
-- else changed.
pub record MakesRoom {A E W : Type 0} (told : Told) (len : ℕ) (result : Result A E)
    (old new : View W) : Type 0 where
  pub made : OnOk result (len < new.room)
  pub faults : new.faults ≡ old.faults
  pub frame : OnlyReads told old new
