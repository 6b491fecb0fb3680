-- Locks of a directory.
use Rattle.std.specs.Prelude.{◌≡◌, ◌≢◌, ℕ, Bool, true, false, List, is_some}
use Rattle.tv_base.specs.Causes.{IsDevice}
use Rattle.tv_base.specs.declared.open_errors.LockError.{LockError}
use Rattle.tv_base.specs.declared.open_errors.LockError.TheVariants as lock
use Rattle.tv_formats.specs.Names.{at}

-- whether the lock of each name is held
abbrev pub Locks : Type 0
Locks = List ℕ → Bool

-- each lock is held or free as it was
abbrev pub SameLocks : Locks → Locks → Type 0
SameLocks old new = (n : List ℕ) → new n ≡ old n

-- this lock was free and is held, and every other one is as it was
pub record TakesLock (old new : Locks) (name : List ℕ) : Type 0 where
  pub was_free : old name ≡ false
  pub is_held : new name ≡ true
  pub others : (n : List ℕ) → n ≢ name → new n ≡ old n

-- this lock is free, and every other one is as it was
pub record FreesLock (old new : Locks) (name : List ℕ) : Type 0 where
  pub is_free : new name ≡ false
  pub others : (n : List ℕ) → n ≢ name → new n ≡ old n

-- What is true of each answer of a call that takes a lock: `busy` where it isn't given, `refused` where the
-- device refused the call, `quiet` where memory was wanted.
abbrev pub LockCause : (busy refused quiet : Type 0) → LockError → Type 0
LockCause busy refused quiet lock.LockBusy = busy
LockCause busy refused quiet (lock.IoError fault) = IsDevice fault × refused
LockCause busy refused quiet lock.Memory = quiet

-- the locks that a map of their names keeps
abbrev pub held_in : {X : Type 0} → List (List ℕ × X) → Locks
held_in held name = is_some (at held name)
