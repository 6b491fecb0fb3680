-- The meta lock that is kept for a reload, as it is taken and given back.
use Rattle.std.specs.Prelude.{ℕ, ◌≡◌, ◌≢◌, Bool, true, false, List}
use Rattle.tv_device.specs.View.{OnlyLocks, Told, View}
use Rattle.tv_managed.specs.Collecting.{meta_lock_name}
use Rattle.tv_store.specs.Applying.{KeepsLocks}
use Rattle.tv_store.specs.Kept.{FilesState}

-- Of the files of a store all stays but whether the meta lock is kept for a reload, which this says from now
-- on, and of the directory below what such a call keeps.
pub record KeepsAllButLock {O W : Type 0} (keeps : View W → View W → Type 0) (view : O → View W)
    (locked : Bool) (old new : FilesState O) : Type 0 where
  pub rest : new ≡ record old { outside = new.outside; locked = locked }
  pub below : keeps (view old.outside) (view new.outside)

-- The meta lock is free where it was kept for a reload. The device refused nothing, and nothing else changed.
pub record GivesBack {W : Type 0} (told : Told) (was_locked : Bool) (old new : View W) : Type 0 where
  pub locks : told.locks → KeepsLocks was_locked false old.locks new.locks
  pub faults : new.faults ≡ old.faults
  pub frame : OnlyLocks told old new

-- The lock of this name is free, and so is the meta lock where it was kept for a reload. The device refused
-- nothing, and nothing else changed.
pub record FreesLocks {W : Type 0} (told : Told) (name : List ℕ) (was_locked : Bool) (old new : View W)
    : Type 0 where
  pub freed : told.locks → new.locks name ≡ false
  pub meta : told.locks → was_locked ≡ true → new.locks meta_lock_name ≡ false
  pub others : told.locks → (n : List ℕ) → n ≢ name → (was_locked ≡ true → n ≢ meta_lock_name)
      → new.locks n ≡ old.locks n
  pub faults : new.faults ≡ old.faults
  pub frame : OnlyLocks told old new
