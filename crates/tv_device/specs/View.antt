-- All that is said of a directory, and what its calls keep of it.
use Rattle.std.specs.Prelude.{◌≡◌, ◌≤◌, ℕ, List, Bool, true, false}
use Rattle.tv_formats.specs.Files.{Reads, Heard, Same}
use Rattle.tv_device.specs.Locks.{Locks, SameLocks}
use Rattle.tv_device.specs.Watch.{WatchState}

-- what a directory tells: the content of its files, which locks are held, and what was heard
pub record Told : Type 1 where
  pub content : Type 0
  pub locks : Type 0
  pub heard : Type 0

-- all of it
abbrev pub tells_all : Told
tells_all = record { content = Unit {0}; locks = Unit {0}; heard = Unit {0} }

-- nothing of it
abbrev pub tells_nothing : Told
tells_nothing = record { content = ⊥; locks = ⊥; heard = ⊥ }

-- what is said of a directory with writers of a type W
pub record View (W : Type 0) : Type 0 where
  -- the bytes that each name reads, where the content is told
  pub reads : Reads
  -- whether the lock of each name is held, where that is told; a crash frees all
  pub locks : Locks
  -- who is registered to be called, and whether a notice stands for them
  pub watched : WatchState
  -- the clock, which doesn't go back
  pub moment : ℕ
  -- what was told so far, where that is told
  pub heard : Heard
  -- how many bytes of a line, its line feed counted, can be told without memory
  pub room : ℕ
  -- how many calls other than deletes the device has refused, and how many deletes
  pub faults : ℕ
  pub refusals : ℕ
  -- this writer may be handed in: so once it is opened, and after each call on it that answers no fault
  pub opened : W → Bool
  -- the writer's name wasn't deleted since it was opened, where the content is told
  pub lives : W → Bool

-- a file that is being written: its name, and what was written so far
pub record WriterState : Type 0 where
  pub name : List ℕ
  pub written : List ℕ

-- What every call keeps: writers may still be handed in, and what was deleted stays so; time doesn't go back,
-- nor does the count of refused deletes.
pub record GoesOn {W : Type 0} (told : Told) (old new : View W) : Type 0 where
  pub writers : (w : W) → old.opened w ≡ true → new.opened w ≡ true
  pub ended : told.content → (w : W) → old.opened w ≡ true → old.lives w ≡ false → new.lives w ≡ false
  pub clock : old.moment ≤ new.moment
  pub refusals : old.refusals ≤ new.refusals

-- What every call keeps, and no writer lost its file, and no delete was refused.
pub record DeletesNone {W : Type 0} (told : Told) (old new : View W) : Type 0 where
  pub goes_on : GoesOn told old new
  pub refusals : new.refusals ≡ old.refusals
  pub alive : told.content → (w : W) → old.lives w ≡ true → new.lives w ≡ true

-- No writer lost its file, no delete was refused, nothing was told, and the room for a line didn't shrink.
pub record TellsNone {W : Type 0} (told : Told) (old new : View W) : Type 0 where
  pub deletes_none : DeletesNone told old new
  pub heard : new.heard ≡ old.heard
  pub room : old.room ≤ new.room

-- No writer lost its file, no delete was refused, nothing was told, the room for a line didn't shrink, and
-- no lock was taken or freed.
pub record Frame {W : Type 0} (told : Told) (old new : View W) : Type 0 where
  pub tells_none : TellsNone told old new
  pub locks : told.locks → SameLocks old.locks new.locks

-- No writer lost its file, no delete was refused, nothing was told, no lock was taken or freed, nobody was
-- registered or called, and no notice came.
pub record Kept {W : Type 0} (told : Told) (old new : View W) : Type 0 where
  pub frame : Frame told old new
  pub watched : new.watched ≡ old.watched

-- No writer lost its file, no delete was refused, nothing was told, no lock was taken or freed, nobody was
-- registered or called, no notice came, and each name reads what it read.
pub record OnlyReads {W : Type 0} (told : Told) (old new : View W) : Type 0 where
  pub kept : Kept told old new
  pub content : told.content → Same old.reads new.reads

-- All of that, but a lock may have been taken or freed.
pub record OnlyLocks {W : Type 0} (told : Told) (old new : View W) : Type 0 where
  pub tells_none : TellsNone told old new
  pub watched : new.watched ≡ old.watched
  pub content : told.content → Same old.reads new.reads

-- All of that, and the device refused nothing; but somebody may have been registered or called.
pub record OnlyWatches {W : Type 0} (told : Told) (old new : View W) : Type 0 where
  pub frame : Frame told old new
  pub faults : new.faults ≡ old.faults
  pub content : told.content → Same old.reads new.reads

-- All of that, but something may have been told, and its room used.
pub record OnlyTells {W : Type 0} (told : Told) (old new : View W) : Type 0 where
  pub deletes_none : DeletesNone told old new
  pub locks : told.locks → SameLocks old.locks new.locks
  pub watched : new.watched ≡ old.watched
  pub content : told.content → Same old.reads new.reads

-- What a call keeps that may delete files: nothing was told, no lock was taken or freed, nobody was
-- registered or called.
pub record MayDelete {W : Type 0} (told : Told) (old new : View W) : Type 0 where
  pub goes_on : GoesOn told old new
  pub heard : new.heard ≡ old.heard
  pub room : old.room ≤ new.room
  pub locks : told.locks → SameLocks old.locks new.locks
  pub watched : new.watched ≡ old.watched
