-- A directory in memory.
use Rattle.std.specs.Prelude.{ℕ, List, [], ◌≡◌, ◌-◌, Bool, Result, IfErr, false, nat_lt}
use Rattle.tv_formats.specs.Disk.{Unsealed}
use Rattle.tv_formats.specs.Files.{Reads, Same}
use Rattle.tv_base.specs.Causes.{OpenWriteCause}
use Rattle.tv_base.specs.declared.open_errors.OpenWriteError.{OpenWriteError}
use Rattle.tv_device.specs.Locks.{Locks, held_in}
use Rattle.tv_device.specs.StoredFiles.{PutsState, States, reads_of, states_of, is_made}
use Rattle.tv_device.specs.View.{View, WriterState}
use Rattle.tv_device.specs.Watch.{WatchState}
use Rattle.tv_device.specs.WatchList.{watch_state_of}
use Rattle.tv_device.specs.declared.ram_directory.RamDirectory.{RamDirectory}
use Rattle.tv_device.specs.declared.ram_directory.RamWriter.{RamWriter}

-- what it reads
abbrev pub ram_reads : {C : Type 0} → RamDirectory C → Reads
ram_reads ram = reads_of ram.files.map.entries

-- how each name stands
abbrev pub ram_states : {C : Type 0} → RamDirectory C → States
ram_states ram = states_of ram.files.map.entries

-- a writer got its number here, which no later writer gets: the numbers begin with 1
abbrev pub ram_opened : {C : Type 0} → RamDirectory C → RamWriter → Bool
ram_opened ram w = nat_lt (w.number - 1) ram.files.last

-- the file that the writer made still has its name
abbrev pub ram_lives : {C : Type 0} → RamDirectory C → RamWriter → Bool
ram_lives ram w = is_made ram.files.map.entries w.name w.number

-- which locks of a directory in memory are held
abbrev pub ram_locks : {C : Type 0} → RamDirectory C → Locks
ram_locks ram = held_in ram.held.entries

-- who is registered, and whether a notice stands
abbrev pub ram_watched : {C : Type 0} → (C → ℕ) → RamDirectory C → WatchState
ram_watched calls ram = watch_state_of calls ram.watchers

-- all that is said of it: it has no device and no clock, and is told nothing
abbrev pub ram_view : {C : Type 0} → (C → ℕ) → RamDirectory C → View RamWriter
ram_view calls ram = record {
  reads = ram_reads ram;
  locks = ram_locks ram;
  watched = ram_watched calls ram;
  moment = 0;
  heard = [];
  room = 0;
  faults = 0;
  refusals = 0;
  opened = ram_opened ram;
  lives = ram_lives ram;
}

-- the file that a writer writes
abbrev pub ram_state : RamWriter → WriterState
ram_state w = record { name = w.name; written = w.bytes.items }

-- the writer writes the same file: nothing of it changed but what was written
abbrev pub SameFile : RamWriter → RamWriter → Type 0
SameFile old new = new ≡ record old { bytes = new.bytes }

-- nothing changed but the files
abbrev pub OnlyFiles : {C : Type 0} → RamDirectory C → RamDirectory C → Type 0
OnlyFiles old new = new ≡ record old { files = new.files }

-- nothing changed but the files and whether a notice stands
abbrev pub OnlyNoted : {C : Type 0} → RamDirectory C → RamDirectory C → Type 0
OnlyNoted old new =
    new ≡ record old { files = new.files; watchers = record old.watchers { notice = new.watchers.notice } }

-- nothing changed but which locks are held
abbrev pub OnlyHeld : {C : Type 0} → RamDirectory C → RamDirectory C → Type 0
OnlyHeld old new = new ≡ record old { held = new.held }

-- nothing changed but who watches it
abbrev pub OnlyWatchers : {C : Type 0} → RamDirectory C → RamDirectory C → Type 0
OnlyWatchers old new = new ≡ record old { watchers = new.watchers }

-- A call on this writer: nothing changed but the files, and nothing at all where its name was deleted. The
-- same writers may be handed in, and each has its file or lost it as before, also those that were never
-- opened here.
pub record KeepsWriters {C : Type 0} (writer : RamWriter) (old new : RamDirectory C) : Type 0 where
  pub others : OnlyFiles old new
  pub opened : (w : RamWriter) → ram_opened new w ≡ ram_opened old w
  pub lives : (w : RamWriter) → ram_lives new w ≡ ram_lives old w
  pub gone : ram_lives old writer ≡ false → new ≡ old

-- A call that makes an empty file, where there was none: nothing changed but the files, and of these at most
-- that of this name; nothing at all where it was there and the call says so.
pub record MakesRamFile {A C : Type 0} (old new : RamDirectory C) (name : List ℕ)
    (result : Result A OpenWriteError) : Type 0 where
  pub states : PutsState (ram_states old) (ram_states new) name Unsealed result
  pub there : IfErr result (OpenWriteCause name (new ≡ old) ⊥ (Unit {0}))
  pub others : OnlyFiles old new

-- A new directory in memory reads these files; no writer was opened, no lock is held, and nobody watches it.
pub record IsNewRam {C : Type 0} (calls : C → ℕ) (files : Reads) (ram : RamDirectory C) : Type 0 where
  pub reads : Same files (ram_reads ram)
  pub unopened : (w : RamWriter) → ram_opened ram w ≡ false
  pub free : (n : List ℕ) → ram_locks ram n ≡ false
  pub watched : ram_watched calls ram ≡ record { registered = []; notice = false }
