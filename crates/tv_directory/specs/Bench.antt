-- A directory in memory that fails, and is told lines.
use Rattle.std.specs.Prelude.{ℕ, ◌≡◌, [], false, List, Result, length, OnOk, IfErr, if◌then◌else◌}
use Rattle.tv_formats.specs.Disk.{Disk, IsSettled}
use Rattle.tv_formats.specs.Files.{Reads, Same}
use Rattle.tv_formats.specs.Sound.{IsSoundDirectory, IsSoundImage}
use Rattle.tv_base.specs.Causes.{IsDevice, IoCause, DeleteCause}
use Rattle.tv_base.specs.declared.io.IoError.{IoError}
use Rattle.tv_base.specs.declared.io.IoFault.{IoFault}
use Rattle.tv_base.specs.declared.open_errors.DeleteError.{DeleteError}
use Rattle.tv_directory.specs.Device.{DeviceState, Passed, Faulted, Refused, after_call}
use Rattle.tv_device.specs.Locks.{Locks}
use Rattle.tv_device.specs.Ram.{KeepsWriters, SameFile, ram_lives, ram_states, ram_view}
use Rattle.tv_directory.specs.Record.{disk_by, has_line_room}
use Rattle.tv_device.specs.StoredFiles.{at_rest}
use Rattle.tv_device.specs.View.{View}
use Rattle.tv_directory.specs.declared.bench.Bench.{Bench}
use Rattle.tv_device.specs.declared.ram_directory.RamDirectory.{RamDirectory}
use Rattle.tv_device.specs.declared.ram_directory.RamWriter.{RamWriter}

-- all that is said of it
abbrev pub view_in : {C : Type 0} → (C → ℕ) → Bench C → View RamWriter
view_in calls bench = record (ram_view calls bench.ram) {
  moment = length bench.recorded.calls;
  heard = bench.told.0;
  room = if has_line_room bench.recorded then bench.told.1 else 0;
  faults = bench.device.faults;
  refusals = bench.device.refusals;
}

-- what a crash of a bench may leave, by what was recorded
abbrev pub disk_in : {C : Type 0} → Bench C → Disk
disk_in bench = disk_by bench.recorded.calls (ram_states bench.ram)

-- These files are sealed and settled, and a crash leaves just them.
pub record IsAtRest (files : Reads) (disk : Disk) : Type 0 where
  pub states : (n : List ℕ) → disk.now n ≡ at_rest (files n)
  pub settled : IsSettled disk

-- where these files are sound, so is the directory: each image that a crash may leave is, and no lock is held
abbrev pub IsSoundWhere : Reads → Disk → Locks → Type 0
IsSoundWhere files disk locks =
    (schema : List ℕ) → IsSoundImage schema files → IsSoundDirectory schema disk locks

-- the device of a bench: which calls it refuses, and how many there were
abbrev pub device_in : {C : Type 0} → Bench C → DeviceState
device_in bench = bench.device

-- A new bench reads these files; no writer was opened, no lock is held, nobody watches it, the clock and the
-- counts are 0, and nothing was told.
pub record IsNewBench {W : Type 0} (files : Reads) (view : View W) : Type 0 where
  pub reads : Same files view.reads
  pub unopened : (w : W) → view.opened w ≡ false
  pub free : (n : List ℕ) → view.locks n ≡ false
  pub watched : view.watched ≡ record { registered = []; notice = false }
  pub moment : view.moment ≡ 0
  pub heard : view.heard ≡ []
  pub faults : view.faults ≡ 0
  pub refusals : view.refusals ≡ 0

-- nothing changed but the device, and how much can be recorded without memory
abbrev pub Untouched : {C : Type 0} → Bench C → Bench C → Type 0
Untouched old new =
    new ≡ record old { device = new.device; recorded = record old.recorded { free = new.recorded.free } }

-- nothing changed but the device and what was recorded
abbrev pub Timed : {C : Type 0} → Bench C → Bench C → Type 0
Timed old new = new ≡ record old { device = new.device; recorded = new.recorded }

-- nothing changed but the device, what was recorded, and the files, locks and watchers: nothing was told
abbrev pub Untold : {C : Type 0} → Bench C → Bench C → Type 0
Untold old new = new ≡ record old { device = new.device; recorded = new.recorded; ram = new.ram }

-- nothing changed but the device, what was recorded, and what was told
abbrev pub OnlyTold : {C : Type 0} → Bench C → Bench C → Type 0
OnlyTold old new = new ≡ record old { device = new.device; recorded = new.recorded; told = new.told }

-- nothing changed but the room for a line, and for recording it
abbrev pub OnlyRoom : {C : Type 0} → Bench C → Bench C → Type 0
OnlyRoom old new =
    new ≡ record old { told = new.told; recorded = record old.recorded { free = new.recorded.free } }

-- nothing changed but what was recorded
abbrev pub OnlyRecords : {C : Type 0} → Bench C → Bench C → Type 0
OnlyRecords old new = new ≡ record old { recorded = new.recorded }

-- nothing changed but the files, locks and watchers, and of these what the directory below says
abbrev pub Below : {C : Type 0} → (RamDirectory C → RamDirectory C → Type 0) → Bench C → Bench C → Type 0
Below keeps old new = (new ≡ record old { ram = new.ram }) × keeps old.ram new.ram

-- nothing changed but the device, which took the call's number, and the files, locks and watchers as the
-- directory below says
abbrev pub NumberedBelow : {C : Type 0} → (RamDirectory C → RamDirectory C → Type 0)
    → Bench C → Bench C → Type 0
NumberedBelow keeps old new =
    (new ≡ record old { device = new.device; ram = new.ram }) × keeps old.ram new.ram

-- A write shows nothing before the flush: nothing changed but the device, and of the writer nothing but what
-- was written.
abbrev pub ShowsNothing : {C : Type 0} → (before after : RamWriter) → Bench C → Bench C → Type 0
ShowsNothing before after old new = Untouched old new × SameFile before after

-- A call on this writer: nothing was told, and nothing changed but the device where its name was deleted. The
-- writers are as before.
pub record WritesOut {C : Type 0} (writer : RamWriter) (old new : Bench C) : Type 0 where
  pub untold : Untold old new
  pub writers : KeepsWriters writer old.ram new.ram
  pub gone : ram_lives old.ram writer ≡ false → Untouched old new

-- A call takes its number, and is refused exactly where that one is listed: then it is counted as a fault,
-- and nothing changes but what was recorded. It changes no more than `keeps` says.
pub record Numbered {A C E : Type 0} (keeps : Bench C → Bench C → Type 0)
    (why : (passed refused quiet : Type 0) → E → Type 0) (old new : Bench C)
    (result : Result A E) : Type 0 where
  pub passed : OnOk result (Passed old.device new.device)
  pub cause : IfErr result (why (Untouched old new × Passed old.device new.device)
      (Timed old new × Faulted old.device new.device) (new.device ≡ after_call old.device))
  pub kept : keeps old new

-- A delete takes its number, and is refused exactly where that one is listed: then it is counted as a
-- refusal, and nothing else changes.
pub record NumberedDelete {A C : Type 0} (old new : Bench C) (name : List ℕ)
    (result : Result A DeleteError) : Type 0 where
  pub passed : OnOk result (Passed old.device new.device)
  pub cause : IfErr result (DeleteCause name (Passed old.device new.device)
      (Untouched old new × Refused old.device new.device) (new.device ≡ after_call old.device))
  pub kept : Untold old new

-- why a call gives an error: the device refused it, or memory was wanted
abbrev pub of_io : (passed refused quiet : Type 0) → IoError → Type 0
of_io passed refused quiet error = IoCause refused quiet error

-- why a write gives an error: the device refused it, and the writer is what it was; or memory was wanted
abbrev pub of_write : RamWriter → RamWriter → (passed refused quiet : Type 0) → IoError → Type 0
of_write before after passed refused quiet error = IoCause ((after ≡ before) × refused) quiet error

-- why a call that takes no memory gives an error: the device refused it, and nothing was recorded
abbrev pub of_device : {C : Type 0} → Bench C → Bench C → (passed refused quiet : Type 0) → IoFault → Type 0
of_device old new passed refused quiet fault = IsDevice fault × Untouched old new × refused
