-- What a recorded call leaves alone of a directory in memory.
use Rattle.std.proofs.Common.{◌≡◌, ◌≤◌, ◌++◌, ◌∷◌, ◌∙◌, [], ℕ, List, true, sym, ap, subst, length}
use Rattle.std.proofs.Common.{arith, if◌then◌else◌}
use Rattle.std.proofs.lemmas.List.{length-append}
use Rattle.tv_formats.specs.Files.{Same}
use Rattle.tv_directory.specs.Bench.{OnlyRecords, Timed, Untold, Untouched, view_in}
use Rattle.tv_directory.specs.Device.{DeviceState, Faulted, after_call, after_fault, is_refused}
use Rattle.tv_device.specs.Ram.{ram_reads, ram_view}
use Rattle.tv_directory.specs.Record.{RecordState, has_line_room}
use Rattle.tv_device.specs.View.{Frame, GoesOn, Kept, MayDelete, tells_all}
use Rattle.tv_device.specs.ViewLaws.{kept_itself}
use Rattle.tv_directory.specs.declared.bench.Bench.{Bench}
use Rattle.tv_directory.specs.declared.bench_record.Call.{Call}
use Rattle.tv_device.specs.declared.ram_directory.RamDirectory.{RamDirectory}
use Rattle.tv_directory.proofs.Recorded.{room_kept}

-- ---- calls that changed nothing but the device and what was recorded

pub record Aside {C : Type 0} (old new : Bench C) : Type 0 where
  pub timed : Timed old new

module _ {C : Type 0} {old new : Bench C} (aside : Aside old new) where
  pub same_ram : new.ram ≡ old.ram
  same_ram = ap (λ (b : Bench C). b.ram) aside.timed

  pub same_reads : Same (ram_reads old.ram) (ram_reads new.ram)
  same_reads n = ap (λ (ram : RamDirectory C). ram_reads ram n) same_ram

  pub untouched : new.recorded.calls ≡ old.recorded.calls → Untouched old new
  untouched calls =
      aside.timed ∙ ap (λ (l : List Call). record old {
        device = new.device;
        recorded = record { calls = l; free = new.recorded.free };
      }) calls

  pub untold : Untold old new
  untold =
      aside.timed ∙ ap (λ (ram : RamDirectory C). record old {
        device = new.device;
        recorded = new.recorded;
        ram = ram;
      }) (sym same_ram)

  -- also where the files changed afterwards, and something was recorded
  pub untold_then : (ram : RamDirectory C) (recorded : RecordState)
      → Untold old (record new { ram = ram; recorded = recorded })
  untold_then ram recorded =
      ap (λ (b : Bench C). record b { ram = ram; recorded = recorded }) aside.timed

-- the call took its number, and may have recorded something
pub record Begun {C : Type 0} (old new : Bench C) : Type 0 where
  pub aside : Aside old new
  pub number : new.device ≡ after_call old.device
  pub line : has_line_room old.recorded ≡ true → has_line_room new.recorded ≡ true

pub begun : {C : Type 0} (old new : Bench C) (device : DeviceState)
    → OnlyRecords (record old { device = device }) new → device ≡ after_call old.device
    → (has_line_room old.recorded ≡ true → has_line_room new.recorded ≡ true) → Begun old new
begun {C} old new device others number line =
    let is : new.device ≡ device = ap (λ (b : Bench C). b.device) others in
    record {
      aside = record {
        timed = others ∙ ap (λ (d : DeviceState). record old {
          device = d;
          recorded = new.recorded;
        }) (sym is);
      };
      number = is ∙ number;
      line = line;
    }

-- and was refused, and counted as a fault
pub record Failed {C : Type 0} (old new : Bench C) : Type 0 where
  pub aside : Aside old new
  pub faulted : Faulted old.device new.device
  pub line : has_line_room old.recorded ≡ true → has_line_room new.recorded ≡ true

pub failed : {C : Type 0} {old mid : Bench C} (device : DeviceState) → Begun old mid
    → is_refused old.device ≡ true → device ≡ after_fault mid.device
    → Failed old (record mid { device = device })
failed {C} device begun refused counted = record {
  aside = record { timed = ap (λ (b : Bench C). record b { device = device }) begun.aside.timed };
  faulted = record { is = refused; after = counted ∙ ap after_fault begun.number };
  line = begun.line;
}

-- ---- what they keep

-- nothing was told, the record didn't shrink, and no delete was refused
pub record Follows {C : Type 0} (old new : Bench C) : Type 0 where
  pub told : new.told ≡ old.told
  pub later : length old.recorded.calls ≤ length new.recorded.calls
  pub line : has_line_room old.recorded ≡ true → has_line_room new.recorded ≡ true
  pub refusals : new.device.refusals ≡ old.device.refusals

pub follows_failed : {C : Type 0} {old new : Bench C} → Failed old new
    → length old.recorded.calls ≤ length new.recorded.calls → Follows old new
follows_failed {C} failed later = record {
  told = ap (λ (b : Bench C). b.told) failed.aside.timed;
  later = later;
  line = failed.line;
  refusals = ap (λ (d : DeviceState). d.refusals) failed.faulted.after;
}

-- nothing was recorded, but the files may have changed
pub follows_below : {C : Type 0} {old mid : Bench C} (ram : RamDirectory C) → Begun old mid
    → mid.recorded.calls ≡ old.recorded.calls → Follows old (record mid { ram = ram })
follows_below {C} ram begun same = record {
  told = ap (λ (b : Bench C). b.told) begun.aside.timed;
  later = omega (arith, ap length same);
  line = begun.line;
  refusals = ap (λ (d : DeviceState). d.refusals) begun.number;
}

-- the change was recorded
pub follows_done : {C : Type 0} {old mid : Bench C} (ram : RamDirectory C) (recorded : RecordState)
    (call : Call) → Begun old mid → mid.recorded.calls ≡ old.recorded.calls
    → recorded.calls ≡ mid.recorded.calls ++ call ∷ [] → has_line_room recorded ≡ true
    → Follows old (record mid { ram = ram; recorded = recorded })
follows_done {C} {mid = mid} ram recorded call begun same added line = record {
  told = ap (λ (b : Bench C). b.told) begun.aside.timed;
  later = omega (
    arith,
    ap length same,
    ap length added,
    length-append mid.recorded.calls (call ∷ []),
  );
  line = λ before. line;
  refusals = ap (λ (d : DeviceState). d.refusals) begun.number;
}

module _ {C : Type 0} (calls : C → ℕ) {old new : Bench C} (follows : Follows old new) where
  goes_in : GoesOn tells_all (ram_view calls old.ram) (ram_view calls new.ram)
      → GoesOn tells_all (view_in calls old) (view_in calls new)
  goes_in below = record {
    writers = below.writers;
    ended = below.ended;
    clock = follows.later;
    refusals = omega (arith, follows.refusals);
  }

  room_in : (view_in calls old).room ≤ (view_in calls new).room
  room_in =
      subst (λ t. (if has_line_room old.recorded then old.told.1 else 0)
      ≤ (if has_line_room new.recorded then t.1 else 0)) (sym follows.told)
      (room_kept old.recorded new.recorded old.told.1 follows.line)

  -- what the files, locks and watchers keep, and the record, and what was told
  pub frame_in : Frame tells_all (ram_view calls old.ram) (ram_view calls new.ram)
      → Frame tells_all (view_in calls old) (view_in calls new)
  frame_in below = record {
    tells_none = record {
      deletes_none = record {
        goes_on = goes_in below.tells_none.deletes_none.goes_on;
        refusals = follows.refusals;
        alive = below.tells_none.deletes_none.alive;
      };
      heard = ap (λ t. t.0) follows.told;
      room = room_in;
    };
    locks = below.locks;
  }

  pub kept_in : Kept tells_all (ram_view calls old.ram) (ram_view calls new.ram)
      → Kept tells_all (view_in calls old) (view_in calls new)
  kept_in below = record { frame = frame_in below.frame; watched = below.watched }

  -- the same where a file may be deleted
  pub deleting_in : MayDelete tells_all (ram_view calls old.ram) (ram_view calls new.ram)
      → MayDelete tells_all (view_in calls old) (view_in calls new)
  deleting_in below = record {
    goes_on = goes_in below.goes_on;
    heard = ap (λ t. t.0) follows.told;
    room = room_in;
    locks = below.locks;
    watched = below.watched;
  }

  -- the files, locks and watchers are as they were
  pub kept_aside : Aside old new → Kept tells_all (view_in calls old) (view_in calls new)
  kept_aside aside =
      kept_in (subst
      (λ (ram : RamDirectory C). Kept tells_all (ram_view calls old.ram) (ram_view calls ram))
      (sym (same_ram aside)) (kept_itself tells_all (ram_view calls old.ram)))
