-- What a directory in memory records of its calls, and what a crash may leave by that.
use Rattle.std.specs.Prelude.{ℕ, ◌++◌, ◌∷◌, Bool, true, false, List, [], drop, length, nat_eq, nat_le, take, if◌then◌else◌}
use Rattle.std.specs.List.{Contains, flat_map, fold}
use Rattle.tv_formats.specs.Disk.{Disk, DiskState, Unsealed, MayAdd, Elapses, possible_now}
use Rattle.tv_formats.specs.Names.{is}
use Rattle.tv_device.specs.Images.{MayOpen, MaySetState}
use Rattle.tv_device.specs.StoredFiles.{States, disk_state_of}
use Rattle.tv_directory.specs.declared.bench_record.Call.{Call}
use Rattle.tv_directory.specs.declared.bench_record.Call.TheVariants.{Replaced, Refused, Told, Synced}

-- the calls that were recorded, and how many more can be without memory
pub record RecordState : Type 0 where
  pub calls : List Call
  pub free : ℕ

-- whether a recorded call is a sync
abbrev pub is_sync : Call → Bool
is_sync (Replaced name before) = false
is_sync (Refused name before after) = false
is_sync Told = false
is_sync Synced = true

-- the calls since the last sync, after one more
abbrev pub and_since : List Call → Call → List Call
and_since calls Synced = []
and_since calls (Replaced name before) = calls ++ Replaced name before ∷ []
and_since calls (Refused name before after) = calls ++ Refused name before after ∷ []
and_since calls Told = calls ++ Told ∷ []

-- the calls since the last sync among these
abbrev pub since_sync : List Call → List Call
since_sync calls = fold and_since [] calls

-- no call was recorded since the last sync
abbrev pub is_settled : List Call → Bool
is_settled calls = nat_eq (length (since_sync calls)) 0

-- how a call found this name; and, where the device refused the call, how it may have left it
abbrev pub found_by : List ℕ → Call → List DiskState
found_by name (Replaced other before) = if is other name then disk_state_of before ∷ [] else []
found_by name (Refused other before after) =
    if is other name then disk_state_of before ∷ disk_state_of after ∷ [] else []
found_by name Told = []
found_by name Synced = []

-- how a name stood before these calls, after which it stands so: as the first of them found it that gave it
-- another file
abbrev pub stood_before : List Call → List ℕ → DiskState → DiskState
stood_before [] name now = now
stood_before (Replaced other before ∷ calls) name now =
    if is other name then disk_state_of before else stood_before calls name now
stood_before (Refused other before after ∷ calls) name now = stood_before calls name now
stood_before (Told ∷ calls) name now = stood_before calls name now
stood_before (Synced ∷ calls) name now = stood_before calls name now

-- The states in which a crash at this moment may leave a name that stands so now, the oldest first: each in
-- which a call since the last sync found it or may have left it, and the one in which it was then.
abbrev pub states_at : List Call → ℕ → List ℕ → DiskState → List DiskState
states_at calls moment name now =
    flat_map (found_by name) (since_sync (take moment calls))
    ++ stood_before (drop moment calls) name now ∷ []

-- what is said of the disk of a directory that recorded these calls, and in which each name stands so
abbrev pub disk_by : List Call → States → Disk
disk_by calls states = record {
  moment = length calls;
  now = states;
  possible = λ moment name state. Contains (states_at calls moment name (states name)) state;
}

-- whether the record has room for a told line and a sync after it, and for a sync before it where there is
-- something to settle
abbrev pub has_line_room : RecordState → Bool
has_line_room r = nat_le (if is_settled r.calls then 2 else 3) r.free

-- a sync is recorded only where there is something to settle
abbrev pub settled_by : List Call → List Call
settled_by calls = if is_settled calls then calls else calls ++ Synced ∷ []

-- One call, after which a crash may leave at most this state of this name besides.
pub record AddsAtMost (old new : Disk) (name : List ℕ) (state : DiskState) : Type 0 where
  pub no_more : MayAdd (possible_now old) (possible_now new) name state
  pub time : Elapses old new

-- A call was recorded that the device refused, and that would have given this name this state.
pub record RecordedRefused (old new : Disk) (name : List ℕ) (state : DiskState) : Type 0 where
  pub sets : MaySetState old new name state
  pub adds : AddsAtMost old new name state

-- A call was recorded that the device refused, and that would have made a file, where there was none.
pub record RefusedOpening (old new : Disk) (name : List ℕ) : Type 0 where
  pub opens : MayOpen old new name
  pub adds : AddsAtMost old new name Unsealed
