-- What a crash of a directory in memory leaves.
use Rattle.std.specs.Prelude.{◌≡◌, ◌<◌, ◌%◌, ◌||◌, ℕ, Bool, false, List, [], Option, None, Some, get_or, is_some, length}
use Rattle.std.specs.List.{list_any}
use Rattle.std.specs.List.Sorted.{IsStrictlySortedBy}
use Rattle.tv_formats.specs.Disk.{DiskState, Absent, Unsealed, Sealed}
use Rattle.tv_formats.specs.Files.{Reads}
use Rattle.tv_formats.specs.Names.{byte_cmp, has, is}
use Rattle.tv_directory.specs.Record.{states_at}
use Rattle.tv_device.specs.Ram.{ram_reads, ram_states}
use Rattle.tv_directory.specs.declared.bench.Bench.{Bench}
use Rattle.tv_directory.specs.declared.bench_record.Call.{Call}
use Rattle.tv_directory.specs.declared.bench_record.Call.TheVariants.{Replaced, Refused, Told, Synced}

-- what a name reads that a crash leaves in this state: a file that isn't sealed is left empty
abbrev pub left_of : DiskState → Option (List ℕ)
left_of Absent = None
left_of Unsealed = Some []
left_of (Sealed bytes) = Some bytes

-- the state of this number, counted round and round
abbrev pub numbered : List DiskState → ℕ → DiskState
numbered states number = get_or states (number % length states) Absent

-- a call gave this name another file, or the device refused to
abbrev pub changes : List ℕ → Call → Bool
changes name (Replaced other before) = is other name
changes name (Refused other before after) = is other name
changes name Told = false
changes name Synced = false

-- a name has a file, or a recorded call names it
abbrev pub is_known : List Call → Reads → List ℕ → Bool
is_known calls reads name = is_some (reads name) || list_any (changes name) calls

-- what a crash at this moment leaves a name to read, in the state of this number
abbrev pub left_in : {C : Type 0} → Bench C → ℕ → List ℕ → ℕ → Option (List ℕ)
left_in bench moment name number =
    left_of (numbered (states_at bench.recorded.calls moment name (ram_states bench.ram name)) number)

-- these are the names that are known, in their order
pub record AreKnown {C : Type 0} (bench : Bench C) (names : List (List ℕ)) : Type 0 where
  pub sorted : IsStrictlySortedBy byte_cmp names
  pub those : (n : List ℕ) → has names n ≡ is_known bench.recorded.calls (ram_reads bench.ram) n

-- A crash of a directory at this moment leaves this image. Each name that is known, in the order of the
-- names, is left in that of its states whose number is chosen at its place; past the end of the choice that
-- number is 0.
pub record LeavesBy {C : Type 0} (bench : Bench C) (moment : ℕ) (choice : List ℕ)
    (image : Reads) : Type 0 where
  pub names : List (List ℕ)
  pub known : AreKnown bench names
  pub each : (i : ℕ) (n : List ℕ) → i < length names → n ≡ get_or names i []
      → image n ≡ left_in bench moment n (get_or choice i 0)
  pub others : (n : List ℕ) → has names n ≡ false → image n ≡ None
