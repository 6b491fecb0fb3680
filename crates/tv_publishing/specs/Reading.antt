-- What a handle reads.
use Rattle.std.specs.Prelude.{◌≡◌, ◌-◌, ◌^◌, ℕ, List, length, min, Option, Some, None, IfOk}
use Rattle.tv_formats.specs.declared.segment.SegmentComponent.{SegmentComponent}
use Rattle.tv_machine.specs.SearcherEvents.{body_at}
use Rattle.tv_machine.specs.State.{Snapshot}
use Rattle.tv_publishing.specs.declared.taken.Seen.{Seen}
use Rattle.tv_publishing.specs.declared.taken.Taken.{Taken}
use Rattle.tv_publishing.specs.Lists.{at_number}

-- a handle: the snapshots that it knows of, and how many it knew of at its last read
pub record Handle : Type 0 where
  pub known : List Snapshot
  pub read : ℕ

-- the snapshot that it read last, if it read one
abbrev pub last_read : Handle → Option Snapshot
last_read h = at_number h.known h.read

-- what there is to see of a snapshot: its number, and of its commit the number and how many segments it has,
-- staying at the largest number of 32 bits
abbrev pub seen_of : Snapshot → Seen
seen_of x = record {
  generation = x.generation;
  opstamp = x.commit.opstamp;
  segments = min (length x.commit.segments) (2 ^ 32 - 1);
}

-- the body of a component of the segment at a place, where there is a snapshot, it has such a segment, and
-- this requires the component
abbrev pub body_of : Option Snapshot → ℕ → SegmentComponent → Option (List ℕ)
body_of None ord component = None
body_of (Some x) ord component = body_at x ord component

-- that of the snapshot that the handle read last
abbrev pub read_body : Handle → ℕ → SegmentComponent → Option (List ℕ)
read_body h ord component = body_of (last_read h) ord component

-- what was taken is the snapshot of its number, and what is kept of it is a share
pub record IsTakenOf (list : List Snapshot) (t : Taken) : Type 0 where
  pub entry : Snapshot
  pub there : at_number list t.number ≡ Some entry
  pub seen : t.seen ≡ seen_of entry
  pub kept : IfOk t.kept (λ a. a ≡ entry)

-- .. and it is the last one
abbrev pub IsLastOf : List Snapshot → Taken → Type 0
IsLastOf list t = (t.number ≡ length list) × IsTakenOf list t

-- it is the last one, unless another one was found since
abbrev pub LastIs : List Snapshot → Taken → Option Taken → Type 0
LastIs list last None = last.number ≡ length list
LastIs list last (Some found) = IsLastOf list found

-- what was taken at the last read, and what was found since
pub record HasTaken (list : List Snapshot) (last : Taken) (found : Option Taken) : Type 0 where
  pub entry : IsTakenOf list last
  pub newest : LastIs list last found
