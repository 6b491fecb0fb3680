-- Merges that are under way.
use Rattle.std.specs.Prelude.{ℕ, ◌+◌, Bool, List}
use Rattle.std.specs.List.{list_any}
use Rattle.tv_base.specs.Entries.{InventoryState, tracked}
use Rattle.tv_formats.specs.Names.{has}

-- a merge: the number of its ticket, the stamp of the segment that it makes, and the ids of its segments
pub record MergeState : Type 0 where
  pub number : ℕ
  pub target_opstamp : ℕ
  pub segment_ids : List (List ℕ)

-- the merges that are under way: the ids of the segments of each, by the number of its ticket
abbrev pub MergesState : Type 0
MergesState = InventoryState (List (List ℕ))

-- whether a segment is in a merge
abbrev pub is_in_merge : MergesState → List ℕ → Bool
is_in_merge merges id = list_any (λ e. has e.value id) merges.entries

-- a merge of these segments was started, under the next number
abbrev pub started : List (List ℕ) → MergesState → MergesState
started ids merges = record {
  next = merges.next + 1;
  entries = tracked merges.next ids merges.entries;
}
