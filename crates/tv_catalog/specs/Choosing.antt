-- Which segments a commit is told of, and which it takes.
use Rattle.std.specs.Prelude.{ℕ, ◌≤◌, Bool, List, [], ◌∷◌, ◌++◌, nat_le, nat_lt, if◌then◌else◌}
use Rattle.std.specs.List.{filter}
use Rattle.tv_base.specs.declared.inventory.Entry.{Entry}
use Rattle.tv_formats.specs.declared.segment.LiveSegment.{LiveSegment}
use Rattle.tv_formats.specs.Segments.{num_deleted, num_docs}

-- whether no more documents of a segment are deleted than there are
abbrev pub is_within : LiveSegment → Bool
is_within segment = nat_le (num_deleted segment.deletes) segment.max_doc

-- segments, and one more behind them, unless more of its documents are deleted than there are
abbrev pub with_segment : List (List ℕ × LiveSegment) → List ℕ → LiveSegment → List (List ℕ × LiveSegment)
with_segment segments id segment = if is_within segment then segments ++ (id, segment) ∷ [] else segments

-- those of some segments that have living documents
abbrev pub with_documents : List (List ℕ × LiveSegment) → List (List ℕ × LiveSegment)
with_documents segments = filter (λ e. nat_lt 0 (num_docs e.1)) segments

-- at most one share of an entry is out
abbrev pub IsShareable : {T : Type 0} → Entry T → Type 0
IsShareable e = e.count ≤ 1
