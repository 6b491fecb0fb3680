-- The order of segments.
use Rattle.std.specs.Prelude.{ℕ, List, map}
use Rattle.tv_formats.specs.declared.segment.LiveSegment.{LiveSegment}
use Rattle.std.specs.List.Sorted.{IsStrictlySortedBy}
use Rattle.tv_formats.specs.Names.{byte_cmp}

-- the segments stand in the order of their ids, each once
abbrev pub IsSorted : List (List ℕ × LiveSegment) → Type 0
IsSorted segments = IsStrictlySortedBy byte_cmp (map (λ e. e.0) segments)
