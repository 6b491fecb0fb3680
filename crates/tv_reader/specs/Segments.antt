-- What is shown of a segment: its files, as they were read.
use Rattle.std.specs.Prelude.{ℕ, ◌≡◌, Bool, not, ◌||◌, nat_lt, List, [], length, Option, Some, None, get_or, if◌then◌else◌}
use Rattle.tv_formats.specs.declared.segment.LiveSegment.{LiveSegment}
use Rattle.tv_formats.specs.declared.segment.SegmentComponent.{SegmentComponent}
use Rattle.tv_formats.specs.Segments.{is_delete, num_deleted, required_components}
use Rattle.tv_machine.specs.SearcherEvents.{place_of}

-- a segment, and the bodies of the files that it requires, in the order of the components
pub record SegmentShown : Type 0 where
  pub id : List ℕ
  pub segment : LiveSegment
  pub bodies : List (List ℕ)

-- there is a body for each of the files
abbrev pub HasBodies : LiveSegment → List (List ℕ) → Type 0
HasBodies segment bodies = length bodies ≡ length (required_components segment)

-- a segment requires this file: the one of deletes where documents are deleted, and all others
abbrev pub is_required : LiveSegment → SegmentComponent → Bool
is_required segment component = not (is_delete component) || nat_lt 0 (num_deleted segment.deletes)

-- the body of a file; no bytes where the segment doesn't require it
abbrev pub component_body : SegmentShown → SegmentComponent → List ℕ
component_body shown component = get_or shown.bodies (place_of component) []

-- the body of a file, where the segment requires it
abbrev pub required_body : SegmentShown → SegmentComponent → Option (List ℕ)
required_body shown component =
    if is_required shown.segment component then Some (component_body shown component) else None
