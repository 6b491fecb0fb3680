-- The events on live segments.
use Rattle.std.specs.Prelude.{ℕ, List, [], ◌∷◌, codes, Bool, not, is_some, ◌==◌, ◌||◌}
use Rattle.std.specs.Fmt.{decimal}
use Rattle.hex.specs.Hex.{encode_lower}
use Rattle.tv_formats.specs.declared.segment.LiveSegment.{LiveSegment}
use Rattle.tv_machine.specs.State.{Catalog, StepResult, live_at, with_live}
use Rattle.tv_formats.specs.Names.{at}
use Rattle.tv_events.specs.AnswerLines.{line}
use Rattle.tv_machine.specs.Lines.{unless, given}
use Rattle.tv_formats.specs.Segments.{is_named, fresh_segment}

-- the id is that of a live segment or of one of the commit, or a managed name begins with it
abbrev pub is_in_use : Catalog → (managed : List (List ℕ)) → List ℕ → Bool
is_in_use c managed id = is_some (live_at c id) || is_some (at c.commit.segments id) || is_named managed id

-- a new live segment
abbrev pub segment_step : Catalog → (managed : List (List ℕ)) → List ℕ → StepResult Catalog
segment_step c managed id =
    unless c ((is_in_use c managed id, codes "id-in-use" ∷ []) ∷ [])
    (line (codes "segment") (encode_lower id ∷ []), with_live c id fresh_segment)

-- a segment has documents, or deletes
abbrev pub has_docs : LiveSegment → Bool
has_docs segment = not (segment.max_doc == 0) || is_some segment.deletes

-- the number of documents of a live segment that has none yet
abbrev pub docs_step : Catalog → List ℕ → ℕ → StepResult Catalog
docs_step c id n = given c (live_at c id) (codes "unknown-segment") (λ segment.
    unless c ((has_docs segment, codes "wrong-docs" ∷ []) ∷ [])
    (line (codes "docs") (encode_lower id ∷ decimal n ∷ []), with_live c id (record segment { max_doc = n })))
