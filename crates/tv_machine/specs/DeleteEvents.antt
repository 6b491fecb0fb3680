-- The event that deletes documents of a segment.
use Rattle.std.specs.Prelude.{ℕ, ◌+◌, ◌==◌, ◌||◌, nat_lt, List, [], ◌∷◌, codes, Bool, false, Option, Some, None}
use Rattle.std.specs.Fmt.{decimal}
use Rattle.hex.specs.Hex.{encode_lower}
use Rattle.tv_formats.specs.declared.segment.DeleteMeta.{DeleteMeta}
use Rattle.tv_formats.specs.declared.segment.LiveSegment.{LiveSegment}
use Rattle.tv_formats.specs.declared.segment.SegmentComponent.TheVariants.{Delete}
use Rattle.tv_formats.specs.Names.{is, has, at}
use Rattle.tv_formats.specs.Segments.{name_of}
use Rattle.tv_machine.specs.State.{Catalog, State, StepResult, live_at, with_live}
use Rattle.tv_formats.specs.Collections.{held}
use Rattle.tv_machine.specs.CollectionEvents.{with_left}
use Rattle.tv_machine.specs.CommitEvents.{last_stamp}
use Rattle.tv_events.specs.AnswerLines.{line}
use Rattle.tv_machine.specs.Lines.{unless, given}

-- the name of a segment's delete file
abbrev pub delete_name : List ℕ → Option DeleteMeta → List ℕ
delete_name id deletes = name_of id deletes Delete

-- the deletes of a segment that has so many deleted documents from now on
abbrev pub next_deletes : Catalog → ℕ → DeleteMeta
next_deletes c n = record { num_deleted_docs = n; opstamp = c.next }

-- the name of the delete file of this segment of the commit, where it has this segment
abbrev pub is_committed_delete : Option LiveSegment → (id name : List ℕ) → Bool
is_committed_delete None id name = false
is_committed_delete (Some segment) id name = is (delete_name id segment.deletes) name

-- the name is managed, or it is that of the segment's delete file in the current commit
abbrev pub is_name_in_use : State → (id name : List ℕ) → Bool
is_name_in_use s id name = has s.managed name || is_committed_delete (at s.catalog.commit.segments id) id name

-- the segment has these deletes, and the next stamp was drawn for them
abbrev pub with_deletes : Catalog → List ℕ → LiveSegment → ℕ → Catalog
with_deletes c id segment n =
    record (with_live c id (record segment { deletes = Some (next_deletes c n) })) { next = c.next + 1 }

-- the segment has so many deleted documents from now on; an open file of its former deletes is left
abbrev pub having_deleted_docs : State → List ℕ → ℕ → LiveSegment → StepResult State
having_deleted_docs s id n segment = (
  line (codes "deletes") (encode_lower id ∷ decimal n ∷ decimal s.catalog.next ∷ []),
  record s {
    catalog = with_deletes s.catalog id segment n;
    files = with_left (delete_name id segment.deletes ∷ []) s.files;
  },
)

-- the event by which so many documents of a live segment are deleted
abbrev pub deletes_step : State → List ℕ → ℕ → StepResult State
deletes_step s id n = given s (live_at s.catalog id) (codes "unknown-segment") (λ segment.
    unless s (
    (nat_lt segment.max_doc n, codes "wrong-docs" ∷ [])
    ∷ (s.catalog.next == last_stamp, codes "stamps-spent" ∷ [])
    ∷ (has (held s.collections) (delete_name id (Some (next_deletes s.catalog n))), codes "leaving" ∷ [])
    ∷ (is_name_in_use s id (delete_name id (Some (next_deletes s.catalog n))), codes "name-in-use" ∷ [])
    ∷ []
    )
    (having_deleted_docs s id n segment))
