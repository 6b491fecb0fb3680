-- The events that collect files, at once and in steps, and the one that ends a segment.
use Rattle.std.specs.Prelude.{ℕ, List, [], ◌∷◌, ◌++◌, map, filter, not, codes, Bool, true, if◌then◌else◌}
use Rattle.std.specs.Fmt.{decimal}
use Rattle.std.specs.Map.{remove_entry}
use Rattle.std.specs.BTreeMap.{is_at}
use Rattle.tv_formats.specs.declared.segment.LiveSegment.{LiveSegment}
use Rattle.tv_formats.specs.Names.{byte_cmp, has}
use Rattle.tv_formats.specs.Collections.{Collection, done_of, failed_of, collectable, without, held, collection_at, having_tried, with_begun, with_collection, without_collection}
use Rattle.tv_machine.specs.Living.{living, is_busy}
use Rattle.tv_formats.specs.Segments.{segment_names}
use Rattle.tv_machine.specs.State.{Catalog, State, StepResult, FileState, SealedFile, Open, Left, live_at}
use Rattle.tv_events.specs.AnswerLines.{line}
use Rattle.tv_machine.specs.Lines.{refuse, unless, given}

-- the managed names that nothing needs and no unfinished collection holds
abbrev pub garbage : State → List (List ℕ)
garbage s = collectable (living s.catalog ++ held s.collections) s.managed

-- the files without those of these names
abbrev pub files_without : (gone : List (List ℕ)) → List (List ℕ × FileState) → List (List ℕ × FileState)
files_without gone files = filter (λ e. not (has gone e.0)) files

-- these files and their names are gone
abbrev pub without_files : State → List (List ℕ) → State
without_files s gone = record s { files = files_without gone s.files; managed = without gone s.managed }

-- what is told of the names that were done and of those that failed
abbrev pub collected_line : List (List ℕ) → List (List ℕ) → List ℕ
collected_line done failed = line (codes "gc deleted") done ++ 32 ∷ line (codes "failed") failed

-- these names are tried at once; those that are done are gone, and those that failed stay
abbrev pub collected : State → List Bool → StepResult State
collected s outcomes = (
  collected_line (done_of (garbage s) outcomes) (failed_of (garbage s) outcomes),
  without_files s (done_of (garbage s) outcomes),
)

-- the garbage is tried at once, unless the meta lock is held
abbrev pub gc_step : State → List Bool → StepResult State
gc_step s outcomes = unless s ((is_busy s.catalog, codes "lock-busy" ∷ []) ∷ []) (collected s outcomes)

-- a collection of these names begins
abbrev pub collection_begun : State → StepResult State
collection_begun s = (
  line (codes "gc") (decimal s.collections.next ∷ garbage s),
  record s { collections = with_begun s.collections (garbage s) },
)

-- a collection of the garbage begins, unless the meta lock is held
abbrev pub gc_begin_step : State → StepResult State
gc_begin_step s = unless s ((is_busy s.catalog, codes "lock-busy" ∷ []) ∷ []) (collection_begun s)

-- whether the one delete of a step is done, which it is unless it was refused
abbrev pub is_done : List Bool → Bool
is_done [] = true
is_done (outcome ∷ outcomes) = outcome

-- a name of a collection was tried: its file is gone, or it failed and stays
abbrev pub having_deleted : State → ℕ → Collection → (name : List ℕ) → (left : List (List ℕ))
    → (is_done : Bool) → StepResult State
having_deleted s number c name left is_done = (
  line (codes "gc") (decimal number ∷ (if is_done then codes "done" else codes "failed") ∷ name ∷ []),
  record s {
    files = if is_done then files_without (name ∷ []) s.files else s.files;
    collections = with_collection s.collections number (having_tried c name left is_done);
  },
)

-- the first of the names that are left is tried
abbrev pub tried_first : State → ℕ → Collection → (untried : List (List ℕ)) → List Bool → StepResult State
tried_first s number c [] outcomes = refuse s (codes "nothing-left" ∷ [])
tried_first s number c (name ∷ left) outcomes = having_deleted s number c name left (is_done outcomes)

-- a collection tries one name more
abbrev pub gc_step_step : State → ℕ → List Bool → StepResult State
gc_step_step s number outcomes =
    given s (collection_at s.collections number) (codes "unknown-collection")
    (λ c. tried_first s number c c.untried outcomes)

-- a collection is finished: what is done is managed no more
abbrev pub ended : State → ℕ → Collection → StepResult State
ended s number c = (
  line (codes "gc") (decimal number ∷ codes "end" ∷ []),
  record s { managed = without c.done s.managed; collections = without_collection s.collections number },
)

-- the event that ends a collection, where it is unfinished
abbrev pub gc_end_step : State → ℕ → StepResult State
gc_end_step s number =
    given s (collection_at s.collections number) (codes "unknown-collection") (ended s number)

-- a file that is written no more
abbrev pub left : FileState → FileState
left (SealedFile bytes) = SealedFile bytes
left (Open body) = Left
left Left = Left

-- the open files among these names are left
abbrev pub with_left : List (List ℕ) → List (List ℕ × FileState) → List (List ℕ × FileState)
with_left names files = map (λ e. (e.0, if has names e.0 then left e.1 else e.1)) files

-- no live segment has this id
abbrev pub without_live : Catalog → List ℕ → Catalog
without_live c id = record c { live = remove_entry (is_at (byte_cmp id)) c.live }

-- this segment is live no more, and its open files are left
abbrev pub released : State → List ℕ → LiveSegment → StepResult State
released s id segment = (
  codes "released",
  record s { catalog = without_live s.catalog id; files = with_left (segment_names (id, segment)) s.files },
)

-- a live segment is released
abbrev pub release_segment_step : State → List ℕ → StepResult State
release_segment_step s id = given s (live_at s.catalog id) (codes "unknown-segment") (released s id)
