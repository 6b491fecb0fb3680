-- The events on files.
use Rattle.std.specs.Prelude.{ℕ, Bool, List, [], ◌∷◌, ◌++◌, length, codes, Option, Some, None, is_some, nat_lt, not, ◌&&◌}
use Rattle.std.specs.Fmt.{decimal}
use Rattle.std.specs.BTreeSet.{insert_key}
use Rattle.tv_formats.specs.declared.segment.LiveSegment.{LiveSegment}
use Rattle.tv_formats.specs.declared.segment.SegmentComponent.{SegmentComponent}
use Rattle.tv_formats.specs.Names.{byte_cmp}
use Rattle.tv_formats.specs.Footer.{sealed}
use Rattle.tv_formats.specs.Segments.{name_of, is_delete, num_deleted}
use Rattle.tv_machine.specs.State.{State, StepResult, FileState, SealedFile, Open, Left, live_at, file_at, with_file}
use Rattle.tv_events.specs.AnswerLines.{line}
use Rattle.tv_machine.specs.Lines.{unless, given}

-- a new open file, whose name is managed
abbrev pub opened : State → List ℕ → StepResult State
opened s name = (
  line (codes "opened") (name ∷ []),
  record (with_file s name (Open [])) { managed = insert_key byte_cmp s.managed name },
)

-- a component is the delete file of a segment without deletes
abbrev pub lacks_deletes : LiveSegment → SegmentComponent → Bool
lacks_deletes segment component = is_delete component && not (nat_lt 0 (num_deleted segment.deletes))

-- a file of a live segment is made under this name, unless there is one
abbrev pub open_name : State → LiveSegment → SegmentComponent → List ℕ → StepResult State
open_name s segment component name =
    unless s ((lacks_deletes segment component, codes "no-deletes" ∷ [])
    ∷ (is_some (file_at s name), codes "exists" ∷ []) ∷ [])
    (opened s name)

-- a live segment's file is opened
abbrev pub open_step : State → List ℕ → SegmentComponent → StepResult State
open_step s id component =
    given s (live_at s.catalog id) (codes "unknown-segment")
    (λ segment. open_name s segment component (name_of id segment.deletes component))

-- what was written to a file, where it is open
abbrev pub written_to : Option FileState → Option (List ℕ)
written_to None = None
written_to (Some (SealedFile bytes)) = None
written_to (Some (Open body)) = Some body
written_to (Some Left) = None

-- the file has these bytes more
abbrev pub wrote : State → List ℕ → (bytes body : List ℕ) → StepResult State
wrote s name bytes body = (
  line (codes "wrote") (name ∷ decimal (length (body ++ bytes)) ∷ []),
  with_file s name (Open (body ++ bytes)),
)

-- more bytes of the file of this name, where it is open
abbrev pub write_name : State → List ℕ → List ℕ → StepResult State
write_name s name bytes = given s (written_to (file_at s name)) (codes "not-open") (wrote s name bytes)

-- more bytes of an open file
abbrev pub write_step : State → List ℕ → SegmentComponent → List ℕ → StepResult State
write_step s id component bytes =
    given s (live_at s.catalog id) (codes "unknown-segment")
    (λ segment. write_name s (name_of id segment.deletes component) bytes)

-- the file is sealed, with this body
abbrev pub sealed_as : State → List ℕ → (body : List ℕ) → StepResult State
sealed_as s name body =
    (line (codes "sealed") (name ∷ decimal (length body) ∷ []), with_file s name (SealedFile (sealed body)))

-- the file of this name is sealed, where it is open
abbrev pub seal_name : State → List ℕ → StepResult State
seal_name s name = given s (written_to (file_at s name)) (codes "not-open") (sealed_as s name)

-- an open file is sealed
abbrev pub seal_step : State → List ℕ → SegmentComponent → StepResult State
seal_step s id component =
    given s (live_at s.catalog id) (codes "unknown-segment")
    (λ segment. seal_name s (name_of id segment.deletes component))
