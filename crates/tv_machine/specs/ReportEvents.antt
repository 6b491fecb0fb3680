-- The events that only report.
use Rattle.std.specs.Prelude.{ℕ, Bool, false, not, List, [], ◌∷◌, codes, Option, Some, None, is_some, is_none, filter, find}
use Rattle.std.specs.List.{flat_map}
use Rattle.tv_formats.specs.Names.{has}
use Rattle.tv_formats.specs.Framing.{is_intact}
use Rattle.tv_formats.specs.Segments.{segment_names}
use Rattle.tv_machine.specs.State.{Catalog, State, StepResult, FileState, SealedFile, Open, Left, file_at}
use Rattle.tv_events.specs.AnswerLines.{line}
use Rattle.tv_machine.specs.Lines.{unless, words_of}

-- the managed names
abbrev pub managed_step : Catalog → (managed : List (List ℕ)) → StepResult Catalog
managed_step c managed = (line (codes "managed") managed, c)

-- the managed names among all that the segments of the current commit have, in their order
abbrev pub committed_names : Catalog → (managed : List (List ℕ)) → List (List ℕ)
committed_names c managed = filter (λ name. has (flat_map segment_names c.commit.segments) name) managed

-- whether the checksum of a file is that of its body; nothing where the file isn't sealed or has no footer
abbrev pub intact_at : Option FileState → Option Bool
intact_at None = None
intact_at (Some (SealedFile bytes)) = is_intact bytes
intact_at (Some (Open body)) = None
intact_at (Some Left) = None

-- the first of some files of which that can't be said
abbrev pub first_unreadable : State → List (List ℕ) → Option (List ℕ)
first_unreadable s names = find (λ name. is_none (intact_at (file_at s name))) names

-- whether it is known that a checksum isn't that of its body
abbrev pub is_damaged : Option Bool → Bool
is_damaged None = false
is_damaged (Some intact) = not intact

-- those of some files whose checksum isn't that of their body
abbrev pub damaged_files : State → List (List ℕ) → List (List ℕ)
damaged_files s names = filter (λ name. is_damaged (intact_at (file_at s name))) names

-- the report on the checksums of these files: the damaged ones, or the first of which nothing can be said
abbrev pub validated : State → List (List ℕ) → StepResult State
validated s names =
    unless s ((is_some (first_unreadable s names), codes "unreadable" ∷ words_of (first_unreadable s names))
    ∷ [])
    (line (codes "damaged") (damaged_files s names), s)

-- the event that reports which managed files of the current commit have another checksum than that of their
-- body
abbrev pub validate_step : State → StepResult State
validate_step s = validated s (committed_names s.catalog s.managed)
