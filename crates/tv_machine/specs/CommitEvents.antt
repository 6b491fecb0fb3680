-- The event that commits.
use Rattle.std.specs.Prelude.{ℕ, ◌+◌, List, [], ◌∷◌, length, codes, Option, Some, None, Bool, true, false, not, ◌&&◌, is_some, is_none, option_map, nat_lt, find, ◌==◌}
use Rattle.std.specs.List.{filter}
use Rattle.std.specs.Fmt.{decimal}
use Rattle.hex.specs.Hex.{encode_lower}
use Rattle.tv_formats.specs.declared.segment.LiveSegment.{LiveSegment}
use Rattle.tv_formats.specs.Names.{has}
use Rattle.tv_formats.specs.Segments.{num_docs, all_required}
use Rattle.tv_machine.specs.State.{Catalog, State, StepResult, FileState, SealedFile, Open, Left, live_at, file_at, on_catalog}
use Rattle.tv_events.specs.AnswerLines.{line}
use Rattle.tv_machine.specs.Lines.{unless, words_of}
use Rattle.tv_machine.specs.ReloadEvents.{with_notices}

-- the end of 64 bits, which no commit and no delete gets
abbrev pub last_stamp : ℕ
last_stamp = 18446744073709551615

-- the live segments that are named and have living documents (live segments stand in id order)
abbrev pub chosen : Catalog → List (List ℕ) → List (List ℕ × LiveSegment)
chosen c ids = filter (λ e. has ids e.0 && nat_lt 0 (num_docs e.1)) c.live

-- whether a file is sealed
abbrev pub is_sealed : Option FileState → Bool
is_sealed None = false
is_sealed (Some (Open body)) = false
is_sealed (Some Left) = false
is_sealed (Some (SealedFile bytes)) = true

-- the first required file that isn't sealed
abbrev pub first_unsealed : State → List (List ℕ × LiveSegment) → Option (List ℕ)
first_unsealed s segments = find (λ name. not (is_sealed (file_at s name))) (all_required segments)

-- the first id that isn't live
abbrev pub first_unknown : Catalog → List (List ℕ) → Option (List ℕ)
first_unknown c ids = find (λ id. is_none (live_at c id)) ids

-- these segments are the current commit, which has the next number, and each reader that follows commits gets
-- a notice
abbrev pub committed : Catalog → Option (List ℕ) → List (List ℕ × LiveSegment) → StepResult Catalog
committed c payload segments = (
  line (codes "commit") (decimal c.next ∷ decimal (length segments) ∷ []),
  record c {
    next = c.next + 1;
    commit = record { opstamp = c.next; payload = payload; segments = segments };
    reading = with_notices c.reading;
  },
)

-- the named segments become the current commit
abbrev pub commit_step : State → Option (List ℕ) → List (List ℕ) → StepResult State
commit_step s payload ids =
    unless s (
    (s.catalog.next == last_stamp, codes "stamps-spent" ∷ [])
    ∷ (
      is_some (first_unknown s.catalog ids),
      codes "unknown-segment" ∷ words_of (option_map encode_lower (first_unknown s.catalog ids)),
    )
    ∷ (
      is_some (first_unsealed s (chosen s.catalog ids)),
      codes "unsealed" ∷ words_of (first_unsealed s (chosen s.catalog ids)),
    )
    ∷ []
    )
    (on_catalog s (committed s.catalog payload (chosen s.catalog ids)))
