-- What a history publishes.
use Rattle.std.specs.Prelude.{◌==◌, ℕ, Bool, ◌||◌, List, [], ◌∷◌, ◌++◌, codes, Option, Some, None, option_map, if◌then◌else◌}
use Rattle.std.specs.List.{starts_with}
use Rattle.tv_machine.specs.Machine.{Turn, step}
use Rattle.tv_machine.specs.State.{State, Snapshot, reader_at}

-- whether a line begins with this text
abbrev pub begins : List ℕ → List ℕ → Bool
begins line text = starts_with (λ a b. a == b) line text

-- whether an answer tells that the first reader shows something else: it was made or reloaded, or a notice to
-- it was served
unfoldable pub publishes : List ℕ → Bool
publishes answer =
    begins answer (codes "reader 0 ") || (begins answer (codes "published 0 ")
    || begins answer (codes "delivered 0"))

-- what the first reader shows, where there is one
abbrev pub shown_first : State → Option Snapshot
shown_first s = option_map (λ reader. reader.shown) (reader_at s.catalog 0)

-- one thing as a list, or nothing as the empty one
abbrev pub as_list : {A : Type 0} → Option A → List A
as_list None = []
as_list (Some x) = x ∷ []

-- what an answer publishes, where this is the state after it
abbrev pub published_by : List ℕ → State → List Snapshot
published_by answer s = if publishes answer then as_list (shown_first s) else []

-- what a run publishes: for each answer that tells of it, the snapshot that the first reader shows after it
abbrev pub shown : State → List Turn → List Snapshot
shown s [] = []
shown s (turn ∷ turns) =
    published_by (step s turn.0 turn.1).0 (step s turn.0 turn.1).1 ++ shown (step s turn.0 turn.1).1 turns
