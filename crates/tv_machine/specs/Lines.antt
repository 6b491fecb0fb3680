-- What is told where an event is refused, and where an index opens.
use Rattle.std.specs.Prelude.{ℕ, Bool, List, [], ◌∷◌, length, codes, Option, Some, None, if◌then◌else◌}
use Rattle.std.specs.Fmt.{decimal}
use Rattle.std.specs.List.{list_any}
use Rattle.tv_formats.specs.Commits.{Commit}
use Rattle.tv_machine.specs.State.{State, StepResult}
use Rattle.tv_events.specs.AnswerLines.{line}

-- nothing changes, and these words say why
abbrev pub refuse : {S : Type 0} → S → List (List ℕ) → StepResult S
refuse s words = (line (codes "refused") words, s)

-- Refusals in their order, each a condition and its words: the first that holds is told, else there is this
-- result.
abbrev pub unless : {S : Type 0} → S → List (Bool × List (List ℕ)) → StepResult S → StepResult S
unless s [] result = result
unless s (refusal ∷ refusals) result = if refusal.0 then refuse s refusal.1 else unless s refusals result

-- whether one of some refusals is told
abbrev pub is_refused : List (Bool × List (List ℕ)) → Bool
is_refused refusals = list_any (λ refusal. refusal.0) refusals

-- What has to be there goes into the result; where it isn't, this word says so.
abbrev pub given : {S X : Type 0} → S → Option X → List ℕ → (X → StepResult S) → StepResult S
given s None word result = refuse s (word ∷ [])
given s (Some x) word result = result x

-- a word, where there is one
abbrev pub words_of : Option (List ℕ) → List (List ℕ)
words_of None = []
words_of (Some word) = word ∷ []

-- the first line: the commit's number, and of how many segments it is
abbrev pub opening_of : Commit → List ℕ
opening_of commit = line (codes "open") (decimal commit.opstamp ∷ decimal (length commit.segments) ∷ [])

-- the first line that is told of an index which opens in this state
abbrev pub opening_line : State → List ℕ
opening_line s = opening_of s.catalog.commit
