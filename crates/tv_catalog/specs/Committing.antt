-- The next commit and its text, and what is answered to it.
use Rattle.std.specs.Prelude.{ℕ, ◌≡◌, ◌<◌, ◌^◌, ◌++◌, [], ◌∷◌, List, length, codes, Option, is_some}
use Rattle.std.specs.Fmt.{decimal}
use Rattle.hex.specs.Hex.{encode_lower}
use Rattle.tv_formats.specs.declared.segment.LiveSegment.{LiveSegment}
use Rattle.tv_events.specs.AnswerLines.{line}
use Rattle.tv_machine.specs.Lines.{unless, words_of}
use Rattle.tv_machine.specs.CommitEvents.{committed, first_unsealed}
use Rattle.tv_formats.specs.Commits.{Commit, IsCommit, printed}
use Rattle.tv_machine.specs.State.{State, StepResult, on_catalog}
use Rattle.tv_catalog.specs.Kept.{KeptState}

-- a commit gets the number that comes next, and this is its text
pub record PrintsNext (kept : KeptState) (commit : Commit) (text : List ℕ) : Type 0 where
  pub opstamp : commit.opstamp ≡ kept.catalog.next
  pub sound : IsCommit commit
  pub blocksize : kept.form.settings.blocksize < 2 ^ 64
  pub text_is : text ≡ printed kept.form.settings kept.form.schema commit ++ 10 ∷ []

-- what is answered to a commit with this number, of these segments
abbrev pub commit_line : ℕ → List (List ℕ × LiveSegment) → List ℕ
commit_line opstamp segments = line (codes "commit") (decimal opstamp ∷ decimal (length segments) ∷ [])

-- or to one of an id that isn't live
abbrev pub unknown_line : List ℕ → List ℕ
unknown_line id = line (codes "refused") (codes "unknown-segment" ∷ encode_lower id ∷ [])

-- these segments are committed, where the files are sealed that they require
abbrev pub commit_sealed : State → Option (List ℕ) → List (List ℕ × LiveSegment) → StepResult State
commit_sealed s payload segments =
    unless s ((is_some (first_unsealed s segments), codes "unsealed" ∷ words_of (first_unsealed s segments))
    ∷ [])
    (on_catalog s (committed s.catalog payload segments))
