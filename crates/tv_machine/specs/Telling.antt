-- What the lines of a run tell of its outcomes.
use Rattle.std.specs.Prelude.{ℕ, ◌≡◌, Bool, List}
use Rattle.std.specs.List.{list_all, AllByRecursion}
use Rattle.tv_formats.specs.Names.{is_plain}
use Rattle.tv_formats.specs.Collections.{Collection, done_of, failed_of}
use Rattle.tv_machine.specs.State.{State}
use Rattle.tv_machine.specs.CollectionEvents.{collected_line, having_deleted}
use Rattle.tv_machine.specs.Machine.{Turn, after, report, events_of}
use Rattle.tv_events.specs.Script.{Fits}

-- all these names are plain
abbrev pub are_plain : List (List ℕ) → Bool
are_plain names = list_all is_plain names

-- the line of a collection tells which of these names were done and which failed
abbrev pub Tells : List (List ℕ) → Type 0
Tells names = (a b : List Bool)
    → collected_line (done_of names a) (failed_of names a)
    ≡ collected_line (done_of names b) (failed_of names b)
    → (done_of names a ≡ done_of names b) × (failed_of names a ≡ failed_of names b)

-- the line of a step of a collection tells whether the name that it tried was done
abbrev pub TellsStep : State → Collection → Type 0
TellsStep s c = (number : ℕ) (name : List ℕ) (left : List (List ℕ)) (a b : Bool)
    → (having_deleted s number c name left a).0 ≡ (having_deleted s number c name left b).0 → a ≡ b

-- the lines of a run from this state, and its events, determine the state that it comes to
abbrev pub Determined : State → Type 0
Determined s = (a b : List Turn) → AllByRecursion Fits (events_of a) → events_of a ≡ events_of b
    → report s a ≡ report s b → after s a ≡ after s b
