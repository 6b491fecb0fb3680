-- A history that a single caller could have made.
use Rattle.std.specs.Prelude.{◌≡◌, ℕ, List, [], ◌∷◌, Bool, true, false, map}
use Rattle.tv_events.specs.declared.event.Event.{Event}
use Rattle.tv_events.specs.declared.event.Event.TheVariants as events
use Rattle.tv_events.specs.declared.reload_policy.ReloadPolicy.TheVariants as policies
use Rattle.tv_histories.specs.declared.entry.Entry.{Entry}
use Rattle.tv_machine.specs.Machine.{Turn, answers}
use Rattle.tv_machine.specs.State.{State}

-- the events of a history, and its answers
abbrev pub events_in : List Entry → List Event
events_in history = map (λ entry. entry.event) history

-- what was answered to the events of a history
abbrev pub answers_in : List Entry → List (List ℕ)
answers_in history = map (λ entry. entry.answer) history

-- the answers of a history are those of the machine along a run of its events from this state
abbrev pub IsLegal : State → List Turn → List Entry → Type 0
IsLegal s turns history = answers s turns ≡ answers_in history

-- the history's first event makes a reader, which reloads where it is asked to
abbrev pub is_manual_reader : Event → Bool
is_manual_reader (events.Reader policies.Manual) = true
is_manual_reader other = false

-- the first event of a history makes the reader that handles follow
abbrev pub has_reader : List Entry → Bool
has_reader [] = false
has_reader (entry ∷ entries) = is_manual_reader entry.event
