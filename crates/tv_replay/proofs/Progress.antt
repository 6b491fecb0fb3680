-- How far the reading of a script has come, and one more event at the end of a run.
use Rattle.std.proofs.Common.{◌≡◌, ℕ, suc, ◌+◌, List, [], ◌∷◌, ◌++◌, length, Option, Some, refl, sym, ap, subst, ◌∙◌, arith, append_assoc}
use Rattle.std.proofs.lemmas.List.{append-nil, map-append}
use Rattle.tv_events.specs.declared.event.Event.{Event}
use Rattle.tv_machine.specs.State.{State}
use Rattle.tv_machine.specs.Machine.{Turn, step, answers, after, events_of, refused_in, all_refused}
use Rattle.tv_machine.specs.Readable.{ReadsGood, AllReadGood}
use Rattle.tv_events.specs.Script.{lines_of, IsLine, AreLines}
use Rattle.tv_script.specs.ScriptLines.{pending, TakesEvent, TakesNextEvent}
use Rattle.tv_replay.specs.Replays.{BeginsWith}
use Rattle.tv_script.proofs.LineLemmas.{pending_is}

-- ---- one more event at the end

pub after-last : (s : State) (turns : List Turn) (t : Turn) → after s (turns ++ t ∷ []) ≡ (step (after s turns) t.0 t.1).1
after-last s [] t = refl
after-last s (first ∷ turns) t = after-last (step s first.0 first.1).1 turns t

pub answers-last : (s : State) (turns : List Turn) (t : Turn) → answers s (turns ++ t ∷ []) ≡ answers s turns ++ (step (after s turns) t.0 t.1).0 ∷ []
answers-last s [] t = refl
answers-last s (first ∷ turns) t = ap (λ (ls : List (List ℕ)). (step s first.0 first.1).0 ∷ ls) (answers-last (step s first.0 first.1).1 turns t)

pub events-last : (turns : List Turn) (t : Turn) → events_of (turns ++ t ∷ []) ≡ events_of turns ++ t.0 ∷ []
events-last turns t = map-append (λ (turn : Turn). turn.0) turns (t ∷ [])

pub readable-last : (s : State) (turns : List Turn) (t : Turn) → AllReadGood s turns → ReadsGood (after s turns) t.0 → AllReadGood s (turns ++ t ∷ [])
readable-last s [] t all good = (good, tt)
readable-last s (first ∷ turns) t all good = (all.0, readable-last (step s first.0 first.1).1 turns t all.1 good)

pub refused-last : (turns : List Turn) (t : Turn) → all_refused (turns ++ t ∷ []) ≡ all_refused turns + refused_in t.1
refused-last [] t = omega arith
refused-last (first ∷ turns) t = omega (arith, refused-last turns t)

pub AreLines-last : (texts : List (List ℕ)) (events : List Event) (text : List ℕ) (e : Event) → AreLines texts events → IsLine text e → AreLines (texts ++ text ∷ []) (events ++ e ∷ [])
AreLines-last [] [] text e h l = (l, tt)
AreLines-last (t ∷ texts) (f ∷ events) text e h l = (h.0, AreLines-last texts events text e h.1 l)
AreLines-last texts events text e h l = absurd h

pub AreLines-length : (texts : List (List ℕ)) (events : List Event) → AreLines texts events → length texts ≡ length events
AreLines-length [] [] h = refl
AreLines-length (t ∷ texts) (f ∷ events) h = ap suc (AreLines-length texts events h.1)
AreLines-length texts events h = absurd h

-- ---- the lines that were read

-- the first lines of a script are these events' lines, and this is left after them
pub record ReadSoFar (script : List ℕ) (left : Option (List ℕ)) (events : List Event) : Type 0 where
  pub begun : BeginsWith script events
  pub left_is : left ≡ Some begun.rest

-- the same of the events of some turns, where the script is told
abbrev pub HasRead : (script left : Option (List ℕ)) (turns : List Turn) → Type 0
HasRead script left turns = (whole : List ℕ) → script ≡ Some whole → ReadSoFar whole left (events_of turns)

pub nothing_read : (script held : List ℕ) (left : Option (List ℕ)) → held ≡ [] → left ≡ Some script → ReadSoFar script (pending held left) []
nothing_read script held left none is =
    record { begun = record { texts = []; rest = script; each = tt; split = refl }; left_is = pending_is held script left is ∙ ap (λ (xs : List ℕ). Some (xs ++ script)) none }

pub one_more_read : (script : List ℕ) (left later : Option (List ℕ)) (events : List Event) (r : ReadSoFar script left events) (e : Event) → TakesEvent r.begun.rest (Some e) later → ReadSoFar script later (events ++ e ∷ [])
one_more_read script left later events r e t =
    let b = r.begun in
    record {
      begun = record {
        texts = b.texts ++ t.0 ∷ [];
        rest = t.1;
        each = AreLines-last b.texts events t.0 e b.each t.4;
        split = b.split ∙ ap (λ (ls : List (List ℕ)). b.texts ++ ls) t.3 ∙ sym (append_assoc b.texts (t.0 ∷ []) (lines_of t.1));
      };
      left_is = t.2;
    }

-- so the script begins with the line of the event that comes next
pub begins_next : (script left later : Option (List ℕ)) (turns : List Turn) (event : Event) → HasRead script left turns → TakesNextEvent left (Some event) later
    → (whole : List ℕ) → script ≡ Some whole → BeginsWith whole (events_of turns ++ event ∷ [])
begins_next script left later turns event read takes whole told =
    let r = read whole told in
    (one_more_read whole left later (events_of turns) r event (takes r.begun.rest r.left_is)).begun

-- where nothing is left, the lines are all lines
pub all_read : (script : List ℕ) (events : List Event) (b : BeginsWith script events) → b.rest ≡ [] → AreLines (lines_of script) events
all_read script events b none =
    let whole : b.texts ≡ lines_of script = sym (b.split ∙ ap (λ (xs : List ℕ). b.texts ++ lines_of xs) none ∙ append-nil b.texts) in
    subst (λ (ls : List (List ℕ)). AreLines ls events) whole b.each
