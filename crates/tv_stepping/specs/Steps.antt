-- One step of a store.
use Rattle.std.specs.Prelude.{ℕ, ◌≡◌, ◌⊎◌, ◌↔◌, Bool, true, List, [], ◌∷◌, ◌++◌, Result, IfErr, IfOk, OnErr, OnOk}
use Rattle.tv_base.specs.declared.error.TantivyError.{TantivyError}
use Rattle.tv_base.specs.declared.error.TantivyError.TheVariants as errors
use Rattle.tv_events.specs.declared.event.Event.{Event}
use Rattle.tv_formats.specs.Files.{Heard, Rose, has_no_feed}
use Rattle.tv_machine.specs.Machine.{step}
use Rattle.tv_machine.specs.State.{State}
use Rattle.tv_stepping.specs.declared.ending.Ending.{Ending}
use Rattle.tv_stepping.specs.declared.ending.Ending.TheVariants as ending

-- One event was applied, with some outcomes of its deletes: each state that was held has made its step, whose
-- answer this is.
pub record Steps {S : Type 0} (told : Type 0) (holds : S → State → Type 0) (old new : S) (event : Event)
    (answer : List ℕ) : Type 0 where
  pub outcomes : List Bool
  pub each : told → (s : State) → holds old s
      → (answer ≡ (step s event outcomes).0) × holds new (step s event outcomes).1

-- a line was told, at some moment
abbrev pub HearsLine : Heard → Heard → List ℕ → Type 0
HearsLine before now line = (moment : ℕ) × (now ≡ before ++ (moment, line ++ 10 ∷ []) ∷ [])

-- this is no whole line: nothing, or a piece without a line feed
abbrev pub IsNoLine : Heard → Type 0
IsNoLine pieces =
    (pieces ≡ []) ⊎ ((moment : ℕ) × (part : List ℕ) × (has_no_feed part ≡ true)
    × (pieces ≡ (moment, part) ∷ []))

-- no whole line was told
abbrev pub HearsNoLine : Heard → Heard → Type 0
HearsNoLine before now = (rest : Heard) × (now ≡ before ++ rest) × IsNoLine rest

-- The answer was told; after an error no whole line was.
pub record TellsAnswer {E : Type 0} (before now : Heard) (result : Result (List ℕ) E) : Type 0 where
  pub ok : IfOk result (HearsLine before now)
  pub err : OnErr result (HearsNoLine before now)

-- How a store stands after an event: open at Ok, and not after an error; and it says whether that was want of
-- memory.
pub record StandsAfter {A : Type 0} (stands : Ending) (result : Result A TantivyError) : Type 0 where
  pub ok : OnOk result (stands ≡ ending.Open)
  pub err : OnErr result (stands ≡ ending.Open → ⊥)
  pub memory : IfErr result (λ error. (stands ≡ ending.Memory) ↔ (error ≡ errors.Memory))

-- How often the outside refused a call: the count at the opening stays, and an event that is applied leaves that
-- of now as it was. A store that came from a sound start still does. Of such a store an error is want of memory, or
-- the count rose, or with this event a number would be spent.
pub record Counts {S : Type 0} (since faults : S → ℕ) (sound : S → Type 0) (spent : S → Event → Type 0)
    (old new : S) (event : Event) (result : Result (List ℕ) TantivyError) : Type 0 where
  pub opened : since new ≡ since old
  pub quiet : OnOk result (faults new ≡ faults old)
  pub stays : sound old → sound new
  pub err : IfErr result (λ error. sound old → (error ≡ errors.Memory)
      ⊎ (Rose (faults old) (faults new) ⊎ ((error ≡ errors.Exhausted) × spent old event)))
