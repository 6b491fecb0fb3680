-- What a call does that makes one step of the machine, and is yet to tell its line.
use Rattle.std.specs.Prelude.{ℕ, ◌≡◌, ◌<◌, ◌+◌, Bool, List, length, Result, IfOk, IfErr, OnOk, OnErr}
use Rattle.tv_base.specs.declared.error.TantivyError.{TantivyError}
use Rattle.tv_base.specs.declared.error.TantivyError.TheVariants as errors
use Rattle.tv_device.specs.View.{View, Told as ToldParts, GoesOn}
use Rattle.tv_device.specs.declared.directory.Directory.{Ghosts}
use Rattle.tv_machine.specs.Living.{is_busy}
use Rattle.tv_formats.specs.Names.{meta_name}
use Rattle.tv_formats.specs.Files.{Rose}
use Rattle.tv_machine.specs.SoundStates.{IsWhole}
use Rattle.tv_machine.specs.State.{State, StepResult}
use Rattle.tv_events.specs.declared.event.Event.{Event}
use Rattle.tv_store.specs.Kept.{StoreState, AtMost, IsHeld}
use Rattle.tv_catalog.specs.ReaderNumbers.{FewNumbers}
use Rattle.tv_catalog.specs.Effects.{written_by}
use Rattle.tv_store.specs.Applying.{Stepped, ApplyFaults, KeepsLocks, LeavesOldOrNew, MayNoteAt}
use Rattle.tv_store.specs.Stays.{Stays, KeepsDotted}

-- This is the step's answer, and the state after it is held.
pub record IsStep {O W C : Type 0} (g : Ghosts O W C) (new : StoreState O) (did : StepResult State)
    (answer : List ℕ) : Type 0 where
  pub told : answer ≡ did.0
  pub held : IsHeld g new did.1

-- from each state that was held, this step's answer is given, and the state after it is held
abbrev pub StepsTo : {O W C : Type 0} (g : Ghosts O W C) (old new : StoreState O)
    (told : State → StepResult State) (result : Result (List ℕ) TantivyError) → Type 0
StepsTo g old new told result =
    g.told.content → (s : State) → IsHeld g old s → IfOk result (IsStep g new (told s))

-- an error leaves `meta.json` as it was
abbrev pub KeepsMeta : {O W C : Type 0} (g : Ghosts O W C) (old new : StoreState O)
    (result : Result (List ℕ) TantivyError) → Type 0
KeepsMeta g old new result =
    g.told.content
    → OnErr result ((g.view new.outside).reads meta_name ≡ (g.view old.outside).reads meta_name)

-- What each event keeps of the directory: nothing was told, nobody was registered or called, and no lock was
-- taken or freed but that of a reload which waits for its files.
pub record Passes {W : Type 0} (told : ToldParts) (event : Event) (was_busy now_busy : Bool)
    (old new : View W) : Type 0 where
  pub goes_on : GoesOn told old new
  pub heard : new.heard ≡ old.heard
  pub locks : told.locks → KeepsLocks was_busy now_busy old.locks new.locks
  pub watched : MayNoteAt event old.watched new.watched

-- An error leaves the commit before, or, where a call was refused, that of the event; want of memory the one
-- before.
pub record LeavesStep {O W C : Type 0} (g : Ghosts O W C) (old new : StoreState O) (event : Event)
    (result : Result (List ℕ) TantivyError) : Type 0 where
  pub meta : g.told.content → (s : State) → IsHeld g old s → IsWhole s
      → OnErr result (LeavesOldOrNew (Rose (g.view old.outside).faults (g.view new.outside).faults)
      ((g.view old.outside).reads meta_name) ((g.view new.outside).reads meta_name) old.kept.form s event)
  pub memory : g.told.content → IfErr result
      (λ error. error ≡ errors.Memory
      → (g.view new.outside).reads meta_name ≡ (g.view old.outside).reads meta_name)

-- An event's step was made, and there is room for its answer.
pub record Acts {O W C : Type 0} (g : Ghosts O W C) (old new : StoreState O) (event : Event)
    (result : Result (List ℕ) TantivyError) : Type 0 where
  pub step : IfOk result (Stepped g old new event)
  pub room : IfOk result (λ answer. length answer < (g.view new.outside).room)
  pub lens : (bound : ℕ) → AtMost bound old.kept → AtMost (bound + written_by event) new.kept
  pub numbers : (bound : ℕ) → FewNumbers bound old.kept.catalog.reading old.kept.collections
      → OnOk result (FewNumbers (bound + written_by event) new.kept.catalog.reading new.kept.collections)
  pub faults : ApplyFaults g old new event result
  pub leaves : LeavesStep g old new event result
  pub dotted : g.told.content → KeepsDotted (g.view old.outside).reads (g.view new.outside).reads
  pub frame : Stays (Passes g.told event (is_busy old.kept.catalog) (is_busy new.kept.catalog)) g.view old new
