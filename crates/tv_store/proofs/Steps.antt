-- What the steps of the events say, put together.
use Rattle.std.proofs.Common.{ℕ, ◌≡◌, ◌+◌, ◌≤◌, Bool, inl, List, [], ◌∷◌, length, Option, sym, ap, subst, ◌∙◌, arith, Result, Ok, Err, IfErr}
use Rattle.std.specs.Prelude.{IfOk, OnErr}
use Rattle.std.specs.List.{AllByRecursion}
use Rattle.tv_events.specs.declared.event.Event.{Event}
use Rattle.tv_events.specs.declared.event.Event.TheVariants as events
use Rattle.tv_base.specs.declared.error.TantivyError.{TantivyError}
use Rattle.tv_base.specs.declared.error.TantivyError.TheVariants as errors
use Rattle.tv_catalog.specs.Kept.{KeptState}
use Rattle.tv_store.specs.Kept.{StoreState, Holds, AtMost}
use Rattle.tv_store.specs.Applying.{Stepped, StepsHeld, LeavesAlone, LeavesOldOrNew, MayNoteAt, SavesAt}
use Rattle.tv_catalog.specs.Effects.{WritesByStep}
use Rattle.tv_store.specs.ReadCauses.{LoadingCause, IsReadError, ReadFacts}
use Rattle.tv_formats.specs.Commits.{IndexForm}
use Rattle.tv_machine.specs.State.{State, StepResult}
use Rattle.tv_machine.specs.Machine.{step}
use Rattle.tv_machine.specs.Readable.{ReadsGood}
use Rattle.tv_device.specs.View.{View}
use Rattle.tv_device.specs.Watch.{WatchState}
use Rattle.tv_device.specs.declared.directory.Directory.{Ghosts}
use Rattle.tv_store.specs.Acting.{IsStep}
use Rattle.tv_store.specs.StoreCauses.{EventCause, LockingCause}

-- ---- what an event did, by what its method says

-- a cause of an event that reads no commit's files
plain_cause : (facts : ReadFacts) (spent : Type 0) (load : TantivyError → Type 0) (error : TantivyError) → EventCause facts.refused facts.quiet spent error → (spent → facts.spent) → LoadingCause facts load error
plain_cause facts spent load (errors.IoError fault) h f = h
plain_cause facts spent load (errors.OpenWriteError error) h f = h
plain_cause facts spent load errors.Exhausted h f = (h.0, f h.1)
plain_cause facts spent load errors.Memory h f = h
plain_cause facts spent load other h f = absurd h

pub cause_in : (A : Type 0) (facts : ReadFacts) (spent : Type 0) (load : TantivyError → Type 0) (result : Result A TantivyError) → IfErr result (EventCause facts.refused facts.quiet spent) → (spent → facts.spent) → IfErr result (LoadingCause facts load)
cause_in A facts spent load (Ok answer) h f = h
cause_in A facts spent load (Err error) h f = plain_cause facts spent load error h f

-- such an event reads no file
pub reads_none : (A refused quiet spent P : Type 0) (result : Result A TantivyError) → IfErr result (EventCause refused quiet spent) → IfErr result (λ error. IsReadError error → P)
reads_none A refused quiet spent P (Ok answer) h = tt
reads_none A refused quiet spent P (Err error) h = never error h where
  never : (e : TantivyError) → EventCause refused quiet spent e → IsReadError e → P
  never (errors.OpenReadError e) h r = absurd h
  never (errors.DataCorruption why) h r = absurd h
  never (errors.SchemaError text) h r = absurd h
  never other h r = absurd r

-- nor does one that takes a lock alone
pub locks_none : (A busy refused quiet spent P : Type 0) (result : Result A TantivyError) → IfErr result (LockingCause busy refused quiet spent) → IfErr result (λ error. IsReadError error → P)
locks_none A busy refused quiet spent P (Ok answer) h = tt
locks_none A busy refused quiet spent P (Err error) h = never error h where
  never : (e : TantivyError) → LockingCause busy refused quiet spent e → IsReadError e → P
  never (errors.OpenReadError e) h r = absurd h
  never (errors.DataCorruption why) h r = absurd h
  never (errors.SchemaError text) h r = absurd h
  never other h r = absurd r

-- and of one that takes a lock
pub locking_cause : (facts : ReadFacts) (spent : Type 0) (load : TantivyError → Type 0) (error : TantivyError) → LockingCause facts.busy facts.refused facts.quiet spent error → (spent → facts.spent) → LoadingCause facts load error
locking_cause facts spent load (errors.IoError fault) h f = h
locking_cause facts spent load (errors.OpenWriteError error) h f = h
locking_cause facts spent load (errors.LockFailure why text) h f = h
locking_cause facts spent load errors.Exhausted h f = (h.0, f h.1)
locking_cause facts spent load errors.Memory h f = h
locking_cause facts spent load other h f = absurd h

-- ---- an event that doesn't commit

-- it is another one
abbrev pub IsNoCommit : Event → Type 0
IsNoCommit (events.Commit payload ids) = ⊥
IsNoCommit other = Unit {0}

-- it notes nothing
pub notes_none : (event : Event) → IsNoCommit event → (old new : WatchState) → new ≡ old → MayNoteAt event old new
notes_none (events.Commit payload ids) none old new same = absurd none
notes_none other none old new same = same

-- and of what it saves nothing is said
saves_none : {W : Type 0} (event : Event) → IsNoCommit event → (form : IndexForm) (old new : View W) (before after : State) → SavesAt event form old new before after
saves_none (events.Commit payload ids) none form old new before after = absurd none
saves_none other none form old new before after = tt

-- ---- the steps

module _ {O W C : Type 0} (g : Ghosts O W C) (old new : StoreState O) (event : Event) (none : IsNoCommit event) where
  abbrev saves : (before after : State) → SavesAt event old.kept.form (g.view old.outside) (g.view new.outside) before after
  saves before after = saves_none event none old.kept.form (g.view old.outside) (g.view new.outside) before after

  abbrev Alone : Type 0
  Alone = LeavesAlone (g.view old.outside) (g.view new.outside)

  -- from a state, by a step that is told in other words
  held_as : (outcomes : List Bool) (answer : List ℕ) (s : State) (did : StepResult State) → step s event outcomes ≡ did → IsStep g new did answer → ReadsGood s event
      → (WritesByStep old.kept event → did.1 ≡ s → Alone) → StepsHeld g old new s (event, outcomes) answer
  held_as outcomes answer s did is k good alone = record {
    told = k.told ∙ ap (λ (x : StepResult State). x.0) (sym is);
    held = subst (λ (x : StepResult State). Holds (g.view new.outside).reads new.kept x.1) (sym is) k.held;
    readable = good;
    unchanged = λ by_step same. alone by_step (sym (ap (λ (x : StepResult State). x.1) is) ∙ same);
    saves = saves s (step s event outcomes).1;
  }

  -- an event that writes nothing and reads no commit's files
  pub stepped : {E : Type 0} (told : State → StepResult State) (result : Result (List ℕ) E)
      → (g.view new.outside).refusals ≡ (g.view old.outside).refusals → ((s : State) → step s event [] ≡ told s) → ((s : State) → ReadsGood s event)
      → (g.told.content → Alone)
      → (g.told.content → (s : State) → Holds (g.view old.outside).reads old.kept s → IfOk result (IsStep g new (told s)))
      → IfOk result (Stepped g old new event)
  stepped told (Ok answer) quiet is good alone h = record {
    outcomes = [];
    refused = inl (omega (arith, quiet));
    each = λ t s held whole. held_as [] answer s (told s) (is s) (h t s held) (good s) (λ by_step same. alone t);
  }
  stepped told (Err error) quiet is good alone h = tt

pub longer : (es : List (List ℕ × List ℕ)) (small large : ℕ) → small ≤ large → AllByRecursion (λ e. length e.1 ≤ small) es → AllByRecursion (λ e. length e.1 ≤ large) es
longer [] small large le h = tt
longer (e ∷ es) small large le h = (omega (arith, le, h.0), longer es small large le h.1)

-- what is at most a bound is at most a larger one
pub at_most : (bound n : ℕ) (kept : KeptState) → AtMost bound kept → AtMost (bound + n) kept
at_most bound n kept h = longer kept.open_files bound (bound + n) (omega arith) h

-- ---- what an error leaves of the commit

-- `meta.json` reads what it read before
pub leaves_old : {A : Type 0} (result : Result A TantivyError) (refused : Type 0) (before now : Option (List ℕ)) (form : IndexForm) (s : State) (event : Event) → OnErr result (now ≡ before) → OnErr result (LeavesOldOrNew refused before now form s event)
leaves_old (Ok answer) refused before now form s event h = h
leaves_old (Err error) refused before now form s event h = ([], inl h)

pub old_at_memory : {A : Type 0} (result : Result A TantivyError) (before now : Option (List ℕ)) → OnErr result (now ≡ before) → IfErr result (λ error. error ≡ errors.Memory → now ≡ before)
old_at_memory (Ok answer) before now h = h
old_at_memory (Err error) before now h = λ is. h
