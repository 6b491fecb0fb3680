-- What one event does to what stands under the lock.
use Rattle.std.specs.Prelude.{ℕ, ◌≡◌, ◌⊎◌, ◌↔◌, true, false, List, [], ◌∷◌, ◌++◌, length, Result, Ok, Err, OnOk, OnErr}
use Rattle.tv_base.specs.declared.error.TantivyError.{TantivyError}
use Rattle.tv_base.specs.declared.error.TantivyError.TheVariants as errors
use Rattle.tv_events.specs.declared.event.Event.{Event}
use Rattle.tv_histories.specs.declared.entry.Receipt.{Receipt}
use Rattle.tv_histories.specs.declared.shared_error.SharedError.{SharedError}
use Rattle.tv_histories.specs.declared.shared_error.SharedError.TheVariants as shared
use Rattle.tv_histories.specs.Receipts.{entry}
use Rattle.tv_histories.specs.Shown.{published_by}
use Rattle.tv_machine.specs.State.{Snapshot, State}
use Rattle.tv_publishing.specs.Lists.{IsPrefix}
use Rattle.tv_shared.specs.Logs.{Log}
use Rattle.tv_stepping.specs.Steps.{Counts, HearsLine, HearsNoLine, Steps}
use Rattle.tv_stepping.specs.declared.ending.Ending.TheVariants.{Open, Memory}
use Rattle.tv_stepping.specs.declared.event_store.EventStore.{Ghosts}

-- what the answer publishes was published, behind all that was published before
pub record IsPublished {S : Type 0} (g : Ghosts S) (store : S) (answer : List ℕ) (old new : List Snapshot)
    : Type 0 where
  pub grows : IsPrefix old new
  pub told : g.told → (s : State) → g.holds store s → new ≡ old ++ published_by answer s

-- so it was, or after an error nothing was published
pub record PublishesAnswer {S A E : Type 0} (g : Ghosts S) (store : S) (answer : List ℕ)
    (old new : List Snapshot) (result : Result A E) : Type 0 where
  pub ok : OnOk result (IsPublished g store answer old new)
  pub err : OnErr result (new ≡ old)

-- how often calls were refused with an event that had this result
abbrev pub CountsIn : {S : Type 0} → Ghosts S → (old new : S) → Event → Result (List ℕ) TantivyError
    → Type 0
CountsIn g old new event result = Counts g.since g.faults g.sound g.spent old new event result

-- The store made one step, whose line was told; the history has one entry more.
pub record IsEntered {S : Type 0} (g : Ghosts S) (old new : Log S) (event : Event) (answer : List ℕ)
    : Type 0 where
  pub step : Steps g.told g.holds old.store new.store event answer
  pub stands : g.stands new.store ≡ Open
  pub hears : g.tells → HearsLine (g.heard old.store) (g.heard new.store) answer
  pub counts : CountsIn g old.store new.store event (Ok answer)
  pub history : new.history ≡ old.history ++ entry event answer ∷ []

-- One event was applied and entered with its answer, what it tells of was published, and the receipt has its
-- place.
pub record Advances {S : Type 0} (g : Ghosts S) (old new : Log S) (event : Event) (receipt : Receipt)
    : Type 0 where
  pub was_open : old.has_ended ≡ false
  pub is_open : new.has_ended ≡ false
  pub place : receipt.place ≡ length old.history
  pub same : receipt.event ≡ event
  pub entered : IsEntered g old new event receipt.answer
  pub published : IsPublished g new.store receipt.answer old.published new.published

-- nothing changed
pub record StaysAs {S : Type 0} (old new : Log S) : Type 0 where
  pub store : new.store ≡ old.store
  pub history : new.history ≡ old.history
  pub published : new.published ≡ old.published

-- The store was refused something, for a cause of its own, and is open no more; it says whether that was want of
-- memory. No whole line was told, and nothing was entered or published.
pub record IsUnanswered {S : Type 0} (g : Ghosts S) (old new : Log S) (event : Event) (error : TantivyError)
    : Type 0 where
  pub stands : g.stands new.store ≡ Open → ⊥
  pub memory : (g.stands new.store ≡ Memory) ↔ (error ≡ errors.Memory)
  pub cause : g.refused old.store new.store event error
  pub counts : CountsIn g old.store new.store event (Err error)
  pub hears : g.tells → HearsNoLine (g.heard old.store) (g.heard new.store)
  pub history : new.history ≡ old.history
  pub published : new.published ≡ old.published

-- The event was applied and entered, its line was told, and memory was wanting afterwards: nothing was
-- published, or what its answer tells of.
pub record IsUnpublished {S : Type 0} (g : Ghosts S) (old new : Log S) (event : Event) : Type 0 where
  pub answer : List ℕ
  pub entered : IsEntered g old new event answer
  pub published : (new.published ≡ old.published)
      ⊎ IsPublished g new.store answer old.published new.published

-- An event failed with this error: memory was wanting and nothing changed, or the store was refused something,
-- or memory was wanting after the line was told. Then the event is in the history.
abbrev pub Stops : {S : Type 0} → Ghosts S → (old new : Log S) → Event → TantivyError → Type 0
Stops g old new event error =
    (StaysAs old new × (error ≡ errors.Memory)) ⊎ (IsUnanswered g old new event error
    ⊎ (IsUnpublished g old new event × (error ≡ errors.Memory)))

-- Why an event wasn't applied, or has no receipt: an earlier one failed, and nothing changed; or it is the
-- first that fails.
abbrev pub IsNotApplied : {S : Type 0} → Ghosts S → (old new : Log S) → Event → SharedError → Type 0
IsNotApplied g old new event (shared.Store error) =
    (old.has_ended ≡ false) × (new.has_ended ≡ true) × Stops g old new event error
IsNotApplied g old new event (shared.Ended n) =
    (old.has_ended ≡ true) × (n ≡ length old.history) × (new ≡ old)
IsNotApplied g old new event other = ⊥
