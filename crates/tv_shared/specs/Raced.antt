-- What a race leaves.
use Rattle.std.specs.Prelude.{◌≡◌, ◌⊎◌, List, Result, Ok, Err}
use Rattle.tv_base.specs.declared.error.TantivyError.{TantivyError}
use Rattle.tv_base.specs.declared.error.TantivyError.TheVariants as errors
use Rattle.tv_events.specs.declared.event.Event.{Event}
use Rattle.tv_histories.specs.declared.entry.Entry.{Entry}
use Rattle.tv_histories.specs.declared.shared_error.SharedError.{SharedError}
use Rattle.tv_histories.specs.declared.shared_error.SharedError.TheVariants as shared
use Rattle.tv_histories.specs.Races.{IsOfStore, IsRace, IsUneven}
use Rattle.tv_histories.specs.Receipts.{IsCompared, Stands}
use Rattle.tv_machine.specs.State.{Snapshot}
use Rattle.tv_shared.specs.Begins.{IsNotShared}
use Rattle.tv_shared.specs.Closing.{HasClosed}
use Rattle.tv_shared.specs.Names.{Name}
use Rattle.tv_stepping.specs.declared.ending.Ending.{Ending}
use Rattle.tv_stepping.specs.declared.ending.Ending.TheVariants.{Failed, Open}
use Rattle.tv_stepping.specs.declared.event_store.EventStore.{Ghosts}

-- The history of the closed store, which is still open, is an event that makes a reader and then an
-- interleaving of the scripts; and it is a run of the machine, whose last state the store holds.
pub record IsRaced {S : Type 0} (g : Ghosts S) (n : Name) (store : S) (scripts : List (List Event))
    : Type 0 where
  pub history : List Entry
  pub published : List Snapshot
  pub closed : HasClosed g n store history published
  pub race : IsRace scripts history
  pub opened : g.stands store ≡ Open

-- The error compares what the callers have with the history: a receipt that isn't the entry at its place, and
-- the entry; or the numbers of the events of the scripts and of the entries after the first, which differ.
abbrev pub Compares : List (List Event) → List Entry → SharedError → Type 0
Compares scripts history (shared.Differs receipt kept) =
    (Stands history receipt → ⊥) × IsCompared history receipt kept
Compares scripts history other = IsUneven scripts history other

-- An error is want of memory, or compares what the callers have with the history, or is one of the store's and
-- the store says that it failed.
abbrev pub MayFail : Ending → List (List Event) → List Entry → SharedError → Type 0
MayFail ending scripts history error =
    (error ≡ shared.Store errors.Memory)
    ⊎ (Compares scripts history error ⊎ ((ending ≡ Failed) × IsOfStore error))

-- A race that began failed: what is left is the closed store, with this history, and why.
pub record HasFailed {S : Type 0} (g : Ghosts S) (n : Name) (store : S) (scripts : List (List Event))
    (error : SharedError) : Type 0 where
  pub history : List Entry
  pub published : List Snapshot
  pub closed : HasClosed g n store history published
  pub cause : MayFail (g.stands store) scripts history error

-- a race didn't begin: the store wasn't shared
abbrev pub HasNotBegun : {S : Type 0} → Ghosts S → Name → (old now : S) → SharedError → Type 0
HasNotBegun g n old now error =
    (why : TantivyError) × (error ≡ shared.Store why) × IsNotShared g n old now why

-- Why no race was found in a history that closing gave: memory was wanting, closing gave this error, or the
-- callers have another number of events than there are entries.
abbrev pub FailsToSettle : {X : Type 0} → (items : X → List Entry) → List (List Event)
    → Result X SharedError → SharedError → Type 0
FailsToSettle items scripts outcome error =
    (error ≡ shared.Store errors.Memory)
    ⊎ ((outcome ≡ Err error) ⊎ ((h : _) × (outcome ≡ Ok h) × IsUneven scripts (items h) error))
