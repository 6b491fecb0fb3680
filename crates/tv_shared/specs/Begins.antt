-- How a store begins to be shared.
use Rattle.std.specs.Prelude.{ℕ, ◌≡◌, ◌≤◌, ◌⊎◌, true, List, length}
use Rattle.std.specs.List.{AllByRecursion}
use Rattle.tv_base.specs.declared.error.TantivyError.{TantivyError}
use Rattle.tv_base.specs.declared.error.TantivyError.TheVariants as errors
use Rattle.tv_events.specs.declared.event.Event.{Event}
use Rattle.tv_events.specs.declared.event.Event.TheVariants as events
use Rattle.tv_events.specs.declared.reload_policy.ReloadPolicy.TheVariants as policies
use Rattle.tv_histories.specs.declared.entry.Entry.{Entry}
use Rattle.tv_machine.specs.State.{Snapshot}
use Rattle.tv_publishing.specs.Reading.{Handle}
use Rattle.tv_shared.specs.Logs.{Keeps, log_of}
use Rattle.tv_shared.specs.Names.{Name}
use Rattle.tv_stepping.specs.declared.ending.Ending.TheVariants.{Failed}
use Rattle.tv_stepping.specs.declared.event_store.EventStore.{Ghosts}

-- the first event makes a reader, which reloads where it is asked to
abbrev pub first_event : Event
first_event = events.Reader policies.Manual

-- so many handles, each of which has read nothing yet
abbrev pub AreFresh : ℕ → List Handle → Type 0
AreFresh count handles = (length handles ≡ count) × AllByRecursion (λ handle. handle.read ≡ 0) handles

-- Why a store isn't shared: memory was wanting, or the store was refused something by the first event, for a
-- cause of its own. What always holds under the lock holds of what is left, with at most one entry.
pub record IsNotShared {S : Type 0} (g : Ghosts S) (n : Name) (old now : S) (error : TantivyError)
    : Type 0 where
  pub cause : (error ≡ errors.Memory)
      ⊎ ((g.stands now ≡ Failed) × g.refused old now first_event error)
  pub history : List Entry
  pub few : length history ≤ 1
  pub published : List Snapshot
  pub keeps : Keeps g n (log_of now history published true)
