-- What stands under the lock, and what always holds of it.
use Rattle.std.specs.Prelude.{◌≡◌, Bool, false, List, [], ◌∷◌}
use Rattle.tv_histories.specs.declared.entry.Entry.{Entry}
use Rattle.tv_histories.specs.Histories.{IsLegal, answers_in, events_in}
use Rattle.tv_histories.specs.Shown.{shown}
use Rattle.tv_machine.specs.Lines.{opening_line}
use Rattle.tv_machine.specs.Machine.{Turn, after, events_of}
use Rattle.tv_machine.specs.State.{Snapshot, State}
use Rattle.tv_publishing.specs.Lists.{IsPrefix}
use Rattle.tv_shared.specs.Counting.{KeepsCount}
use Rattle.tv_shared.specs.Hearing.{Hears}
use Rattle.tv_shared.specs.Names.{Name}
use Rattle.tv_stepping.specs.declared.ending.Ending.TheVariants.{Open}
use Rattle.tv_stepping.specs.declared.event_store.EventStore.{Ghosts}

-- what stands under the lock: a store, its history, what was published, and whether an event failed
pub record Log (S : Type 0) : Type 0 where
  pub store : S
  pub history : List Entry
  pub published : List Snapshot
  pub has_ended : Bool

-- the log of these parts
abbrev pub log_of : {S : Type 0} → S → List Entry → List Snapshot → Bool → Log S
log_of store history published has_ended =
    record { store = store; history = history; published = published; has_ended = has_ended }

-- The store is just opened, as its name says: it holds each state that it may have started with, its count of
-- refused calls is that of its opening, and it told the opening line last.
pub record IsStart {S : Type 0} (g : Ghosts S) (n : Name) (store : S) : Type 0 where
  pub opened : g.stands store ≡ Open
  pub holds : g.told → (s : State) → n.start s → g.holds store s
  pub hears : g.told → g.tells → (s : State) → n.start s
      → Hears (g.stands store ≡ Open) (g.heard store) (opening_line s ∷ [])
  pub since : g.since store ≡ n.faults
  pub counted : g.faults store ≡ n.faults
  pub sound : n.sound → g.sound store

-- the name of a store that is just opened: what it is then
abbrev pub as_opened : {S : Type 0} → Ghosts S → S → Name
as_opened g store = record { start = g.holds store; faults = g.since store; sound = g.sound store }

-- From each state with which the store may have started, the history is a run of the machine: its events give
-- its answers and, while the store is open, the state that the store holds; the lines that were told are the
-- opening line and these answers. What is published is what the run publishes, and as long as no event failed
-- all of it. It is known why the store failed.
pub record Keeps {S : Type 0} (g : Ghosts S) (n : Name) (log : Log S) : Type 0 where
  pub turns : List Turn
  pub events : events_of turns ≡ events_in log.history
  pub legal : g.told → (s : State) → n.start s → IsLegal s turns log.history
  pub holds : g.stands log.store ≡ Open → g.told → (s : State) → n.start s
      → g.holds log.store (after s turns)
  pub hears : g.told → g.tells → (s : State) → n.start s
      → Hears (g.stands log.store ≡ Open) (g.heard log.store) (opening_line s ∷ answers_in log.history)
  pub opened : log.has_ended ≡ false → g.stands log.store ≡ Open
  pub shows : log.has_ended ≡ false → g.told → (s : State) → n.start s → log.published ≡ shown s turns
  pub begins : g.told → (s : State) → n.start s → IsPrefix log.published (shown s turns)
  pub counts : KeepsCount g n log.store
