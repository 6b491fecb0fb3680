-- What closing a shared store gives.
use Rattle.std.specs.Prelude.{◌≡◌, true, List}
use Rattle.tv_histories.specs.declared.entry.Entry.{Entry}
use Rattle.tv_histories.specs.declared.entry.Receipt.{Receipt}
use Rattle.tv_histories.specs.declared.shared_error.SharedError.{SharedError}
use Rattle.tv_histories.specs.Histories.{has_reader}
use Rattle.tv_histories.specs.Receipts.{DiffersAmong}
use Rattle.tv_machine.specs.State.{Snapshot}
use Rattle.tv_shared.specs.Logs.{Keeps, log_of}
use Rattle.tv_shared.specs.declared.closed.Closed.{Closed}
use Rattle.tv_shared.specs.Names.{Name}
use Rattle.tv_stepping.specs.declared.event_store.EventStore.{Ghosts}

-- the snapshots that were published, of a store that is shared no more
abbrev pub publications : {S N : Type 0} → Closed S N → List Snapshot
publications closed = closed.publisher

-- The store, its history and what was published are those that stood under the lock, where they kept what
-- always holds there; and the first entry makes a reader.
pub record HasClosed {S : Type 0} (g : Ghosts S) (n : Name) (store : S) (history : List Entry)
    (published : List Snapshot) : Type 0 where
  pub keeps : Keeps g n (log_of store history published true)
  pub reads : has_reader history ≡ true

-- a receipt differs from the entry at its place, of the history that stood under the lock; or memory was wanting
abbrev pub IsNotClosed : {S : Type 0} → Ghosts S → Name → S → List Snapshot → List Receipt → SharedError
    → Type 0
IsNotClosed g n store published receipts error =
    (history : List Entry) × HasClosed g n store history published × DiffersAmong history receipts error
