-- A file that is watched.
use Rattle.std.specs.Prelude.{ℕ, ◌≡◌, ◌≢◌, ◌++◌, Bool, true, false, List, [], ◌∷◌, Option, Some, None, IsSome, find, map}
use Rattle.tv_base.specs.Entries.{is_numbered}
use Rattle.tv_base.specs.declared.inventory.Entry.{Entry}
use Rattle.tv_base.specs.Texts.{counted}
use Rattle.tv_device.specs.Watch.{Registration, called_once}
use Rattle.tv_device.specs.WatchList.{seen as seen_of}
use Rattle.tv_device.specs.declared.watch_list.Watcher.{Watcher}

-- the checksum of the lines that was seen last, if one was; who is registered; and how many looks the
-- operating system refused
pub record WatcherState (C : Type 0) : Type 0 where
  pub seen : Option ℕ
  pub callbacks : List (Entry (Watcher C))
  pub faults : ℕ

-- who is registered, in order of subscription
abbrev pub registered : {C : Type 0} → (C → ℕ) → WatcherState C → List Registration
registered calls watcher = map (seen_of calls) watcher.callbacks

-- after a look that was refused
abbrev pub watcher_fault : {C : Type 0} → WatcherState C → WatcherState C
watcher_fault watcher = record watcher { faults = counted watcher.faults }

-- One more is registered, under a number that nobody had; nothing else changed.
pub record Subscribes {C : Type 0} (calls : C → ℕ) (old new : WatcherState C) (called : ℕ)
    (handle : Option ℕ) : Type 0 where
  pub number : ℕ
  pub names : handle ≡ Some number
  pub free : find (is_numbered number) old.callbacks ≡ None
  pub callbacks : registered calls new
      ≡ registered calls old ++ record { number = number; count = 1; calls = called } ∷ []
  pub others : new ≡ record old { callbacks = new.callbacks }

-- Where something else was seen than before, each one was called once; else nothing changed.
pub record Looks {C : Type 0} (calls : C → ℕ) (old new : WatcherState C) (changed : Bool) : Type 0 where
  pub seen : changed ≡ true → IsSome new.seen × (new.seen ≢ old.seen)
  pub called : changed ≡ true → registered calls new ≡ map called_once (registered calls old)
  pub faults : new.faults ≡ old.faults
  pub same : changed ≡ false → new ≡ old
