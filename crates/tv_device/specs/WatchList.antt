-- Those who are registered, as the entries of an inventory.
use Rattle.std.specs.Prelude.{ℕ, ◌≡◌, List, Option, Some, None, eqb, find, map}
use Rattle.std.specs.List.{IsDistinct}
use Rattle.tv_base.specs.declared.inventory.Entry.{Entry}
use Rattle.tv_base.specs.Entries.{is_numbered, one_more, released}
use Rattle.tv_base.specs.Places.{change_at}
use Rattle.tv_device.specs.declared.watch_list.Watcher.{Watcher}
use Rattle.tv_device.specs.declared.watch_list.Watchers.{Watchers}
use Rattle.tv_device.specs.Watch.{Registration, WatchState, called_once}

-- an entry as a registration: how often its callback was called is said by `calls_of`
abbrev pub seen : {C : Type 0} → (C → ℕ) → Entry (Watcher C) → Registration
seen calls_of e = record { number = e.number; count = e.count; calls = calls_of e.value.callback }

-- the watchers of a directory
abbrev pub watch_state_of : {C : Type 0} → (C → ℕ) → Watchers C → WatchState
watch_state_of calls_of w = record { registered = map (seen calls_of) w.list.entries; notice = w.notice }

-- one more handle, and one fewer; a handle that names nobody is without effect
abbrev pub shared_by : {T : Type 0} → Option ℕ → List (Entry T) → List (Entry T)
shared_by None es = es
shared_by (Some number) es = change_at (is_numbered number) one_more es

-- one fewer handle of whom the number names; a handle that names nobody is without effect
abbrev pub released_by : {T : Type 0} → Option ℕ → List (Entry T) → List (Entry T)
released_by None es = es
released_by (Some number) es = released number es

-- no two entries have the same number
abbrev pub AreApart : {T : Type 0} → List (Entry T) → Type 0
AreApart es = IsDistinct eqb (map (λ e. e.number) es)

-- Everybody was called once. Who was gone stays so, and numbers that were apart stay so.
pub record CallsAll {C : Type 0} (calls_of : C → ℕ) (old new : List (Entry (Watcher C))) : Type 0 where
  pub called : map (seen calls_of) new ≡ map called_once (map (seen calls_of) old)
  pub gone : (n : ℕ) → find (is_numbered n) old ≡ None → find (is_numbered n) new ≡ None
  pub apart : AreApart old → AreApart new
