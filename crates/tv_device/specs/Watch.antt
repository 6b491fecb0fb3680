-- Watchers of a directory.
use Rattle.std.specs.Prelude.{ℕ, ◌≡◌, ◌⊎◌, ◌+◌, ◌-◌, ◌||◌, Bool, false, eqb, nat_lt, List, [], ◌∷◌, ◌++◌, Option, Some, None, find, map, min, if◌then◌else◌}
use Rattle.tv_base.specs.Places.{change_at, take_out}
use Rattle.tv_formats.specs.Names.{is, meta_name}

-- one more call, as far as 64 bits count
abbrev pub called : ℕ → ℕ
called n = min (n + 1) 18446744073709551615

-- somebody who is registered: under which number, how many handles of it are out, and how often it was called
pub record Registration : Type 0 where
  pub number : ℕ
  pub count : ℕ
  pub calls : ℕ

-- who is registered, in order of subscription, and whether a notice stands
pub record WatchState : Type 0 where
  pub registered : List Registration
  pub notice : Bool

-- whether a registration has this number
abbrev pub has_number : ℕ → Registration → Bool
has_number number r = eqb r.number number

-- one more registers, with one handle
abbrev pub subscribed : (number calls : ℕ) → WatchState → WatchState
subscribed number calls s =
    record s { registered = s.registered ++ record { number = number; count = 1; calls = calls } ∷ [] }

-- at most one handle of it is out
abbrev pub is_last_of : Option Registration → Bool
is_last_of None = false
is_last_of (Some r) = nat_lt r.count 2

-- one handle of this number fewer; with the last one the registration ends
abbrev pub without_handle : ℕ → List Registration → List Registration
without_handle number rs =
    if is_last_of (find (has_number number) rs)
    then take_out (has_number number) rs
    else change_at (has_number number) (λ r. record r { count = r.count - 1 }) rs

-- a handle is given back; one that names nobody is without effect
abbrev pub unsubscribed : Option ℕ → WatchState → WatchState
unsubscribed None s = s
unsubscribed (Some number) s = record s { registered = without_handle number s.registered }

-- after it was called once more
abbrev pub called_once : Registration → Registration
called_once r = record r { calls = called r.calls }

-- where a notice stands, each one is called once, and the notice ends
abbrev pub delivered : WatchState → WatchState
delivered s = if s.notice then record { registered = map called_once s.registered; notice = false } else s

-- after a name was written: of meta.json a notice stands
abbrev pub noted : List ℕ → WatchState → WatchState
noted name s = record s { notice = is name meta_name || s.notice }

-- a refused write may have left the notice
abbrev pub MayNote : List ℕ → WatchState → WatchState → Type 0
MayNote name old new = (new ≡ old) ⊎ (new ≡ noted name old)

-- a handle of one more, who got a number that nobody had
pub record IsNewWatcher (old new : WatchState) (calls : ℕ) (handle : Option ℕ) : Type 0 where
  pub number : ℕ
  pub names : handle ≡ Some number
  pub free : find (has_number number) old.registered ≡ None
  pub last : new ≡ subscribed number calls old
