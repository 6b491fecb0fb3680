-- The entries of an inventory.
use Rattle.std.specs.Prelude.{ℕ, ◌≡◌, ◌+◌, ◌-◌, ◌==◌, Bool, false, eqb, nat_lt, List, [], ◌∷◌, ◌++◌, Option, Some, None, if◌then◌else◌, find}
use Rattle.tv_base.specs.declared.inventory.Entry.{Entry}
use Rattle.tv_base.specs.Places.{change_at, take_out}

-- what an inventory keeps, and the number that the next value gets
pub record InventoryState (T : Type 0) : Type 0 where
  pub next : ℕ
  pub entries : List (Entry T)

-- an entry of this number
abbrev pub is_numbered : {T : Type 0} → ℕ → Entry T → Bool
is_numbered number e = eqb e.number number

-- the entries after a value was taken in under this number: one share of it is out
abbrev pub tracked : {T : Type 0} → ℕ → T → List (Entry T) → List (Entry T)
tracked number value es = es ++ record { number = number; count = 1; value = value } ∷ []

-- as many shares of it are out as can be counted
abbrev pub IsFull : {T : Type 0} → Entry T → Type 0
IsFull e = e.count ≡ 18446744073709551615

-- whether as many shares of an entry are out as can be counted
abbrev pub is_full : {T : Type 0} → Entry T → Bool
is_full e = e.count == 18446744073709551615

-- one more share of an entry
abbrev pub one_more : {T : Type 0} → Entry T → Entry T
one_more e = record e { count = e.count + 1 }

-- one fewer share of an entry
abbrev pub one_fewer : {T : Type 0} → Entry T → Entry T
one_fewer e = record e { count = e.count - 1 }

-- at most one share of it is out
abbrev pub is_last : {T : Type 0} → Option (Entry T) → Bool
is_last None = false
is_last (Some e) = nat_lt e.count 2

-- one share of a number less; the last one takes the entry out
abbrev pub released : {T : Type 0} → ℕ → List (Entry T) → List (Entry T)
released number es =
    if is_last (find (is_numbered number) es) then take_out (is_numbered number) es
    else change_at (is_numbered number) one_fewer es
