-- Facts on the entries of an inventory.
use Rattle.std.proofs.Common.{◌≡◌, ℕ, suc, ◌<◌, Bool, true, false, if◌then◌else◌, List, [], ◌∷◌, ◌++◌, Some, None, IsSome, All, find, refl, eqb, arith}
use Rattle.tv_base.specs.declared.inventory.Entry.{Entry}
use Rattle.tv_base.specs.Entries.{is_numbered}

-- a number above all of a list's is new there
pub none_at : {T : Type 0} (n : ℕ) (es : List (Entry T)) → All (λ e. e.number < n) es
    → find (is_numbered n) es ≡ None
none_at n [] below = refl
none_at n (e ∷ es) below =
    let no : eqb e.number n ≡ false = grind (arith, below 0 e (grind arith)) in
    rw no (none_at n es (λ k d lt. below (suc k) d (grind (arith, lt))))

either_found : {T : Type 0} (n : ℕ) (e : Entry T) (es : List (Entry T)) (b : Bool)
    → IsSome (find (is_numbered n) es) → IsSome (if b then Some e else find (is_numbered n) es)
either_found n e es true there = refl
either_found n e es false there = there

-- the last entry is found under its number
last_is_found : {T : Type 0} (old : List (Entry T)) (n : ℕ) (e : Entry T) → e.number ≡ n
    → IsSome (find (is_numbered n) (old ++ e ∷ []))
last_is_found [] n e is =
    let same : eqb n n ≡ true = grind arith in
    rw (is, same) refl
last_is_found (first ∷ old) n e is =
    either_found n first (old ++ e ∷ []) (eqb first.number n) (last_is_found old n e is)

-- What was taken in last is found under its number.
pub last_found : {T : Type 0} (es old : List (Entry T)) (n : ℕ) (value : T)
    → es ≡ old ++ record { number = n; count = 1; value = value } ∷ [] → IsSome (find (is_numbered n) es)
last_found es old n value is =
    rw is (last_is_found old n (record { number = n; count = 1; value = value }) refl)
