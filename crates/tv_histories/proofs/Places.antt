-- What stands at the places of a list.
use Rattle.std.proofs.Common.{◌≡◌, ◌≢◌, ◌⊎◌, inl, inr, ⊎_elim, ◌<◌, ◌+◌, ℕ, zero, suc, List, [], ◌∷◌, ◌++◌, length, set, Some, None, refl, ap, arith}
use Rattle.std.specs.Prelude.{slice_get}

pub some_is : {A : Type 0} {x y : A} → Some x ≡ Some y → x ≡ y
some_is e = cc

pub never : {A : Type 0} {x : A} → None ≡ Some x → ⊥
never e = cc

-- an element of a list with one more
pub get_snoc : {A : Type 0} (xs : List A) (x : A) (i : ℕ) (y : A) → slice_get (xs ++ x ∷ []) i ≡ Some y → (slice_get xs i ≡ Some y) ⊎ ((i ≡ length xs) × (x ≡ y))
get_snoc [] x zero y e = inr (refl, some_is e)
get_snoc [] x (suc i) y e = absurd (never e)
get_snoc (z ∷ xs) x zero y e = inl e
get_snoc (z ∷ xs) x (suc i) y e = ⊎_elim (λ t. inl t) (λ (t : (i ≡ length xs) × (x ≡ y)). inr (ap suc t.0, t.1)) (get_snoc xs x i y e)

-- an element of a list of which one was changed
pub get_set : {A : Type 0} (xs : List A) (k : ℕ) (y : A) (j : ℕ) (z : A) → slice_get (set xs k y) j ≡ Some z → ((j ≡ k) × (y ≡ z)) ⊎ ((j ≢ k) × (slice_get xs j ≡ Some z))
get_set [] k y j z e = absurd (never e)
get_set (x ∷ xs) zero y zero z e = inl (refl, some_is e)
get_set (x ∷ xs) zero y (suc j) z e = inr (λ h. absurd (omega arith), e)
get_set (x ∷ xs) (suc k) y zero z e = inr (λ h. absurd (omega arith), e)
get_set (x ∷ xs) (suc k) y (suc j) z e =
    ⊎_elim (λ (t : (j ≡ k) × (y ≡ z)). inl (ap suc t.0, t.1)) (λ (t : (j ≢ k) × (slice_get xs j ≡ Some z)). inr (λ h. t.0 (omega arith), t.1)) (get_set xs k y j z e)

pub some_at : {A : Type 0} (xs : List A) (k : ℕ) → k < length xs → (x : A) × (slice_get xs k ≡ Some x)
some_at [] k h = absurd (omega arith)
some_at (x ∷ xs) zero h = (x, refl)
some_at (x ∷ xs) (suc k) h = some_at xs k (omega arith)

pub below_or_at : (i n : ℕ) → i < n + 1 → (i < n) ⊎ (i ≡ n)
below_or_at zero zero h = inr refl
below_or_at zero (suc n) h = inl (omega arith)
below_or_at (suc i) zero h = absurd (omega arith)
below_or_at (suc i) (suc n) h = ⊎_elim (λ (t : i < n). inl (omega arith)) (λ (t : i ≡ n). inr (ap suc t)) (below_or_at i n (omega arith))
