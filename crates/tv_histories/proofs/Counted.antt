-- How many events several callers have.
use Rattle.std.proofs.Common.{◌≡◌, ◌≢◌, ◌⊎◌, inl, inr, ⊎_elim, ◌<◌, ◌≤◌, ◌+◌, ℕ, zero, suc, List, [], ◌∷◌, map, length, Bool, true, false, Some, refl, sym, ap, ap₂, ◌∙◌, arith}
use Rattle.std.specs.Prelude.{◌==◌, slice_get, if◌then◌else◌}
use Rattle.tv_events.specs.declared.event.Event.{Event}
use Rattle.tv_histories.specs.declared.entry.Receipt.{Receipt}
use Rattle.tv_histories.specs.Callers.{of_caller}
use Rattle.tv_histories.specs.Races.{IsMergedFrom, count_all}
use Rattle.tv_histories.proofs.Mixing.{length_map, other_number, same_number}

-- how many items these callers have, so many from this one on
abbrev sums : {A : Type 0} → ℕ → ℕ → List ℕ → List A → ℕ
sums k zero callers xs = 0
sums k (suc n) callers xs = length (of_caller k callers xs) + sums (suc k) n callers xs

none_left : (A : Type 0) (k n : ℕ) → sums {A = A} k n [] [] ≡ 0
none_left A k zero = refl
none_left A k (suc n) = let r = none_left A (suc k) n in omega arith

abbrev one_if : Bool → ℕ
one_if true = 1
one_if false = 0

length_if : {A : Type 0} (b : Bool) (x : A) (ys : List A)
    → length (if b then x ∷ ys else ys) ≡ one_if b + length ys
length_if true x ys = let o : one_if true ≡ 1 = refl in omega arith
length_if false x ys = let o : one_if false ≡ 0 = refl in omega arith

at_or_behind : (k t : ℕ) → k ≤ t → (t ≡ k) ⊎ (suc k ≤ t)
at_or_behind zero zero h = inl refl
at_or_behind zero (suc t) h = inr (omega arith)
at_or_behind (suc k) zero h = absurd (omega arith)
at_or_behind (suc k) (suc t) h =
    ⊎_elim (λ (e : t ≡ k). inl (ap suc e)) (λ (l : suc k ≤ t). inr (omega arith))
    (at_or_behind k t (omega arith))

module _ {A : Type 0} (t : ℕ) (ts : List ℕ) (x : A) (xs : List A) where
  -- an item of another caller
  counts_no_more : (k n : ℕ) → t < k → sums k n (t ∷ ts) (x ∷ xs) ≡ sums k n ts xs
  counts_no_more k zero h = refl
  counts_no_more k (suc n) h =
      let l = length_if (t == k) x (of_caller k ts xs) in
      let o : one_if (t == k) ≡ 0 = ap one_if (other_number t k (λ e. absurd (omega arith))) in
      let r = counts_no_more (suc k) n (omega arith) in
      omega arith

  -- an item of one of them
  counts_one : (k n : ℕ) → k ≤ t → t < k + n → sums k n (t ∷ ts) (x ∷ xs) ≡ suc (sums k n ts xs)
  counts_one k zero at below = absurd (omega arith)
  counts_one k (suc n) at below =
      let l = length_if (t == k) x (of_caller k ts xs) in
      ⊎_elim
      (λ (same : t ≡ k).
      let o : one_if (t == k) ≡ 1 = ap one_if (ap (λ m. m == k) same ∙ same_number k) in
      let r = counts_no_more (suc k) n (omega arith) in
      omega arith)
      (λ (behind : suc k ≤ t).
      let o : one_if (t == k) ≡ 0 = ap one_if (other_number t k (λ e. absurd (omega arith))) in
      let r = counts_one (suc k) n behind (omega arith) in
      omega arith)
      (at_or_behind k t at)

-- each item is one caller's
sums_all : {A : Type 0} (n : ℕ) (callers : List ℕ) (xs : List A) → length callers ≡ length xs
    → ((i k : ℕ) → slice_get callers i ≡ Some k → k < n) → sums 0 n callers xs ≡ length xs
sums_all {A = A} n [] [] long known = none_left A 0 n
sums_all n [] (x ∷ xs) long known = absurd (omega arith)
sums_all n (t ∷ ts) [] long known = absurd (omega arith)
sums_all n (t ∷ ts) (x ∷ xs) long known =
    let here = known 0 t refl in
    counts_one t ts x xs 0 n (omega arith) (omega arith)
    ∙ ap suc (sums_all n ts xs (omega arith) (λ i k at. known (suc i) k at))

-- the callers' items are those of their lists
sums_lists : (k : ℕ) (lists : List (List Event)) (callers : List ℕ) (xs : List Event)
    → ((i j : ℕ) (l : List Event) → j ≡ i + k → slice_get lists i ≡ Some l → of_caller j callers xs ≡ l)
    → sums k (length lists) callers xs ≡ count_all lists
sums_lists k [] callers xs each = refl
sums_lists k (l ∷ lists) callers xs each =
    ap₂ (λ a c. a + c) (ap length (each 0 k l (omega arith) refl))
    (sums_lists (suc k) lists callers xs (λ i j m is at. each (suc i) j m (omega arith) at))

-- the receipts of the callers of these scripts are as many as there are events
pub counted : (scripts : List (List Event)) (callers : List ℕ) (rs : List Receipt)
    → IsMergedFrom scripts callers rs → length rs ≡ count_all scripts
counted scripts callers rs m =
    let events = map (λ (r : Receipt). r.event) rs in
    let l = length_map (λ (r : Receipt). r.event) rs in
    sym l ∙ sym (sums_all (length scripts) callers events (m.long ∙ sym l) m.known)
    ∙ sums_lists 0 scripts callers events (λ i j s is at.
    let e : j ≡ i = omega arith in ap (λ n. of_caller n callers events) e ∙ m.each i s at)
