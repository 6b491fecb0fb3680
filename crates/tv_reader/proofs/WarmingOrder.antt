-- Calls in order: one place further, and at the end.
use Rattle.std.proofs.Common.{◌≡◌, ℕ, zero, suc, ◌+◌, ◌<◌, ◌≤◌, List, [], ◌∷◌, Ok, Err, inl, inr, length, slice_index_or, slice_set, refl, sym, subst, ◌∙◌, arith, add-one}
use Rattle.std.specs.List.{AllZip}
use Rattle.tv_reader.specs.Warming.{InOrder, UpTo}

empty : {X : Type 0} (ys : List X) (n : ℕ) → ys ≡ [] → n < length ys → ⊥
empty [] n is lt = grind (arith, lt)
empty (y ∷ ys) n is lt = cc

heads : {X : Type 0} (y x : X) (ys xs : List X) → y ∷ ys ≡ x ∷ xs → y ≡ x
heads y x ys xs is = cc

tails : {X : Type 0} (y x : X) (ys xs : List X) → y ∷ ys ≡ x ∷ xs → ys ≡ xs
tails y x ys xs is = cc

next : {X : Type 0} (R : X → X → Type 0) (n : ℕ) (xs ys : List X) (d e : X) → UpTo R n xs ys → n < length ys → d ≡ slice_index_or ys n d → R d e → UpTo R (suc n) xs (slice_set ys n e)
next R zero [] ys d e so lt at here = absurd (empty ys 0 so lt)
next R zero (x ∷ xs) [] d e so lt at here = absurd (grind (arith, lt))
next R zero (x ∷ xs) (y ∷ ys) d e so lt at here =
    (subst (λ v. R v e) (at ∙ heads y x ys xs so) here, tails y x ys xs so)
next R (suc n) [] ys d e so lt at here = absurd (empty ys (suc n) so lt)
next R (suc n) (x ∷ xs) [] d e so lt at here = absurd so
next R (suc n) (x ∷ xs) (y ∷ ys) d e so lt at here = (so.0, next R n xs ys d e so.1 (grind (arith, lt)) at here)

pub step : {X : Type 0} (R : X → X → Type 0) (n : ℕ) (xs ys : List X) (d e : X) → UpTo R n xs ys → n < length ys → d ≡ slice_index_or ys n d → R d e → UpTo R (n + 1) xs (slice_set ys n e)
step R n xs ys d e so lt at here = rw (add-one n) (next R n xs ys d e so lt at here)

pub done : {X : Type 0} (R : X → X → Type 0) (n : ℕ) (xs ys : List X) → UpTo R n xs ys → length xs ≤ n → AllZip R xs ys
done R zero [] ys so le = subst (AllZip R []) (sym so) tt
done R (suc n) [] ys so le = subst (AllZip R []) (sym so) tt
done R zero (x ∷ xs) ys so le = absurd (grind (arith, le))
done R (suc n) (x ∷ xs) [] so le = so
done R (suc n) (x ∷ xs) (y ∷ ys) so le = (so.0, done R n xs ys so.1 (grind (arith, le)))

pub all_good : {S E : Type 0} (Good : S → S → Type 0) (Bad : E → S → S → Type 0) (n : ℕ) (xs ys : List S) → UpTo Good n xs ys → length xs ≤ n → InOrder Good Bad xs ys (Ok tt)
all_good Good Bad zero [] ys so le = (so, refl)
all_good Good Bad (suc n) [] ys so le = (so, refl)
all_good Good Bad zero (x ∷ xs) ys so le = absurd (grind (arith, le))
all_good Good Bad (suc n) (x ∷ xs) [] so le = so
all_good Good Bad (suc n) (x ∷ xs) (y ∷ ys) so le = inl (so.0, all_good Good Bad n xs ys so.1 (grind (arith, le)))

pub first_bad : {S E : Type 0} (Good : S → S → Type 0) (Bad : E → S → S → Type 0) (n : ℕ) (xs ys : List S) (d f : S) (e : E) → UpTo Good n xs ys → n < length ys → d ≡ slice_index_or ys n d → Bad e d f → InOrder Good Bad xs (slice_set ys n f) (Err e)
first_bad Good Bad zero [] ys d f e so lt at bad = absurd (empty ys 0 so lt)
first_bad Good Bad zero (x ∷ xs) [] d f e so lt at bad = absurd (grind (arith, lt))
first_bad Good Bad zero (x ∷ xs) (y ∷ ys) d f e so lt at bad =
    inr (e, refl, subst (λ v. Bad e v f) (at ∙ heads y x ys xs so) bad, tails y x ys xs so)
first_bad Good Bad (suc n) [] ys d f e so lt at bad = absurd (empty ys (suc n) so lt)
first_bad Good Bad (suc n) (x ∷ xs) [] d f e so lt at bad = absurd so
first_bad Good Bad (suc n) (x ∷ xs) (y ∷ ys) d f e so lt at bad =
    inl (so.0, first_bad Good Bad n xs ys d f e so.1 (grind (arith, lt)) at bad)
