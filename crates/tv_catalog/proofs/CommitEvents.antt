-- The event that commits: the files that it asks for, the segments that it chooses, and the state that it leads to.
use Rattle.std.proofs.Common.{◌≡◌, ℕ, zero, suc, ◌+◌, ◌<◌, Bool, true, false, cond, List, [], ◌∷◌, ◌++◌, length, take, get_or, Some, None, refl, sym, ap, ◌∙◌, arith}
use Rattle.std.specs.Prelude.{find}
use Rattle.std.proofs.lemmas.List.{take_more}
use Rattle.std.proofs.lemmas.List.Folds.{find-append}

-- ---- lists, one element further

pub find_further : {A : Type 0} (p : A → Bool) (xs : List A) (i : ℕ) (x : A) → i < length xs → x ≡ get_or xs i x → find p (take i xs) ≡ None → p x ≡ false → find p (take (i + 1) xs) ≡ None
find_further {A} p xs i x h is none fails =
    ap (find p) (take_more xs i x h ∙ ap (λ (y : A). take i xs ++ y ∷ []) (sym is)) ∙ find-append p (take i xs) (x ∷ []) ∙ rw (none, fails) refl

pub find_here : {A : Type 0} (p : A → Bool) (xs : List A) (i : ℕ) (x : A) → i < length xs → x ≡ get_or xs i x → find p (take i xs) ≡ None → p x ≡ true → find p xs ≡ Some x
find_here p [] i x h is none here = absurd (omega arith)
find_here p (y ∷ ys) zero x h is none here = rw (sym is, here) refl
find_here {A} p (y ∷ ys) (suc i) x h is none here =
    elim (p y) as (λ b. cond b (Some y) (find p (take i ys)) ≡ None → cond b (Some y) (find p ys) ≡ Some x) [
      | true ↦ λ k. absurd cc
      | false ↦ λ k. find_here p ys i x (omega arith) is k here
    ] none
