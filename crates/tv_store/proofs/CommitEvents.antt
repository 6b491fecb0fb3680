-- The event that commits: the files that it asks for, the segments that it chooses, and the state that it leads to.
use Rattle.std.proofs.Common.{◌≡◌, ℕ, zero, suc, ◌<◌, List, [], ◌∷◌, length, get_or, sym, subst, arith}
use Rattle.std.specs.List.{AllByRecursion}

-- ---- lists, one element further

pub all_at : {A : Type 0} (P : A → Type 0) (xs : List A) (i : ℕ) (x : A) → AllByRecursion P xs → i < length xs → x ≡ get_or xs i x → P x
all_at P [] i x h lt is = absurd (omega arith)
all_at P (y ∷ ys) zero x h lt is = subst P (sym is) h.0
all_at P (y ∷ ys) (suc i) x h lt is = all_at P ys i x h.1 (omega arith) is
