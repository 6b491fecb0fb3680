-- Lists that begin with others.
use Rattle.std.proofs.Common.{◌≡◌, ℕ, zero, suc, List, [], ◌∷◌, ◌++◌, length, Some, refl, sym, ap, ◌∙◌, append_assoc, append-nil, length-append, arith}
use Rattle.std.specs.List.{slice_get}
use Rattle.tv_publishing.specs.Lists.{IsPrefix, EndsIn, at_number}

pub whole_prefix : {A : Type 0} (xs : List A) → IsPrefix xs xs
whole_prefix xs = ([], sym (append-nil xs))

pub then_prefix : {A : Type 0} (xs ys zs : List A) → IsPrefix xs ys → IsPrefix ys zs → IsPrefix xs zs
then_prefix {A} xs ys zs p q =
    (p.0 ++ q.0, q.1 ∙ ap (λ (l : List A). l ++ q.0) p.1 ∙ append_assoc xs p.0 q.0)

empty_where : {A : Type 0} (xs : List A) → length xs ≡ 0 → xs ≡ []
empty_where [] h = refl
empty_where (x ∷ xs) h = absurd (omega arith)

-- a list that begins with one as long as itself is this one
pub same_where : {A : Type 0} (xs ys : List A) → IsPrefix xs ys → length ys ≡ length xs → ys ≡ xs
same_where {A} xs ys p e =
    let l = ap length p.1 in
    let none = empty_where p.0 (omega (arith, length-append xs p.0)) in
    p.1 ∙ ap (λ (r : List A). xs ++ r) none ∙ append-nil xs

get_front : {A : Type 0} (xs rest : List A) (n : ℕ) (x : A) → slice_get xs n ≡ Some x
    → slice_get (xs ++ rest) n ≡ Some x
get_front [] rest n x e = cc
get_front (y ∷ xs) rest zero x e = e
get_front (y ∷ xs) rest (suc n) x e = get_front xs rest n x e

-- what stands at a number stands there in each longer list
pub stays_at : {A : Type 0} (xs ys : List A) (n : ℕ) (x : A) → IsPrefix xs ys → at_number xs n ≡ Some x
    → at_number ys n ≡ Some x
stays_at xs ys zero x p e = cc
stays_at {A} xs ys (suc n) x p e = ap (λ (l : List A). slice_get l n) p.1 ∙ get_front xs p.0 n x e

get_last : {A : Type 0} (front : List A) (x : A) → slice_get (front ++ x ∷ []) (length front) ≡ Some x
get_last [] x = refl
get_last (y ∷ front) x = get_last front x

-- the last one stands at the number that is the list's length
pub last_at : {A : Type 0} (all : List A) (x : A) → EndsIn all (Some x) → at_number all (length all) ≡ Some x
last_at {A} all x e =
    let n = ap length e.1 in
    let one : length all ≡ suc (length e.0) = omega (arith, length-append e.0 (x ∷ [])) in
    ap (λ k. at_number all k) one ∙ ap (λ (l : List A). slice_get l (length e.0)) e.1 ∙ get_last e.0 x
