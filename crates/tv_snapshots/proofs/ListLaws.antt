-- Laws of lists, that what stands above needs too.
use Rattle.std.proofs.Common.{◌≡◌, ℕ, List, [], ◌∷◌, ◌++◌, sym, ap, ◌∙◌, ◌+◌, ◌<◌, length, get_or, drop, take}
use Rattle.std.specs.List.{AllByRecursion}
use Rattle.std.proofs.lemmas.List.{drop_more, take-append-drop}

pub all_joined : {A : Type 0} (P : A → Type 0) (xs ys : List A) → AllByRecursion P xs → AllByRecursion P ys → AllByRecursion P (xs ++ ys)
all_joined P [] ys h k = k
all_joined P (x ∷ xs) ys h k = (h.0, all_joined P xs ys h.1 k)

-- what stands at a place of a list, between what is before it and after it
pub split_there : {A : Type 0} (xs : List A) (i : ℕ) (x : A) → i < length xs → x ≡ get_or xs i x → xs ≡ take i xs ++ x ∷ drop (i + 1) xs
split_there xs i x within at_i =
    sym (take-append-drop i xs) ∙ ap (λ (ys : List _). take i xs ++ ys) (drop_more xs i x within ∙ ap (λ (y : _). y ∷ drop (i + 1) xs) (sym at_i))
