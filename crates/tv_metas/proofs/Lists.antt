-- What a loop over a list puts together, one element after the other.
use Rattle.std.proofs.Common.{◌≡◌, ℕ, ◌<◌, ◌≤◌, ◌+◌, List, [], ◌∷◌, ◌++◌, map, take, length, get_or, sym, ap, ◌∙◌}
use Rattle.std.proofs.lemmas.List.{map_push, take_all, take_more}

module _ {X Y : Type 0} (f : X → Y) (xs : List X) (i : ℕ) where
  pub one_more : (x : X) (so_far new : List Y) → i < length xs → x ≡ get_or xs i x → so_far ≡ map f (take i xs) → new ≡ so_far ++ f x ∷ [] → new ≡ map f (take (i + 1) xs)
  one_more x so_far new within is before pushed =
      pushed ∙ ap (λ (l : List Y). l ++ f x ∷ []) before
      ∙ sym (ap (map f) (take_more xs i x within ∙ ap (λ (y : X). take i xs ++ y ∷ []) (sym is)) ∙ map_push f (take i xs) x)

  pub all_of : (so_far : List Y) → length xs ≤ i → so_far ≡ map f (take i xs) → so_far ≡ map f xs
  all_of so_far over before = before ∙ ap (map f) (take_all i xs over)
