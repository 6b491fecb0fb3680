-- A value that was taken in last, and its only ticket.
use Rattle.std.proofs.Common.{◌≡◌, ℕ, Bool, true, false, cond, List, [], ◌∷◌, ◌++◌, Option, Some, None, find, refl, ap, ◌∙◌, arith}
use Rattle.tv_base.specs.declared.inventory.Entry.{Entry}
use Rattle.tv_base.specs.Entries.{is_numbered, is_last, one_fewer, released, tracked}
use Rattle.tv_base.specs.Places.{change_at, take_out}

not_here : {X : Type 0} (b : Bool) (x : X) (o : Option X) → cond b (Some x) o ≡ None → (b ≡ false) × (o ≡ None)
not_here true x o h = absurd cc
not_here false x o h = (refl, h)

module _ {X : Type 0} (p : X → Bool) (last : X) (here : p last ≡ true) where
  found_last : (xs : List X) → find p xs ≡ None → find p (xs ++ last ∷ []) ≡ Some last
  found_last [] none = ap (λ (b : Bool). cond b (Some last) None) here
  found_last (x ∷ xs) none =
      let h = not_here (p x) x (find p xs) none in
      ap (λ (b : Bool). cond b (Some x) (find p (xs ++ last ∷ []))) h.0 ∙ found_last xs h.1

  taken_last : (xs : List X) → find p xs ≡ None → take_out p (xs ++ last ∷ []) ≡ xs
  taken_last [] none = ap (λ (b : Bool). cond b [] (last ∷ [])) here
  taken_last (x ∷ xs) none =
      let h = not_here (p x) x (find p xs) none in
      ap (λ (b : Bool). cond b (xs ++ last ∷ []) (x ∷ take_out p (xs ++ last ∷ []))) h.0 ∙ ap (λ (l : List X). x ∷ l) (taken_last xs h.1)

-- given back, it goes, and the others stay
pub released_last : {T : Type 0} (n : ℕ) (value : T) (es : List (Entry T)) → find (is_numbered n) es ≡ None → released n (tracked n value es) ≡ es
released_last {T} n value es fresh =
    let last : Entry T = record { number = n; count = 1; value = value } in
    let here : is_numbered n last ≡ true = grind arith in
    ap (λ (o : Option (Entry T)). cond (is_last o) (take_out (is_numbered n) (tracked n value es)) (change_at (is_numbered n) one_fewer (tracked n value es)))
    (found_last (is_numbered n) last here es fresh)
    ∙ taken_last (is_numbered n) last here es fresh
