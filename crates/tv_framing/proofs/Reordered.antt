-- Facts on usages that come in another order.
use Rattle.std.proofs.Common.{◌≡◌, ◌⊎◌, ℕ, Bool, true, false, not, ◌&&◌, cond, List, [], ◌∷◌, filter, fold, map, inl, inr, Option, Some, None, refl, sym, ap, subst, ◌∙◌, true≢false}
use Rattle.std.specs.Prelude.{find}
use Rattle.std.specs.List.Sorted.{IsStableBy, ties}
use Rattle.std.specs.declared.cmp.Ordering.{Ordering}
use Rattle.std.specs.declared.cmp.Ordering.TheVariants.{Less, Equal, Greater}
use Rattle.std.specs.Ordering.{is_eq, is_lt, ordering_reverse}
use Rattle.std.proofs.lemmas.Cmp.{nat_list_cmp_total}
use Rattle.tv_formats.specs.Names.{byte_cmp}
use Rattle.tv_formats.proofs.Entries.{is_equal}
use Rattle.tv_framing.specs.Fields.{FieldSpace}
use Rattle.tv_framing.specs.PerField.{InNameOrder, IsBelow, gathered, is_named}
use Rattle.tv_framing.specs.Places.{by_name}
use Rattle.tv_framing.proofs.Gathered.{all_map, by_name_all, none_named, turned}

-- ---- lists in name order that find the same are the same

abbrev is_found : Option FieldSpace → Bool
is_found None = false
is_found (Some f) = true

abbrev found_or : FieldSpace → Option FieldSpace → FieldSpace
found_or d None = d
found_or d (Some f) = f

no_some : {X : Type 0} (f : FieldSpace) → None ≡ Some f → X
no_some f e = absurd (true≢false (sym (ap is_found e)))

-- a name below the first one is not found
found_none : (n : List ℕ) (g : FieldSpace) (gs : List FieldSpace) → byte_cmp n g.name ≡ Less → InNameOrder (g ∷ gs) → find (is_named n) (g ∷ gs) ≡ None
found_none n g gs is h =
    none_named n (g ∷ gs) (is, all_map (IsBelow g) (λ x. byte_cmp n x.name ≡ Less) (λ x p. nat_list_cmp_total.trans n g.name x.name is p) gs h.0)

own_by : (c : Ordering) → c ≡ ordering_reverse c → is_eq c ≡ true
own_by Less e = search (e)
own_by Equal e = refl
own_by Greater e = search (e)

own_name : (f : FieldSpace) → is_named f.name f ≡ true
own_name f = own_by (byte_cmp f.name f.name) (nat_list_cmp_total.antisymm f.name f.name)

found_first : (f : FieldSpace) (fs : List FieldSpace) → find (is_named f.name) (f ∷ fs) ≡ Some f
found_first f fs = ap (λ b. cond b (Some f) (find (is_named f.name) fs)) (own_name f)

-- behind the first, its name is not found
found_later : (n : List ℕ) (f : FieldSpace) (fs : List FieldSpace) → is_named n f ≡ true → InNameOrder (f ∷ fs) → find (is_named n) fs ≡ None
found_later n f fs e h =
    none_named n fs (all_map (IsBelow f) (λ x. byte_cmp n x.name ≡ Less) (λ x p. nat_list_cmp_total.congr n f.name x.name (is_equal (byte_cmp n f.name) e) ∙ p) fs h.0)

tail_by : (n : List ℕ) (f : FieldSpace) (fs gs : List FieldSpace) (b : Bool) → is_named n f ≡ b → InNameOrder (f ∷ fs) → InNameOrder (f ∷ gs)
    → cond b (Some f) (find (is_named n) fs) ≡ cond b (Some f) (find (is_named n) gs) → find (is_named n) fs ≡ find (is_named n) gs
tail_by n f fs gs true e h k same = found_later n f fs e h ∙ sym (found_later n f gs e k)
tail_by n f fs gs false e h k same = same

abbrev FindSame : List FieldSpace → List FieldSpace → Type 0
FindSame fs gs = (n : List ℕ) → find (is_named n) fs ≡ find (is_named n) gs

same_head : (f g : FieldSpace) (fs gs : List FieldSpace) (c : Ordering) → byte_cmp f.name g.name ≡ c → InNameOrder (f ∷ fs) → InNameOrder (g ∷ gs) → FindSame (f ∷ fs) (g ∷ gs) → f ≡ g
same_head f g fs gs Less is h k same =
    no_some f (sym (found_none f.name g gs is k) ∙ sym (same f.name) ∙ found_first f fs)
same_head f g fs gs Equal is h k same =
    let there : find (is_named f.name) (g ∷ gs) ≡ Some g = ap (λ b. cond b (Some g) (find (is_named f.name) gs)) (ap is_eq is) in
    ap (found_or f) (sym (found_first f fs) ∙ same f.name ∙ there)
same_head f g fs gs Greater is h k same =
    no_some g (sym (found_none g.name f fs (turned f g Greater is) h) ∙ same g.name ∙ found_first g gs)

only_one : (fs gs : List FieldSpace) → InNameOrder fs → InNameOrder gs → FindSame fs gs → fs ≡ gs
only_one [] [] h k same = refl
only_one [] (g ∷ gs) h k same = no_some g (same g.name ∙ found_first g gs)
only_one (f ∷ fs) [] h k same = no_some f (sym (same f.name) ∙ found_first f fs)
only_one (f ∷ fs) (g ∷ gs) h k same =
    let head : f ≡ g = same_head f g fs gs (byte_cmp f.name g.name) refl h k same in
    let k' : InNameOrder (f ∷ gs) = subst (λ x. InNameOrder (x ∷ gs)) (sym head) k in
    let same' : FindSame (f ∷ fs) (f ∷ gs) = subst (λ x. FindSame (f ∷ fs) (x ∷ gs)) (sym head) same in
    let tail : fs ≡ gs = only_one fs gs h.1 k.1 (λ n. tail_by n f fs gs (is_named n f) refl h k' (same' n)) in
    ap (λ x. x ∷ fs) head ∙ ap (λ l. g ∷ l) tail

-- ---- where each name's usages stand in one order

-- usages of one name stand in both in the same order
abbrev pub InOneOrder : List FieldSpace → List FieldSpace → Type 0
InOneOrder fs gs = (n : List ℕ) → filter (is_named n) gs ≡ filter (is_named n) fs

pub same_by_name : (fs gs : List FieldSpace) → InOneOrder fs gs → by_name gs ≡ by_name fs
same_by_name fs gs h =
    let one = by_name_all gs in
    let other = by_name_all fs in
    only_one (by_name gs) (by_name fs) one.ordered other.ordered (λ n. one.each n ∙ ap (fold gathered None) (h n) ∙ sym (other.each n))

-- ---- what a stable sort leaves

abbrev comes_first : {X : Type 0} → (X → FieldSpace) → X → X → Bool
comes_first f x y = is_lt (byte_cmp (f x).name (f y).name)

tie_by : (c d : Ordering) → d ≡ ordering_reverse c → (not (is_lt c) && not (is_lt d)) ≡ is_eq c
tie_by Less d e = refl
tie_by Equal d e = ap (λ r. not (is_lt r)) e
tie_by Greater d e = ap (λ r. not (is_lt r)) e

module _ {X : Type 0} (f : X → FieldSpace) where
  tie_named : (n : List ℕ) (x y : X) → is_named n (f x) ≡ true → ties (comes_first f) x y ≡ is_named n (f y)
  tie_named n x y e =
      tie_by (byte_cmp (f x).name (f y).name) (byte_cmp (f y).name (f x).name) (nat_list_cmp_total.antisymm (f y).name (f x).name)
      ∙ ap is_eq (sym (nat_list_cmp_total.congr n (f x).name (f y).name (is_equal (byte_cmp n (f x).name) e)))

  agree : (p q : X → Bool) → ((x : X) → p x ≡ q x) → (xs : List X) → filter p xs ≡ filter q xs
  agree p q h [] = refl
  agree p q h (x ∷ xs) = ap (λ b. cond b (x ∷ filter p xs) (filter p xs)) (h x) ∙ ap (λ l. cond (q x) (x ∷ l) l) (agree p q h xs)

  none_by : (q : X → Bool) (x : X) (xs : List X) (b : Bool) → q x ≡ b → (filter q xs ≡ []) ⊎ ((y : X) × (q y ≡ true)) → (cond b (x ∷ filter q xs) (filter q xs) ≡ []) ⊎ ((y : X) × (q y ≡ true))
  none_by q x xs true e rest = inr (x, e)
  none_by q x xs false e rest = rest

  one_or_none : (q : X → Bool) (xs : List X) → (filter q xs ≡ []) ⊎ ((x : X) × (q x ≡ true))
  one_or_none q [] = inl refl
  one_or_none q (x ∷ xs) = none_by q x xs (q x) refl (one_or_none q xs)

  stable_named : (n : List ℕ) (xs ys : List X) → IsStableBy (comes_first f) xs ys → (x : X) → is_named n (f x) ≡ true → filter (λ y. is_named n (f y)) ys ≡ filter (λ y. is_named n (f y)) xs
  stable_named n xs ys h x e =
      let q : X → Bool = λ y. is_named n (f y) in
      sym (agree (ties (comes_first f) x) q (λ y. tie_named n x y e) ys) ∙ h x ∙ agree (ties (comes_first f) x) q (λ y. tie_named n x y e) xs

  stable_by : (n : List ℕ) (xs ys : List X) → IsStableBy (comes_first f) xs ys
      → (filter (λ y. is_named n (f y)) xs ≡ []) ⊎ ((x : X) × (is_named n (f x) ≡ true)) → (filter (λ y. is_named n (f y)) ys ≡ []) ⊎ ((x : X) × (is_named n (f x) ≡ true))
      → filter (λ y. is_named n (f y)) ys ≡ filter (λ y. is_named n (f y)) xs
  stable_by n xs ys h (inr one) other = stable_named n xs ys h one.0 one.1
  stable_by n xs ys h (inl none) (inr one) = stable_named n xs ys h one.0 one.1
  stable_by n xs ys h (inl none) (inl also) = also ∙ sym none

  filter_by : (p : FieldSpace → Bool) (x : X) (xs : List X) (b : Bool) → cond b (f x ∷ map f (filter (λ y. p (f y)) xs)) (map f (filter (λ y. p (f y)) xs)) ≡ map f (cond b (x ∷ filter (λ y. p (f y)) xs) (filter (λ y. p (f y)) xs))
  filter_by p x xs true = refl
  filter_by p x xs false = refl

  filter_of_map : (p : FieldSpace → Bool) (xs : List X) → filter p (map f xs) ≡ map f (filter (λ y. p (f y)) xs)
  filter_of_map p [] = refl
  filter_of_map p (x ∷ xs) = ap (λ l. cond (p (f x)) (f x ∷ l) l) (filter_of_map p xs) ∙ filter_by p x xs (p (f x))

  pub stable_filter : (n : List ℕ) (xs ys : List X) → IsStableBy (comes_first f) xs ys → filter (λ y. is_named n (f y)) ys ≡ filter (λ y. is_named n (f y)) xs
  stable_filter n xs ys h = stable_by n xs ys h (one_or_none (λ y. is_named n (f y)) xs) (one_or_none (λ y. is_named n (f y)) ys)

  pub stable_order : (xs ys : List X) → IsStableBy (comes_first f) xs ys → InOneOrder (map f xs) (map f ys)
  stable_order xs ys h n =
      filter_of_map (is_named n) ys
      ∙ ap (map f) (stable_filter n xs ys h)
      ∙ sym (filter_of_map (is_named n) xs)
