-- Bytes spell one commit at most, under one settings and with one schema.
use Rattle.std.proofs.Common.{◌≡◌, ◌⊎◌, inl, inr, ℕ, zero, suc, Bool, List, [], ◌∷◌, map, Option, Some, None, refl, sym, ap, ap₂, ◌∙◌, subst, arith, codes}
use Rattle.std.specs.Prelude.{IsPermutation, Contains, IsUtf8}
use Rattle.std.specs.declared.cmp.Ordering.TheVariants.{Less, Greater}
use Rattle.std.specs.Ordering.{ordering_reverse}
use Rattle.std.specs.List.{AllByRecursion}
use Rattle.std.specs.List.Sorted.{IsStrictlySortedBy}
use Rattle.std.proofs.lemmas.Cmp.{nat_list_cmp_total}
use Rattle.std.proofs.lemmas.List.Sorted.{IsPermutation-trans, IsPermutation-sym, Contains-permutation}
use Rattle.std.proofs.lemmas.Option.{same_Some}
use Rattle.serde_json.specs.Data.{Data, null, string, array, Items, no_items, item}
use Rattle.serde_json.specs.Find.{get}
use Rattle.serde_json.specs.Read.{read}
use Rattle.tv_formats.specs.declared.segment.DeleteMeta.{DeleteMeta}
use Rattle.tv_formats.specs.declared.segment.LiveSegment.{LiveSegment}
use Rattle.tv_formats.specs.Names.{byte_cmp}
use Rattle.tv_formats.specs.JsonFields.{IsOptional}
use Rattle.tv_formats.specs.MetaJson.{AreSettingsAt, IsDeleteMeta, SpellsSegment, SpellEach, SpellSegments, IsMetaTree, SpellsMeta}
use Rattle.tv_formats.specs.Commits.{Commit, Settings}

abbrev Entry : Type 0
Entry = List ℕ × LiveSegment

-- two values of one option
one_value : {A : Type 0} (o : Option A) (x y : A) → o ≡ Some x → o ≡ Some y → x ≡ y
one_value o x y h k = same_Some x y (sym h ∙ k)

-- ---- the parts

abbrev settings_of : Bool → ℕ → Settings
settings_of b n = record { dedicated_thread = b; blocksize = n }

one_settings : (o : Option Data) (first second : Settings) → AreSettingsAt o first → AreSettingsAt o second → first ≡ second
one_settings None first second h k = h ∙ sym k
one_settings (Some d) first second h k =
    ap₂ settings_of (one_value _ first.dedicated_thread second.dedicated_thread h.thread k.thread)
    (one_value _ first.blocksize second.blocksize h.blocksize k.blocksize)

-- a field that may be left out has one value
module _ {A : Type 0} (R : Data → A → Type 0) (one : (d : Data) (x y : A) → R d x → R d y → x ≡ y) (none : (x : A) → R null x → ⊥) where
  not_both : (o : Option Data) (x : A) → (o ≡ None) ⊎ (o ≡ Some null) → (d : Data) → o ≡ Some d → R d x → ⊥
  not_both o x (inl e) d k r = let bad : None ≡ Some d = sym e ∙ k in cc
  not_both o x (inr e) d k r = none x (subst (λ (d : Data). R d x) (one_value o d null k e) r)

  one_optional : (o : Option Data) (x y : Option A) → IsOptional R o x → IsOptional R o y → x ≡ y
  one_optional o None None h k = refl
  one_optional o None (Some y) h (d, e, r) = absurd (not_both o y h d e r)
  one_optional o (Some x) None (d, e, r) k = absurd (not_both o x k d e r)
  one_optional o (Some x) (Some y) (d, e, r) (f, i, s) = ap Some (one d x y r (subst (λ (d : Data). R d y) (one_value o f d i e) s))

abbrev meta_of : ℕ → ℕ → DeleteMeta
meta_of docs stamp = record { num_deleted_docs = docs; opstamp = stamp }

one_delete : (d : Data) (x y : DeleteMeta) → IsDeleteMeta d x → IsDeleteMeta d y → x ≡ y
one_delete d x y h k =
    ap₂ meta_of (one_value _ x.num_deleted_docs y.num_deleted_docs h.num_deleted_docs k.num_deleted_docs) (one_value _ x.opstamp y.opstamp h.opstamp k.opstamp)

null_deletes_none : (x : DeleteMeta) → IsDeleteMeta null x → ⊥
null_deletes_none x h = let bad : None ≡ Some x.opstamp = h.opstamp in cc

abbrev segment_of : ℕ → Option DeleteMeta → LiveSegment
segment_of docs deletes = record { max_doc = docs; deletes = deletes }

one_segment : (d : Data) (x y : Entry) → SpellsSegment d x → SpellsSegment d y → x ≡ y
one_segment d x y h k =
    let deletes : x.1.deletes ≡ y.1.deletes =
    one_optional IsDeleteMeta one_delete null_deletes_none (get (codes "deletes") d) x.1.deletes y.1.deletes h.deletes k.deletes in
    ap₂ (λ (id : List ℕ) (segment : LiveSegment). (id, segment)) (one_value _ x.0 y.0 h.segment_id k.segment_id)
    (ap₂ segment_of (one_value _ x.1.max_doc y.1.max_doc h.max_doc k.max_doc) deletes)

one_each : (items : Items) (xs ys : List Entry) → SpellEach items xs → SpellEach items ys → xs ≡ ys
one_each no_items [] [] h k = refl
one_each no_items [] (y ∷ ys) h k = absurd k
one_each no_items (x ∷ xs) ys h k = absurd h
one_each (item d items) [] ys h k = absurd h
one_each (item d items) (x ∷ xs) [] h k = absurd k
one_each (item d items) (x ∷ xs) (y ∷ ys) h k = ap₂ (λ (z : Entry) (zs : List Entry). z ∷ zs) (one_segment d x y h.0 k.0) (one_each items xs ys h.1 k.1)

-- ---- segments have one order

abbrev ids : List Entry → List (List ℕ)
ids xs = map (λ (e : Entry). e.0) xs

abbrev IsBelow : Entry → Entry → Type 0
IsBelow x y = byte_cmp x.0 y.0 ≡ Less

below_one : (x y : Entry) → IsBelow x y → IsBelow y x → ⊥
below_one x y p q =
    let back : byte_cmp y.0 x.0 ≡ Greater = nat_list_cmp_total.antisymm y.0 x.0 ∙ ap ordering_reverse p in
    let two : Less ≡ Greater = sym q ∙ back in cc

abbrev In : Entry → List Entry → Type 0
In z [] = ⊥
In z (x ∷ xs) = (z ≡ x) ⊎ In z xs

all_in : (x : Entry) (xs : List Entry) (z : Entry) → AllByRecursion (λ id. byte_cmp x.0 id ≡ Less) (ids xs) → In z xs → IsBelow x z
all_in x [] z h p = absurd p
all_in x (y ∷ xs) z h (inl e) = subst (IsBelow x) (sym e) h.0
all_in x (y ∷ xs) z h (inr p) = all_in x xs z h.1 p

contains_in : (xs : List Entry) (z : Entry) → In z xs → Contains xs z
contains_in [] z p = absurd p
contains_in (x ∷ xs) z (inl e) = (0, omega arith, sym e)
contains_in (x ∷ xs) z (inr p) = let c = contains_in xs z p in (suc c.0, omega (arith, c.1), c.2)

in_contains : (xs : List Entry) (z : Entry) → Contains xs z → In z xs
in_contains [] z c = absurd (omega (arith, c.1))
in_contains (x ∷ xs) z (zero, lt, is) = inl (sym is)
in_contains (x ∷ xs) z (suc k, lt, is) = inr (in_contains xs z (k, omega arith, is))

abbrev IsInOrder : List Entry → Type 0
IsInOrder xs = IsStrictlySortedBy byte_cmp (ids xs)

same_head : (x y : Entry) (xs ys : List Entry) → IsInOrder (x ∷ xs) → IsInOrder (y ∷ ys) → In x (y ∷ ys) → In y (x ∷ xs) → x ≡ y
unfolding IsStrictlySortedBy
same_head x y xs ys o u (inl e) q = e
same_head x y xs ys o u (inr p) (inl e) = sym e
same_head x y xs ys o u (inr p) (inr q) = absurd (below_one x y (all_in x xs y o.0 q) (all_in y ys x u.0 p))

later : (x y z : Entry) (xs ys : List Entry) → IsInOrder (x ∷ xs) → x ≡ y → In z xs → In z (y ∷ ys) → In z ys
unfolding IsStrictlySortedBy
later x y z xs ys o e p (inl f) =
    let up : IsBelow x z = all_in x xs z o.0 p in
    let itself : IsBelow x x = subst (IsBelow x) (f ∙ sym e) up in absurd (below_one x x itself itself)
later x y z xs ys o e p (inr q) = q

one_order : (xs ys : List Entry) → IsInOrder xs → IsInOrder ys → ((z : Entry) → In z xs → In z ys) → ((z : Entry) → In z ys → In z xs) → xs ≡ ys
unfolding IsStrictlySortedBy
one_order [] [] o u f g = refl
one_order [] (y ∷ ys) o u f g = absurd (g y (inl refl))
one_order (x ∷ xs) [] o u f g = absurd (f x (inl refl))
one_order (x ∷ xs) (y ∷ ys) o u f g =
    let e : x ≡ y = same_head x y xs ys o u (f x (inl refl)) (g y (inl refl)) in
    let rest : xs ≡ ys = one_order xs ys o.1 u.1 (λ z p. later x y z xs ys o e p (f z (inr p))) (λ z p. later y x z ys xs u (sym e) p (g z (inr p))) in
    ap₂ (λ (z : Entry) (zs : List Entry). z ∷ zs) e rest

-- two lists of the same segments, both in order, are one
pub one_permutation : (xs ys : List Entry) → IsStrictlySortedBy byte_cmp (map (λ (e : Entry). e.0) xs)
    → IsStrictlySortedBy byte_cmp (map (λ (e : Entry). e.0) ys) → IsPermutation xs ys → xs ≡ ys
one_permutation xs ys o u h =
    one_order xs ys o u (λ z p. in_contains ys z (Contains-permutation xs ys z h (contains_in xs z p)))
    (λ z p. in_contains xs z (Contains-permutation ys xs z (IsPermutation-sym xs ys h) (contains_in ys z p)))

one_segments : (items : Items) (xs ys : List Entry) → SpellSegments items xs → SpellSegments items ys → xs ≡ ys
one_segments items xs ys h k =
    let found : h.found ≡ k.found = one_each items h.found k.found h.each k.each in
    one_permutation xs ys h.ordered k.ordered
    (IsPermutation-trans xs h.found ys (IsPermutation-sym h.found xs h.same) (subst (λ (zs : List Entry). IsPermutation zs ys) (sym found) k.same))

-- ---- the whole

abbrev commit_of : ℕ → Option (List ℕ) → List Entry → Commit
commit_of opstamp payload segments = record { opstamp = opstamp; payload = payload; segments = segments }

same_commit : (x y : Commit) → x.opstamp ≡ y.opstamp → x.payload ≡ y.payload → x.segments ≡ y.segments → x ≡ y
same_commit x y opstamp payload segments =
    ap₂ (λ (n : ℕ) (o : Option (List ℕ)). commit_of n o x.segments) opstamp payload ∙ ap (commit_of y.opstamp y.payload) segments

one_payload : (d : Data) (x y : List ℕ) → (d ≡ string x) × IsUtf8 x → (d ≡ string y) × IsUtf8 y → x ≡ y
one_payload d x y h k = let both : string x ≡ string y = sym h.0 ∙ k.0 in cc

null_no_payload : (x : List ℕ) → (null ≡ string x) × IsUtf8 x → ⊥
null_no_payload x h = let bad : null ≡ string x = h.0 in cc

one_items : (x y : Items) → array x ≡ array y → x ≡ y
one_items x y e = cc

one_tree : (d : Data) (first second : Settings) (commit other : Commit) (t u : Data) → IsMetaTree d first commit t → IsMetaTree d second other u
    → (first ≡ second) × (commit ≡ other) × (t ≡ u)
one_tree d first second commit other t u h k =
    let items : h.items ≡ k.items = one_items h.items k.items (one_value _ (array h.items) (array k.items) h.list k.list) in (
      one_settings (get (codes "index_settings") d) first second h.settings_at k.settings_at,
      same_commit commit other (one_value _ commit.opstamp other.opstamp h.opstamp k.opstamp)
          (one_optional (λ d text. (d ≡ string text) × IsUtf8 text) one_payload null_no_payload
          (get (codes "payload") d) commit.payload other.payload h.payload k.payload)
          (one_segments h.items commit.segments other.segments h.segments (subst (λ (i : Items). SpellSegments i other.segments) (sym items) k.segments)),
      one_value _ t u h.schema_at k.schema_at,
    )

pub one_meaning : (bytes : List ℕ) (first second : Settings) (commit other : Commit) (t u : Data) → SpellsMeta bytes first commit t
    → SpellsMeta bytes second other u
    → (first ≡ second) × (commit ≡ other) × (t ≡ u)
one_meaning bytes first second commit other t u h k =
    let same : h.tree ≡ k.tree = one_value (read bytes) h.tree k.tree h.parsed k.parsed in
    one_tree h.tree first second commit other t u h.form (subst (λ (d : Data). IsMetaTree d second other u) (sym same) k.form)
