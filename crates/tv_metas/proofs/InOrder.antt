-- Entries in the order of their ids: where one goes.
use Rattle.std.proofs.Common.{◌≡◌, ℕ, Bool, false, cond, List, [], ◌∷◌, ◌++◌, map, Some, None, refl, sym, ap, ◌∙◌, subst}
use Rattle.std.specs.Prelude.{IsPermutation}
use Rattle.std.specs.declared.cmp.Ordering.TheVariants.{Less, Equal, Greater}
use Rattle.std.specs.BTreeMap.{is_at, insert_entry}
use Rattle.std.specs.BTreeSet.{insert_key}
use Rattle.std.specs.Cmp.{eq_by_cmp_equiv}
use Rattle.std.specs.Cmp.Lexicographic.{nat_list_cmp_total}
use Rattle.std.specs.List.{AllByRecursion, IsDistinct}
use Rattle.std.specs.List.Sorted.{IsStrictlySortedBy}
use Rattle.std.specs.Ordering.{eq_by_cmp, is_eq, match_ordering}
use Rattle.std.proofs.lemmas.List.Sorted.{IsPermutation-refl, IsPermutation-sym, IsPermutation-trans, IsPermutation-cons, IsPermutation-middle, IsPermutation-map}
use Rattle.std.proofs.lemmas.Map.Keys.{IsDistinct-from_sorted, IsDistinct-head, IsDistinct-tail, IsDistinct-IsPermutation}
use Rattle.tv_formats.specs.declared.segment.LiveSegment.{LiveSegment}
use Rattle.tv_formats.specs.Names.{byte_cmp, at}
use Rattle.tv_formats.proofs.Entries.{same_at, sorted_put}

abbrev pub Entry : Type 0
Entry = List ℕ × LiveSegment

abbrev pub ids : List Entry → List (List ℕ)
ids es = map (λ e. e.0) es

abbrev pub InIdOrder : List Entry → Type 0
InIdOrder es = IsStrictlySortedBy byte_cmp (ids es)

-- ---- an entry is put to its place

ids_put : (es : List Entry) (id : List ℕ) (segment : LiveSegment) → ids (insert_entry byte_cmp es id segment) ≡ insert_key byte_cmp (ids es) id
ids_put [] id segment = refl
ids_put (e ∷ es) id segment =
    elim (byte_cmp id e.0) as (λ r. ids (match_ordering r ((id, segment) ∷ e ∷ es) ((e.0, segment) ∷ es)
    (e ∷ insert_entry byte_cmp es id segment)) ≡ match_ordering r (id ∷ e.0 ∷ ids es) (e.0 ∷ ids es) (e.0 ∷ insert_key byte_cmp (ids es) id)) [
      | Less ↦ refl
      | Equal ↦ refl
      | Greater ↦ ap (λ (l : List (List ℕ)). e.0 ∷ l) (ids_put es id segment)
    ]

pub in_order_put : (es : List Entry) (id : List ℕ) (segment : LiveSegment) → InIdOrder es → InIdOrder (insert_entry byte_cmp es id segment)
in_order_put es id segment o = subst (IsStrictlySortedBy byte_cmp) (sym (ids_put es id segment)) (sorted_put (ids es) id o)

pub put_among : (es : List Entry) (id : List ℕ) (segment : LiveSegment) → at es id ≡ None
    → IsPermutation ((id, segment) ∷ es) (insert_entry byte_cmp es id segment)
put_among [] id segment none = IsPermutation-refl ((id, segment) ∷ [])
put_among (e ∷ es) id segment none =
    elim (byte_cmp id e.0) as (λ r. byte_cmp id e.0 ≡ r → IsPermutation ((id, segment) ∷ e ∷ es)
    (match_ordering r ((id, segment) ∷ e ∷ es) ((e.0, segment) ∷ es) (e ∷ insert_entry byte_cmp es id segment))) [
      | Less ↦ λ r. IsPermutation-refl ((id, segment) ∷ e ∷ es)
      | Equal ↦ λ r. (let two : Some e.1 ≡ None = ap (λ (b : Bool). cond b (Some e.1) (at es id)) (sym (ap is_eq r)) ∙ none in absurd cc)
      | Greater ↦ λ r.
          let later : at es id ≡ None = ap (λ (b : Bool). cond b (Some e.1) (at es id)) (sym (ap is_eq r)) ∙ none in
          IsPermutation-trans ((id, segment) ∷ e ∷ es) (e ∷ (id, segment) ∷ es) (e ∷ insert_entry byte_cmp es id segment)
          (IsPermutation-sym (e ∷ (id, segment) ∷ es) ((id, segment) ∷ e ∷ es) (IsPermutation-middle (e ∷ []) (id, segment) es))
          (IsPermutation-cons e ((id, segment) ∷ es) (insert_entry byte_cmp es id segment) (put_among es id segment later))
    ] refl

-- ---- an id that stands once isn't among the others

at_middle : (P : List ℕ → Type 0) (es : List Entry) (e : Entry) (fs : List Entry) → AllByRecursion P (ids (es ++ e ∷ fs)) → P e.0
at_middle P [] e fs h = h.0
at_middle P (x ∷ es) e fs h = at_middle P es e fs h.1

absent : (es : List Entry) (e : Entry) (fs : List Entry) → IsDistinct (eq_by_cmp byte_cmp) (ids (es ++ e ∷ fs)) → at es e.0 ≡ None
absent [] e fs d = refl
absent (x ∷ es) e fs d =
    let apart : eq_by_cmp byte_cmp x.0 e.0 ≡ false = at_middle (λ y. eq_by_cmp byte_cmp x.0 y ≡ false) es e fs
    (IsDistinct-head (eq_by_cmp byte_cmp) x.0 (ids (es ++ e ∷ fs)) d) in
    let other : is_at (byte_cmp e.0) x.0 ≡ false = same_at e.0 x.0 ∙ apart in
    ap (λ (b : Bool). cond b (Some x.1) (at es e.0)) other ∙ absent es e fs (IsDistinct-tail (eq_by_cmp byte_cmp) x.0 (ids (es ++ e ∷ fs)) d)

pub stands_once : (es : List Entry) (e : Entry) (fs all : List Entry) → IsPermutation (es ++ e ∷ fs) all → InIdOrder all → at es e.0 ≡ None
stands_once es e fs all p o =
    let of_ids : IsPermutation (ids (es ++ e ∷ fs)) (ids all) = IsPermutation-map (λ (x : Entry). x.0) (es ++ e ∷ fs) all p in
    absent es e fs (IsDistinct-IsPermutation (eq_by_cmp byte_cmp) (eq_by_cmp_equiv nat_list_cmp_total).symm (ids all) (ids (es ++ e ∷ fs))
    (IsPermutation-sym (ids (es ++ e ∷ fs)) (ids all) of_ids) (IsDistinct-from_sorted byte_cmp (ids all) o))
