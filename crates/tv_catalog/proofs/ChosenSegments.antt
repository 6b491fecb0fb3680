-- The loop that chooses: the named live segments that pass a test, put into a map one after the other, are those that a filter of all live segments keeps.
use Rattle.std.proofs.Common.{◌≡◌, ℕ, ◌+◌, ◌<◌, Bool, true, false, cond, ◌&&◌, ◌||◌, nat_lt, List, [], ◌∷◌, length, map, take, get_or, Option, Some, None, refl, sym, ap, subst, ◌∙◌, true≢false, arith, if◌then◌else◌}
use Rattle.std.specs.List.{AllByRecursion, filter}
use Rattle.std.specs.List.Sorted.{IsStrictlySortedBy}
use Rattle.std.specs.declared.cmp.Ordering.TheVariants.{Less, Equal, Greater}
use Rattle.std.specs.Ordering.{is_eq}
use Rattle.std.specs.BTreeMap.{is_at, insert_entry}
use Rattle.std.proofs.lemmas.List.Folds.{list_any_more}
use Rattle.tv_formats.specs.declared.segment.LiveSegment.{LiveSegment}
use Rattle.tv_formats.specs.Names.{byte_cmp, is, has, at}
use Rattle.tv_formats.specs.Segments.{num_docs}
use Rattle.tv_formats.proofs.Entries.{text_at, same_at, is_by_order, below_all}
use Rattle.tv_catalog.specs.Choosing.{is_within, with_documents}

abbrev pub Entry : Type 0
Entry = List ℕ × LiveSegment

-- an id stands before those of all entries
abbrev pub IsBefore : List ℕ → List Entry → Type 0
IsBefore id es = AllByRecursion (λ k. byte_cmp id k ≡ Less) (map (λ e. e.0) es)

absent : (es : List Entry) (id : List ℕ) → IsBefore id es → at es id ≡ None
absent [] id h = refl
absent (e ∷ es) id h = ap (λ (b : Bool). cond b (Some e.1) (at es id)) (ap is_eq h.0) ∙ absent es id h.1

before_picked : (b : Bool) (e : Entry) (es : List Entry) (id : List ℕ) → byte_cmp id e.0 ≡ Less → IsBefore id es → IsBefore id (cond b (e ∷ es) es)
before_picked true e es id l h = (l, h)
before_picked false e es id l h = h

pub before_filtered : (p : Entry → Bool) (es : List Entry) (id : List ℕ) → IsBefore id es → IsBefore id (filter p es)
before_filtered p [] id h = tt
before_filtered p (e ∷ es) id h = before_picked (p e) e (filter p es) id h.0 (before_filtered p es id h.1)

put_first : (es : List Entry) (id : List ℕ) (segment : LiveSegment) → IsBefore id es → insert_entry byte_cmp es id segment ≡ (id, segment) ∷ es
put_first [] id segment h = refl
put_first (e ∷ es) id segment h = rw h.0 refl

module _ (test : LiveSegment → Bool) where
  -- a test that takes the entry of one id more, where its segment passes
  abbrev pub TakesOneMore : (p q : Entry → Bool) → List ℕ → Type 0
  TakesOneMore p q id = (e : Entry) → q e ≡ (p e || (is_at (byte_cmp id) e.0 && test e.1))

  elsewhere : (b at_id l : Bool) → at_id ≡ false → (b || (at_id && l)) ≡ b
  elsewhere true at_id l h = refl
  elsewhere false true l h = absurd cc
  elsewhere false false l h = refl

  same_filtered : (p q : Entry → Bool) (es : List Entry) (id : List ℕ) → IsBefore id es → TakesOneMore p q id → filter q es ≡ filter p es
  same_filtered p q [] id h more = refl
  same_filtered p q (e ∷ es) id h more =
      ap (λ (b : Bool). cond b (e ∷ filter q es) (filter q es)) (more e ∙ elsewhere (p e) (is_at (byte_cmp id) e.0) (test e.1) (ap is_eq h.0))
      ∙ ap (λ (fs : List Entry). cond (p e) (e ∷ fs) fs) (same_filtered p q es id h.1 more)

  put_here : (b l : Bool) (e : Entry) (fs : List Entry) (id : List ℕ) → byte_cmp id e.0 ≡ Equal → IsBefore id fs
      → cond l (insert_entry byte_cmp (cond b (e ∷ fs) fs) id e.1) (cond b (e ∷ fs) fs) ≡ cond (b || (true && l)) (e ∷ fs) fs
  put_here true true e fs id r h = rw r refl
  put_here true false e fs id r h = refl
  put_here false true e fs id r h = put_first fs id e.1 h ∙ ap (λ (k : List ℕ). (k, e.1) ∷ fs) (text_at id e.0 (ap is_eq r))
  put_here false false e fs id r h = refl

  put_after : (l : Bool) (e : Entry) (fs : List Entry) (id : List ℕ) (segment : LiveSegment) → byte_cmp id e.0 ≡ Greater
      → cond l (insert_entry byte_cmp (e ∷ fs) id segment) (e ∷ fs) ≡ e ∷ cond l (insert_entry byte_cmp fs id segment) fs
  put_after true e fs id segment r = rw r refl
  put_after false e fs id segment r = refl

  -- a segment, put in its place where it passes
  abbrev pub put_passing : List Entry → List ℕ → LiveSegment → List Entry
  put_passing segments id segment = if test segment then insert_entry byte_cmp segments id segment else segments

  -- a segment that was found
  abbrev with_found : List Entry → List ℕ → Option LiveSegment → List Entry
  with_found segments id None = segments
  with_found segments id (Some segment) = put_passing segments id segment

  put_further : (b : Bool) (e : Entry) (fs : List Entry) (id : List ℕ) (o : Option LiveSegment) → byte_cmp id e.0 ≡ Greater
      → with_found (cond b (e ∷ fs) fs) id o ≡ cond b (e ∷ with_found fs id o) (with_found fs id o)
  put_further false e fs id o r = refl
  put_further true e fs id None r = refl
  put_further true e fs id (Some segment) r = put_after (test segment) e fs id segment r

  -- one segment more, found in the sorted list
  one_more : (p q : Entry → Bool) (es : List Entry) (id : List ℕ) → IsStrictlySortedBy byte_cmp (map (λ e. e.0) es) → TakesOneMore p q id → with_found (filter p es) id (at es id) ≡ filter q es
  unfolding IsStrictlySortedBy
  one_more p q [] id o more = refl
  one_more p q (e ∷ es) id o more =
      elim (byte_cmp id e.0) as (λ r. byte_cmp id e.0 ≡ r → with_found (filter p (e ∷ es)) id (cond (is_eq r) (Some e.1) (at es id)) ≡ filter q (e ∷ es)) [
        | Less ↦ λ r.
            let before : IsBefore id es = below_all (map (λ (x : Entry). x.0) es) id e.0 r o.0 in
            ap (with_found (filter p (e ∷ es)) id) (absent es id before) ∙ sym (same_filtered p q (e ∷ es) id (r, before) more)
        | Equal ↦ λ r.
            let key : id ≡ e.0 = text_at id e.0 (ap is_eq r) in
            let before : IsBefore id es = subst (λ (k : List ℕ). IsBefore k es) (sym key) o.0 in
            put_here (p e) (test e.1) e (filter p es) id r (before_filtered p es id before)
            ∙ ap (λ (fs : List Entry). cond (p e || (true && test e.1)) (e ∷ fs) fs) (sym (same_filtered p q es id before more))
            ∙ ap (λ (b : Bool). cond b (e ∷ filter q es) (filter q es)) (ap (λ (b : Bool). p e || (b && test e.1)) (sym (ap is_eq r)) ∙ sym (more e))
        | Greater ↦ λ r.
            put_further (p e) e (filter p es) id (at es id) r
            ∙ ap (λ (fs : List Entry). cond (p e) (e ∷ fs) fs) (one_more p q es id o.1 more)
            ∙ ap (λ (b : Bool). cond b (e ∷ filter q es) (filter q es)) (sym (more e ∙ elsewhere (p e) (is_at (byte_cmp id) e.0) (test e.1) (ap is_eq r)))
      ] refl

  -- the live segments that are named and pass
  abbrev pub named_passing : List (List ℕ) → List Entry → List Entry
  named_passing ids es = filter (λ e. has ids e.0 && test e.1) es

  apart : (a b l : Bool) → ((a || b) && l) ≡ ((a && l) || (b && l))
  apart true true true = refl
  apart true true false = refl
  apart true false true = refl
  apart true false false = refl
  apart false b l = refl

  -- one name further in the loop
  pub chosen_further : (es : List Entry) (ids : List (List ℕ)) (i : ℕ) (id : List ℕ) (segment : LiveSegment) → IsStrictlySortedBy byte_cmp (map (λ e. e.0) es) → i < length ids → id ≡ get_or ids i id → at es id ≡ Some segment
      → put_passing (named_passing (take i ids) es) id segment ≡ named_passing (take (i + 1) ids) es
  chosen_further es ids i id segment o inside is_id found =
      ap (with_found (named_passing (take i ids) es) id) (sym found)
      ∙ one_more (λ e. has (take i ids) e.0 && test e.1) (λ e. has (take (i + 1) ids) e.0 && test e.1) es id o (λ e.
      let this : is (get_or ids i id) e.0 ≡ is_at (byte_cmp id) e.0 = ap (λ (k : List ℕ). is k e.0) (sym is_id) ∙ is_by_order e.0 id ∙ same_at e.0 id in
      let more : has (take (i + 1) ids) e.0 ≡ (has (take i ids) e.0 || is_at (byte_cmp id) e.0) = list_any_more (λ (k : List ℕ). is k e.0) ids i id inside ∙ ap (λ (b : Bool). has (take i ids) e.0 || b) this in
      ap (λ (b : Bool). b && test e.1) more ∙ apart (has (take i ids) e.0) (is_at (byte_cmp id) e.0) (test e.1))

  -- before the first name
  pub none_chosen : (es : List Entry) → named_passing [] es ≡ []
  none_chosen [] = refl
  none_chosen (e ∷ es) = none_chosen es

-- no more documents of a segment are deleted than there are, where some are living
living_within : (segment : LiveSegment) → nat_lt 0 (num_docs segment) ≡ true → is_within segment ≡ true
living_within segment living = grind (arith, living)

both : (named within living : Bool) (e : Entry) (fs gs : List Entry) → (living ≡ true → within ≡ true) → nat_lt 0 (num_docs e.1) ≡ living → with_documents fs ≡ gs
    → with_documents (cond (named && within) (e ∷ fs) fs) ≡ cond (named && living) (e ∷ gs) gs
both false within living e fs gs so is rest = rest
both true true true e fs gs so is rest = rw is (ap (λ (es : List Entry). e ∷ es) rest)
both true true false e fs gs so is rest = rw is rest
both true false true e fs gs so is rest = absurd (true≢false (sym (so refl)))
both true false false e fs gs so is rest = rest

-- those of the named ones that have living documents
pub living_named : (ids : List (List ℕ)) (es : List Entry) → with_documents (named_passing is_within ids es) ≡ filter (λ e. has ids e.0 && nat_lt 0 (num_docs e.1)) es
living_named ids [] = refl
living_named ids (e ∷ es) =
    both (has ids e.0) (is_within e.1) (nat_lt 0 (num_docs e.1)) e (named_passing is_within ids es) (filter (λ e. has ids e.0 && nat_lt 0 (num_docs e.1)) es)
    (living_within e.1) refl (living_named ids es)
