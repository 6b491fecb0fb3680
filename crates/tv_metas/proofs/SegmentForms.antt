-- The segments that are read of a list are those that it spells.
use Rattle.std.proofs.Common.{◌≡◌, ◌⊎◌, inl, inr, ℕ, ◌≤◌, true, false, cond, List, [], ◌∷◌, ◌++◌, codes, Option, Some, None, is_some, option_map, refl, sym, ap, ◌∙◌, subst, arith, append-nil}
use Rattle.std.specs.Prelude.{IsPermutation, nat_le}
use Rattle.std.specs.BTreeMap.{insert_entry}
use Rattle.std.specs.List.Sorted.{IsStrictlySortedBy}
use Rattle.std.proofs.lemmas.Bool.Decides.{nat_tests}
use Rattle.std.proofs.lemmas.List.Sorted.{IsPermutation-refl, IsPermutation-sym, IsPermutation-trans, IsPermutation-middle, IsPermutation-append_left}
use Rattle.serde_json.specs.Data.{Data, null, boolean, number, string, array, object, Items, no_items, item}
use Rattle.serde_json.specs.Find.{get, as_null}
use Rattle.tv_formats.specs.declared.segment.DeleteMeta.{DeleteMeta}
use Rattle.tv_formats.specs.declared.segment.LiveSegment.{LiveSegment}
use Rattle.tv_formats.specs.Names.{byte_cmp, at}
use Rattle.tv_formats.specs.JsonFields.{field, u32_of, u64_of, id_of, IsOptional}
use Rattle.tv_formats.specs.MetaJson.{IsDeleteMeta, SpellsSegment, SpellEach, SpellSegments}
use Rattle.tv_formats.specs.Segments.{num_deleted}
use Rattle.tv_formats.proofs.OneMeaning.{one_permutation}
use Rattle.tv_formats.proofs.Options.{and_then_some, where_some}
use Rattle.tv_metas.specs.Segments.{unless_null, optional, delete_meta_of, if_within, segment_of, gathered}
use Rattle.tv_metas.proofs.Options.{map_some, and_then_is, unless_some}
use Rattle.tv_metas.proofs.InOrder.{Entry, InIdOrder, in_order_put, put_among, stands_once}

-- ---- a field that may be left out

null_or_not : (d : Data) → (d ≡ null) ⊎ (is_some (as_null d) ≡ false)
null_or_not null = inl refl
null_or_not (boolean b) = inr refl
null_or_not (number n) = inr refl
null_or_not (string s) = inr refl
null_or_not (array ds) = inr refl
null_or_not (object ms) = inr refl

module _ {A : Type 0} (f : Data → Option A) (R : Data → A → Type 0) where
  present_to : ((d : Data) (a : A) → f d ≡ Some a → R d a) → (d : Data) (x : Option A) → option_map Some (f d) ≡ Some x → IsOptional R (Some d) x
  present_to conv d None h = let m = map_some Some (f d) None h in cc
  present_to conv d (Some a) h =
      let m = map_some Some (f d) (Some a) h in
      let e : m.0 ≡ a = cc in (d, refl, conv d a (m.1 ∙ ap Some e))

  null_to : (x : Option A) → Some None ≡ Some x → IsOptional R (Some null) x
  null_to None h = inr refl
  null_to (Some a) h = cc

  missing_to : (x : Option A) → Some None ≡ Some x → IsOptional R None x
  missing_to None h = inl refl
  missing_to (Some a) h = cc

  pub optional_to : ((d : Data) (a : A) → f d ≡ Some a → R d a) → (o : Option Data) (x : Option A) → optional f o ≡ Some x → IsOptional R o x
  optional_to conv None x h = missing_to x h
  optional_to conv (Some d) x h =
      elim (null_or_not d) [
        | inl e ↦ subst (λ (d : Data). IsOptional R (Some d) x) (sym e) (null_to x (subst (λ (d : Data). unless_null f d ≡ Some x) e h))
        | inr n ↦ present_to conv d x (ap (λ b. cond b (Some None) (option_map Some (f d))) (sym n) ∙ h)
      ]

  pub optional_back : ((d : Data) (a : A) → R d a → f d ≡ Some a) → f null ≡ None → (o : Option Data) (x : Option A) → IsOptional R o x → optional f o ≡ Some x
  optional_back conv none o None (inl e) = ap (optional f) e
  optional_back conv none o None (inr e) = ap (optional f) e
  optional_back conv none o (Some a) (d, e, r) =
      let read : f d ≡ Some a = conv d a r in
      ap (optional f) e
      ∙ elim (null_or_not d) [
        | inl n ↦ (let two : None ≡ Some a = sym none ∙ ap f (sym n) ∙ read in cc)
        | inr n ↦ ap (λ b. cond b (Some None) (option_map Some (f d))) n ∙ ap (option_map Some) read
      ]

-- ---- a segment

delete_to : (d : Data) (meta : DeleteMeta) → delete_meta_of d ≡ Some meta → IsDeleteMeta d meta
delete_to d meta h =
    let a = and_then_some _ (field u32_of (codes "num_deleted_docs") d) meta h in
    let b = map_some _ (field u64_of (codes "opstamp") d) meta a.2 in
    record {
      num_deleted_docs = a.1 ∙ ap (λ (x : DeleteMeta). Some x.num_deleted_docs) b.2;
      opstamp = b.1 ∙ ap (λ (x : DeleteMeta). Some x.opstamp) b.2;
    }

delete_back : (d : Data) (meta : DeleteMeta) → IsDeleteMeta d meta → delete_meta_of d ≡ Some meta
delete_back d meta h =
    and_then_is _ (field u32_of (codes "num_deleted_docs") d) meta.num_deleted_docs (Some meta) h.num_deleted_docs
    (ap (λ (o : Option ℕ). option_map (λ n. record { num_deleted_docs = meta.num_deleted_docs; opstamp = n }) o) h.opstamp)

at_most : (n m : ℕ) → nat_le n m ≡ true → n ≤ m
at_most n m h = grind (arith, nat_tests)

is_at_most : (n m : ℕ) → n ≤ m → nat_le n m ≡ true
is_at_most n m h = grind (arith, nat_tests)

segment_to : (d : Data) (e : Entry) → segment_of d ≡ Some e → SpellsSegment d e
segment_to d e h =
    let a = and_then_some _ (field id_of (codes "segment_id") d) e h in
    let b = and_then_some _ (field u32_of (codes "max_doc") d) e a.2 in
    let c = and_then_some (if_within a.0 b.0) (optional delete_meta_of (get (codes "deletes") d)) e b.2 in
    let g = where_some (nat_le (num_deleted c.0) b.0) (Some (a.0, record { max_doc = b.0; deletes = c.0 })) e c.2 in
    let same : (a.0, record { max_doc = b.0; deletes = c.0 }) ≡ e = cc in
    record {
      segment_id = a.1 ∙ ap (λ (x : Entry). Some x.0) same;
      max_doc = b.1 ∙ ap (λ (x : Entry). Some x.1.max_doc) same;
      deletes = optional_to delete_meta_of IsDeleteMeta delete_to (get (codes "deletes") d) e.1.deletes (c.1 ∙ ap (λ (x : Entry). Some x.1.deletes) same);
      within = subst (λ (x : Entry). num_deleted x.1.deletes ≤ x.1.max_doc) same (at_most (num_deleted c.0) b.0 g.0);
    }

segment_back : (d : Data) (e : Entry) → SpellsSegment d e → segment_of d ≡ Some e
segment_back d e h =
    and_then_is _ (field id_of (codes "segment_id") d) e.0 (Some e) h.segment_id
    (and_then_is _ (field u32_of (codes "max_doc") d) e.1.max_doc (Some e) h.max_doc
    (and_then_is (if_within e.0 e.1.max_doc) (optional delete_meta_of (get (codes "deletes") d)) e.1.deletes (Some e)
    (optional_back delete_meta_of IsDeleteMeta delete_back refl (get (codes "deletes") d) e.1.deletes h.deletes)
    (ap (λ b. cond b (Some e) None) (is_at_most (num_deleted e.1.deletes) e.1.max_doc h.within))))

-- ---- the segments

pub record Gathers (found : List Entry) (ds : Items) (all : List Entry) : Type 0 where
  pub new : List Entry
  pub each : SpellEach ds new
  pub same : IsPermutation (found ++ new) all
  pub ordered : InIdOrder all

not_there : {A : Type 0} (o : Option A) → is_some o ≡ false → o ≡ None
not_there None h = refl
not_there (Some x) h = cc

-- one more, put before the rest
pub moved : (found new : List Entry) (e : Entry) → at found e.0 ≡ None → IsPermutation (found ++ e ∷ new) (insert_entry byte_cmp found e.0 e.1 ++ new)
moved found new e none =
    IsPermutation-trans (found ++ e ∷ new) (e ∷ (found ++ new)) (insert_entry byte_cmp found e.0 e.1 ++ new) (IsPermutation-middle found e new)
    (IsPermutation-append_left new (e ∷ found) (insert_entry byte_cmp found e.0 e.1) (put_among found e.0 e.1 none))

gathered_to : (ds : Items) (found all : List Entry) → InIdOrder found → gathered found ds ≡ Some all → Gathers found ds all
gathered_to no_items found all o h =
    let e : found ≡ all = cc in
    record {
      new = [];
      each = tt;
      same = subst (λ (l : List Entry). IsPermutation l all) (sym (append-nil found)) (subst (IsPermutation found) e (IsPermutation-refl found));
      ordered = subst InIdOrder e o;
    }
gathered_to (item d ds) found all o h =
    let a = and_then_some _ (segment_of d) all h in
    let u = unless_some (is_some (at found a.0.0)) (gathered (insert_entry byte_cmp found a.0.0 a.0.1) ds) all a.2 in
    let rest = gathered_to ds (insert_entry byte_cmp found a.0.0 a.0.1) all (in_order_put found a.0.0 a.0.1 o) u.1 in
    record {
      new = a.0 ∷ rest.new;
      each = (segment_to d a.0 a.1, rest.each);
      same = IsPermutation-trans (found ++ a.0 ∷ rest.new) (insert_entry byte_cmp found a.0.0 a.0.1 ++ rest.new) all
          (moved found rest.new a.0 (not_there (at found a.0.0) u.0)) rest.same;
      ordered = rest.ordered;
    }

gathered_back : (ds : Items) (found new all : List Entry) → InIdOrder found → SpellEach ds new → IsPermutation (found ++ new) all → InIdOrder all
    → gathered found ds ≡ Some all
gathered_back no_items found [] all o each h u = ap Some (one_permutation found all o u (subst (λ (l : List Entry). IsPermutation l all) (append-nil found) h))
gathered_back no_items found (e ∷ new) all o each h u = absurd each
gathered_back (item d ds) found [] all o each h u = absurd each
gathered_back (item d ds) found (e ∷ new) all o each h u =
    let none = stands_once found e new all h u in
    and_then_is _ (segment_of d) e (Some all) (segment_back d e each.0)
    (ap (λ (x : Option LiveSegment). cond (is_some x) None (gathered (insert_entry byte_cmp found e.0 e.1) ds)) none
    ∙ gathered_back ds (insert_entry byte_cmp found e.0 e.1) new all (in_order_put found e.0 e.1 o) each.1
    (IsPermutation-trans (insert_entry byte_cmp found e.0 e.1 ++ new) (found ++ e ∷ new) all
    (IsPermutation-sym (found ++ e ∷ new) (insert_entry byte_cmp found e.0 e.1 ++ new) (moved found new e none)) h) u)

pub no_order : InIdOrder []
unfolding IsStrictlySortedBy
no_order = tt

pub segments_to : (ds : Items) (all : List Entry) → gathered [] ds ≡ Some all → SpellSegments ds all
segments_to ds all h = let g = gathered_to ds [] all no_order h in record { found = g.new; each = g.each; same = g.same; ordered = g.ordered }

pub segments_back : (ds : Items) (all : List Entry) → SpellSegments ds all → gathered [] ds ≡ Some all
segments_back ds all h = gathered_back ds [] h.found all no_order h.each h.same h.ordered
