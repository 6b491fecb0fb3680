-- What stands at an id of a register into which segments come and out of which they go.
use Rattle.std.proofs.Common.{◌≡◌, ◌||◌, ◌<◌, ℕ, suc, Bool, true, false, not, cond, List, [], ◌∷◌, Option, Some, None, All, refl, ap, sym, subst, ◌∙◌, arith, map, true≢false}
use Rattle.std.specs.Prelude.{Contains, filter, is_some}
use Rattle.std.specs.Cmp.Lexicographic.{texts_ties}
use Rattle.std.specs.Ordering.{is_eq}
use Rattle.std.proofs.lemmas.List.Elements.{All-map, filter_passes}
use Rattle.tv_formats.specs.Names.{at, byte_cmp, has, is}
use Rattle.tv_formats.specs.Segments.{num_docs}
use Rattle.tv_formats.proofs.Entries.{at_itself, is_text, isnt_text, lookup_put, same_at}
use Rattle.tv_metas.specs.Tracked.{Share}
use Rattle.tv_registers.specs.declared.segments_status.SegmentsStatus.{SegmentsStatus}
use Rattle.tv_registers.specs.declared.segments_status.SegmentsStatus.TheVariants.{Committed, Uncommitted}
use Rattle.tv_registers.specs.Managers.{CountedBoth, ManagerState, merge, register_of, with_register}
use Rattle.tv_registers.specs.Registers.{Counted, EntryState, Register, id_of, is_living, living_in, metas_in, put, replaced, with_each, with_entry, without_each, without_id}

module _ (id : List ℕ) where
  -- what goes out isn't there
  left_none : (register : Register) → at (filter (λ e. not (is id e.0)) register) id ≡ None
  left_none [] = refl
  left_none (e ∷ register) = by (is_eq (byte_cmp id e.0)) refl (texts_ties id e.0) (left_none register)
    where
      by : (b : Bool) → is_eq (byte_cmp id e.0) ≡ b → is id e.0 ≡ b → at (filter (λ f. not (is id f.0)) register) id ≡ None → at (filter (λ f. not (is id f.0)) (e ∷ register)) id ≡ None
      by true p same rest = rw same rest
      by false p other rest = rw (other, p) rest

  -- what isn't there doesn't come by what goes out
  pub stays_none : (gone : List ℕ) (register : Register) → at register id ≡ None → at (filter (λ e. not (is gone e.0)) register) id ≡ None
  stays_none gone [] none = refl
  stays_none gone (e ∷ register) none = by (is gone e.0) (is_eq (byte_cmp id e.0)) refl none (stays_none gone register)
    where
      by : (a b : Bool) → is_eq (byte_cmp id e.0) ≡ b → cond b (Some e.1) (at register id) ≡ None → (at register id ≡ None → at (filter (λ f. not (is gone f.0)) register) id ≡ None)
          → at (cond (not a) (e ∷ filter (λ f. not (is gone f.0)) register) (filter (λ f. not (is gone f.0)) register)) id ≡ None
      by a true p none rest = absurd cc
      by true false p none rest = rest none
      by false false p none rest = rw p (rest none)

  -- nor does what goes out for another id touch it
  pub stays_there : (gone : List ℕ) → is gone id ≡ false → (register : Register) → at (filter (λ e. not (is gone e.0)) register) id ≡ at register id
  stays_there gone apart [] = refl
  stays_there gone apart (e ∷ register) = by (is gone e.0) (is_eq (byte_cmp id e.0)) refl refl (stays_there gone apart register)
    where
      by : (a b : Bool) → is gone e.0 ≡ a → is_eq (byte_cmp id e.0) ≡ b → at (filter (λ f. not (is gone f.0)) register) id ≡ at register id
          → at (cond (not a) (e ∷ filter (λ f. not (is gone f.0)) register) (filter (λ f. not (is gone f.0)) register)) id ≡ cond b (Some e.1) (at register id)
      by true true p q rest =
          let one : gone ≡ e.0 = is_text gone e.0 p in
          let other : id ≡ e.0 = is_text id e.0 (texts_ties id e.0 ∙ q) in
          absurd (isnt_text gone id apart (other ∙ sym one))
      by true false p q rest = rest
      by false true p q rest = rw q refl
      by false false p q rest = rw q rest

  pub none_left : (ids : List (List ℕ)) (c : Counted) → at c.0 id ≡ None → at (without_each ids c).0 id ≡ None
  none_left [] c none = none
  none_left (gone ∷ ids) c none = none_left ids (without_id gone c) (stays_none gone c.0 none)

  -- none of these ids is left
  pub each_gone : (ids : List (List ℕ)) (c : Counted) → has ids id ≡ true → at (without_each ids c).0 id ≡ None
  each_gone [] c there = absurd cc
  each_gone (gone ∷ ids) c there = by (is gone id) refl there (each_gone ids (without_id gone c))
    where
      by : (b : Bool) → is gone id ≡ b → (b || has ids id) ≡ true → (has ids id ≡ true → at (without_each ids (without_id gone c)).0 id ≡ None) → at (without_each ids (without_id gone c)).0 id ≡ None
      by true same there rest =
          let one : gone ≡ id = is_text gone id same in
          none_left ids (without_id gone c) (subst (λ (g : List ℕ). at (filter (λ e. not (is g e.0)) c.0) id ≡ None) (sym one) (left_none c.0))
      by false other there rest = rest there

  -- what other ids leave
  pub others_left : (ids : List (List ℕ)) (c : Counted) → has ids id ≡ false → at (without_each ids c).0 id ≡ at c.0 id
  others_left [] c apart = refl
  others_left (gone ∷ ids) c apart =
      let both = parts (is gone id) (has ids id) apart in
      others_left ids (without_id gone c) both.1 ∙ stays_there gone both.0 c.0
    where
      parts : (a b : Bool) → (a || b) ≡ false → (a ≡ false) × (b ≡ false)
      parts true b h = absurd cc
      parts false b h = (refl, h)

  -- an id that is no other one's stays among those that aren't it
  pub still_had : (stays : List ℕ) (ids : List (List ℕ)) → is stays id ≡ false → has ids id ≡ true → has (filter (λ other. not (is stays other)) ids) id ≡ true
  still_had stays [] apart there = there
  still_had stays (other ∷ ids) apart there = by (is stays other) (is other id) refl refl there (still_had stays ids apart)
    where
      by : (a b : Bool) → is stays other ≡ a → is other id ≡ b → (b || has ids id) ≡ true → (has ids id ≡ true → has (filter (λ k. not (is stays k)) ids) id ≡ true)
          → has (cond (not a) (other ∷ filter (λ k. not (is stays k)) ids) (filter (λ k. not (is stays k)) ids)) id ≡ true
      by true true p q h rest = absurd (isnt_text stays id apart (sym (is_text other id q) ∙ sym (is_text stays other p)))
      by true false p q h rest = rest h
      by false true p q h rest = rw q refl
      by false false p q h rest = rw q (rest h)

-- an id isn't among those that aren't it
pub not_had : (id : List ℕ) (ids : List (List ℕ)) → has (filter (λ other. not (is id other)) ids) id ≡ false
not_had id [] = refl
not_had id (other ∷ ids) = by (is id other) refl (not_had id ids)
  where
    by : (a : Bool) → is id other ≡ a → has (filter (λ k. not (is id k)) ids) id ≡ false → has (cond (not a) (other ∷ filter (λ k. not (is id k)) ids) (filter (λ k. not (is id k)) ids)) id ≡ false
    by true p rest = rest
    by false p rest = rw (texts_ties other id ∙ same_at other id ∙ sym (texts_ties id other) ∙ p) rest

-- what was put stands at its id
pub put_there : (entry : EntryState) (register : Register) → at (put entry register) (id_of entry) ≡ Some entry
put_there entry register =
    lookup_put register (id_of entry) (id_of entry) entry ∙ ap (λ (b : Bool). cond b (Some entry) (at register (id_of entry))) (at_itself (id_of entry))

-- the ids of those that were put, and of those that were there
pub put_ids : (entries : List EntryState) (c : Counted) (id : List ℕ) → is_some (at (with_each entries c).0 id) ≡ (has (map id_of entries) id || is_some (at c.0 id))
put_ids [] c id = refl
put_ids (entry ∷ entries) c id =
    put_ids entries (with_entry entry c) id
    ∙ ap (λ (o : Option EntryState). has (map id_of entries) id || is_some o) (lookup_put c.0 (id_of entry) id entry)
    ∙ by (is_eq (byte_cmp (id_of entry) id)) (has (map id_of entries) id) (at c.0 id) (texts_ties (id_of entry) id)
  where
    by : (a b : Bool) (o : Option EntryState) → is (id_of entry) id ≡ a → (b || is_some (cond a (Some entry) o)) ≡ ((is (id_of entry) id || b) || is_some o)
    by a b o same = rw same (chosen a b o)
      where
        chosen : (x y : Bool) (p : Option EntryState) → (y || is_some (cond x (Some entry) p)) ≡ ((x || y) || is_some p)
        chosen true true p = refl
        chosen true false p = refl
        chosen false y p = refl

-- ---- living documents

pub all_living : (register : Register) → All (λ (m : Share). 0 < num_docs m.1.1) (metas_in (living_in register))
all_living register =
    All-map (λ (m : Share). 0 < num_docs m.1.1) (λ e. e.1.meta) (living_in register)
    (λ k d lt. grind (arith, filter_passes (λ (e : List ℕ × EntryState). is_living e.1) register k d lt))

further : {X : Type 0} (x y : X) (xs : List X) → Contains xs x → Contains (y ∷ xs) x
further x y xs (k, lt, same) = (suc k, grind (arith, lt), same)

pub living_there : (register : Register) (id : List ℕ) (entry : EntryState) → at register id ≡ Some entry → is_living entry ≡ true → Contains (metas_in (living_in register)) entry.meta
living_there [] id entry there alive = absurd cc
living_there (e ∷ register) id entry there alive = by (is_eq (byte_cmp id e.0)) (is_living e.1) refl there (λ h. living_there register id entry h alive)
  where
    by : (a b : Bool) → is_living e.1 ≡ b → cond a (Some e.1) (at register id) ≡ Some entry → (at register id ≡ Some entry → Contains (metas_in (living_in register)) entry.meta)
        → Contains (metas_in (cond b (e ∷ living_in register) (living_in register))) entry.meta
    by true true q there rest =
        let one : e.1 ≡ entry = cc in
        (0, grind arith, ap (λ (f : EntryState). f.meta) one)
    by true false q there rest =
        let one : e.1 ≡ entry = cc in
        absurd (true≢false (sym alive ∙ sym (ap is_living one) ∙ q))
    by false true q there rest = further entry.meta e.1.meta (metas_in (living_in register)) (rest there)
    by false false q there rest = rest there

-- ---- a merge that ended

register_set : (status : SegmentsStatus) (register : Register) (m : ManagerState) → register_of status (with_register status register m) ≡ register
register_set Committed register m = refl
register_set Uncommitted register m = refl

-- the register in which it ended
pub merged_in : (status : SegmentsStatus) (ids : List (List ℕ)) (after : Option EntryState) (b new : CountedBoth) → new ≡ merge status ids after b
    → register_of status new.0 ≡ (replaced ids after (register_of status b.0, b.1)).0
merged_in status ids after b new is =
    ap (λ (n : CountedBoth). register_of status n.0) is ∙ register_set status (replaced ids after (register_of status b.0, b.1)).0 b.0
