-- Segments that go out of a register.
use Rattle.std.proofs.Common.{◌≡◌, ℕ, Bool, true, false, not, cond, List, [], ◌∷◌, Option, Some, None, refl, ap, sym, subst, ◌∙◌, map}
use Rattle.std.specs.Prelude.{filter}
use Rattle.std.specs.BTreeMap.{is_at}
use Rattle.std.specs.Cmp.Lexicographic.{texts_ties}
use Rattle.std.specs.List.{AllByRecursion}
use Rattle.std.specs.List.Sorted.{IsStrictlySortedBy}
use Rattle.std.specs.Map.{remove_entry}
use Rattle.std.specs.Ordering.{is_eq}
use Rattle.std.specs.declared.cmp.Ordering.TheVariants.{Less}
use Rattle.tv_formats.specs.Names.{at, byte_cmp, is}
use Rattle.tv_formats.proofs.Entries.{at_itself, is_by_order, is_itself}
use Rattle.tv_base.specs.Entries.{released}
use Rattle.tv_metas.specs.Tracked.{KeptMetas}
use Rattle.tv_registers.specs.Registers.{Counted, EntryState, Register, empty_in, given_back, is_living, living_in, ticket_of, tickets_in, without_each, without_id}
use Rattle.tv_registers.specs.Sharing.{releases}

-- what is below all ids isn't there
pub below_none : {X : Type 0} (es : List (List ℕ × X)) (id : List ℕ) → AllByRecursion (λ other. byte_cmp id other ≡ Less) (map (λ e. e.0) es) → at es id ≡ None
below_none [] id h = refl
below_none {X} (e ∷ es) id h = ap (λ r. cond (is_eq r) (Some e.1) (at es id)) h.0 ∙ below_none es id h.1

-- where nothing has the id, nothing goes out
pub keeps_none : {X : Type 0} (es : List (List ℕ × X)) (id : List ℕ) → at es id ≡ None → filter (λ e. not (is id e.0)) es ≡ es
keeps_none [] id none = refl
keeps_none {X} (e ∷ es) id none = by (is_eq (byte_cmp id e.0)) (texts_ties id e.0) none (keeps_none es id)
  where
    by : (b : Bool) → is id e.0 ≡ b → cond b (Some e.1) (at es id) ≡ None → (at es id ≡ None → filter (λ f. not (is id f.0)) es ≡ es)
        → filter (λ f. not (is id f.0)) (e ∷ es) ≡ e ∷ es
    by true same none rest = absurd cc
    by false other none rest = rw other (ap (λ (fs : List (List ℕ × X)). e ∷ fs) (rest none))

-- what a map does that takes out an entry
pub removed : {X : Type 0} (es : List (List ℕ × X)) (id : List ℕ) → at (remove_entry (is_at (byte_cmp id)) es) id ≡ None
    → remove_entry (is_at (byte_cmp id)) es ≡ filter (λ e. not (is id e.0)) es
removed [] id none = refl
removed {X} (e ∷ es) id none = by (is_eq (byte_cmp id e.0)) refl (texts_ties id e.0) none (removed es id)
  where
    by : (b : Bool) → is_eq (byte_cmp id e.0) ≡ b → is id e.0 ≡ b → at (cond b es (e ∷ remove_entry (is_at (byte_cmp id)) es)) id ≡ None
        → (at (remove_entry (is_at (byte_cmp id)) es) id ≡ None → remove_entry (is_at (byte_cmp id)) es ≡ filter (λ f. not (is id f.0)) es)
        → cond b es (e ∷ remove_entry (is_at (byte_cmp id)) es) ≡ filter (λ f. not (is id f.0)) (e ∷ es)
    by true p same none rest = rw same (sym (keeps_none es id none))
    by false p other none rest =
        rw other (ap (λ (fs : List (List ℕ × X)). e ∷ fs)
        (rest (sym (ap (λ (b : Bool). cond b (Some e.1) (at (remove_entry (is_at (byte_cmp id)) es) id)) p) ∙ none)))

-- what a map does that takes out the segment of an id, whose share is given back
pub went_out : (old new : Register) (id : List ℕ) (o : Option EntryState) (kept left : KeptMetas) → new ≡ remove_entry (is_at (byte_cmp id)) old → at new id ≡ None → o ≡ at old id
    → left ≡ given_back o kept → ◌≡◌ {A = Counted} (new, left) (without_id id (old, kept))
went_out old new id o kept left cut none found back =
    let gone : new ≡ filter (λ e. not (is id e.0)) old = cut ∙ removed old id (subst (λ (r : Register). at r id ≡ None) cut none) in
    let given : left ≡ given_back (at old id) kept = back ∙ ap (λ (p : Option EntryState). given_back p kept) found in
    λ k. (gone k, given k)

-- others go out behind one that stays
stays : (e : List ℕ × EntryState) (ids : List (List ℕ)) (es : Register) (kept : KeptMetas) → AllByRecursion (λ id. is id e.0 ≡ false) ids
    → without_each ids (e ∷ es, kept) ≡ (e ∷ (without_each ids (es, kept)).0, (without_each ids (es, kept)).1)
stays e [] es kept h = refl
stays e (id ∷ ids) es kept h =
    let no : is_eq (byte_cmp id e.0) ≡ false = sym (texts_ties id e.0) ∙ h.0 in
    let left : Register = filter (λ f. not (is id f.0)) es in
    ap (λ (b : Bool). without_each ids (cond (not b) (e ∷ left) left, given_back (cond (is_eq (byte_cmp id e.0)) (Some e.1) (at es id)) kept)) h.0
    ∙ ap (λ (b : Bool). without_each ids (e ∷ left, given_back (cond b (Some e.1) (at es id)) kept)) no
    ∙ stays e ids left (given_back (at es id) kept) h.1

-- those without living documents have other ids than one that stands before them
other_ids : (es : Register) (id : List ℕ) → AllByRecursion (λ other. byte_cmp id other ≡ Less) (map (λ e. e.0) es)
    → AllByRecursion (λ other. is other id ≡ false) (map (λ e. e.0) (empty_in es))
other_ids [] id h = tt
other_ids (e ∷ es) id h = by (is_living e.1) (other_ids es id h.1)
  where
    by : (b : Bool) → AllByRecursion (λ other. is other id ≡ false) (map (λ f. f.0) (empty_in es))
        → AllByRecursion (λ other. is other id ≡ false) (map (λ f. f.0) (cond (not b) (e ∷ empty_in es) (empty_in es)))
    by true rest = rest
    by false rest = (is_by_order id e.0 ∙ ap is_eq h.0, rest)

-- those without living documents go out
pub emptied_of : (es : Register) (kept : KeptMetas) → IsStrictlySortedBy byte_cmp (map (λ e. e.0) es)
    → without_each (map (λ e. e.0) (empty_in es)) (es, kept) ≡ (living_in es, releases (tickets_in (empty_in es)) kept)
unfolding IsStrictlySortedBy
emptied_of [] kept sorted = refl
emptied_of (e ∷ es) kept sorted =
    let ids = map (λ f. f.0) (empty_in es) in
    elim (is_living e.1) as (λ b. without_each (map (λ f. f.0) (cond (not b) (e ∷ empty_in es) (empty_in es))) (e ∷ es, kept)
    ≡ (cond b (e ∷ living_in es) (living_in es), releases (tickets_in (cond (not b) (e ∷ empty_in es) (empty_in es))) kept)) [
      | true ↦ stays e ids es kept (other_ids es e.0 sorted.0) ∙ ap (λ (c : Counted). (e ∷ c.0, c.1)) (emptied_of es kept sorted.1)
      | false ↦
          let left : Register = filter (λ f. not (is e.0 f.0)) es in
          let same : left ≡ es = keeps_none es e.0 (below_none es e.0 sorted.0) in
          ap (λ (b : Bool). without_each ids (cond (not b) (e ∷ left) left, given_back (cond (is_eq (byte_cmp e.0 e.0)) (Some e.1) (at es e.0)) kept)) (is_itself e.0)
          ∙ ap (λ (b : Bool). without_each ids (left, given_back (cond b (Some e.1) (at es e.0)) kept)) (at_itself e.0)
          ∙ ap (λ (fs : Register). without_each ids (fs, released (ticket_of e.1) kept)) same
          ∙ emptied_of es (released (ticket_of e.1) kept) sorted.1
    ]
