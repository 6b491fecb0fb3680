-- What a collection takes and spares, as lists of names.
use Rattle.std.proofs.Common.{◌≡◌, ℕ, Bool, true, false, true≢false, not, ◌&&◌, ◌||◌, cond, List, [], ◌∷◌, ◌++◌, map, filter, Option, None, sym, ap, arith, ◌∙◌, refl}
use Rattle.std.specs.List.{flat_map}
use Rattle.std.specs.BTreeMap.{is_at}
use Rattle.std.proofs.lemmas.List.Folds.{list_any-append}
use Rattle.std.proofs.lemmas.Map.Entries.{lookup-filter-keys}
use Rattle.std.proofs.lemmas.Map.Views.{any-filter_same}
use Rattle.std.proofs.lemmas.Bool.{or_right, or_left}
use Rattle.tv_formats.specs.declared.segment.DeleteMeta.{DeleteMeta}
use Rattle.tv_formats.specs.declared.segment.LiveSegment.{LiveSegment}
use Rattle.tv_formats.specs.declared.segment.SegmentComponent.TheVariants.{Postings, Positions, FastFields, FieldNorms, Terms, Store, Delete}
use Rattle.tv_formats.specs.Names.{byte_cmp, is, has, at}
use Rattle.tv_formats.specs.Segments.{components, name_of, required_names, all_required, segment_names}
use Rattle.tv_formats.specs.Collections.{done_of, without}
use Rattle.tv_formats.proofs.Entries.{is_text, text_at}

-- texts that are the same are among some others alike
same_has : (names : List (List ℕ)) (n m : List ℕ) → is m n ≡ true → not (has names m) ≡ not (has names n)
same_has names n m e = ap (λ (x : List ℕ). not (has names x)) (is_text m n e)

-- a name that isn't gone stays
pub has_without : (gone names : List (List ℕ)) (n : List ℕ) → has (without gone names) n ≡ (not (has gone n) && has names n)
has_without gone names n = any-filter_same (λ m. is m n) (λ m. not (has gone m)) (not (has gone n)) (λ m e. same_has gone n m e) names

-- and so does its entry
pub at_without : {X : Type 0} (gone : List (List ℕ)) (entries : List (List ℕ × X)) (n : List ℕ) → at (filter (λ e. not (has gone e.0)) entries) n ≡ cond (not (has gone n)) (at entries n) None
at_without gone entries n = lookup-filter-keys (is_at (byte_cmp n)) (λ m. not (has gone m)) (not (has gone n)) (λ m e. ap (λ (x : List ℕ). not (has gone x)) (sym (text_at n m e))) entries

-- what was done was tried
pub done_within : (names : List (List ℕ)) (outcomes : List Bool) (n : List ℕ) → has (done_of names outcomes) n ≡ true → has names n ≡ true
done_within [] outcomes n h = h
done_within (name ∷ names) [] n h = h
done_within (name ∷ names) (true ∷ outcomes) n h = grind (arith, done_within names outcomes n)
done_within (name ∷ names) (false ∷ outcomes) n h = or_right (is name n) _ (done_within names outcomes n h)

pub has_append : (names others : List (List ℕ)) (n : List ℕ) → has (names ++ others) n ≡ (has names n || has others n)
has_append names others n = list_any-append (λ m. is m n) names others

-- what is among some names is among them and others
pub has_front : (names others : List (List ℕ)) (n : List ℕ) → has names n ≡ true → has (names ++ others) n ≡ true
has_front names others n h = has_append names others n ∙ or_left (has names n) (has others n) h

-- the order of two tests before a third doesn't count
pub or_moved : (a b c : Bool) → ((a || b) || c) ≡ (b || (a || c))
or_moved true true c = refl
or_moved true false c = refl
or_moved false b c = refl

-- the required files are among those of their segment
required_among : (id : List ℕ) (deletes : Option DeleteMeta) (b : Bool) (n : List ℕ)
    → has (map (name_of id deletes) (Postings ∷ Positions ∷ FastFields ∷ FieldNorms ∷ Terms ∷ Store ∷ (cond b (Delete ∷ []) []))) n ≡ true → has (map (name_of id deletes) components) n ≡ true
required_among id deletes true n h = h
required_among id deletes false n h = grind arith

pub required_names_among : (e : List ℕ × LiveSegment) (n : List ℕ) → has (required_names e.0 e.1) n ≡ true → has (segment_names e) n ≡ true
required_names_among e n h = required_among e.0 e.1.deletes _ n h

pub required_of : (segments others : List (List ℕ × LiveSegment)) (n : List ℕ) → has (all_required segments) n ≡ true → has (flat_map segment_names (segments ++ others)) n ≡ true
required_of [] others n h = absurd (true≢false (sym h))
required_of (e ∷ segments) others n h =
    grind (arith, has_append (segment_names e) (flat_map segment_names (segments ++ others)) n, has_append (required_names e.0 e.1) (all_required segments) n, required_names_among e n, required_of segments others n)
