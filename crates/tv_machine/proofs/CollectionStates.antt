-- What a collection takes and spares, and what a file is after its segment was released.
use Rattle.std.proofs.Common.{◌≡◌, ℕ, Bool, true, false, true≢false, not, ◌&&◌, ◌||◌, cond, List, [], ◌∷◌, ◌++◌, Some, refl, sym, ap, ◌∙◌, arith}
use Rattle.std.specs.Prelude.{option_map}
use Rattle.std.specs.BTreeMap.{is_at}
use Rattle.std.proofs.lemmas.Bool.{false_from_ne_true, or_right}
use Rattle.tv_formats.specs.Names.{byte_cmp, is, has, meta_name, at}
use Rattle.tv_formats.specs.Segments.{all_required}
use Rattle.tv_formats.specs.Collections.{done_of, held}
use Rattle.tv_machine.specs.Living.{is_busy, living}
use Rattle.tv_machine.specs.State.{State, FileState}
use Rattle.tv_machine.specs.CollectionEvents.{collected, collection_begun, garbage, gc_begin_step, gc_step, left, with_left}
use Rattle.tv_formats.proofs.Entries.{text_at}
use Rattle.tv_formats.proofs.CollectedNames.{has_without, has_append, done_within, required_of}

-- where the meta lock is free, a collection isn't refused
pub gc_free : (s : State) (outcomes : List Bool) → is_busy s.catalog ≡ false → gc_step s outcomes ≡ collected s outcomes
gc_free s outcomes free = rw free refl

pub gc_begin_free : (s : State) → is_busy s.catalog ≡ false → gc_begin_step s ≡ collection_begun s
gc_begin_free s free = rw free refl

-- a name that a collection takes is managed, isn't needed, and isn't held by another one
pub garbage_is : (s : State) (n : List ℕ) → has (garbage s) n ≡ (not (has (living s.catalog) n || has (held s.collections) n) && has s.managed n)
garbage_is s n = has_without (living s.catalog ++ held s.collections) s.managed n ∙ ap (λ (b : Bool). not b && has s.managed n) (has_append (living s.catalog) (held s.collections) n)

-- nothing that is needed is taken
pub living_spared : (s : State) (outcomes : List Bool) (n : List ℕ) → has (living s.catalog) n ≡ true → has (done_of (garbage s) outcomes) n ≡ false
living_spared s outcomes n h =
    false_from_ne_true _ (λ e. true≢false (sym (done_within (garbage s) outcomes n e) ∙ garbage_is s n ∙ grind (arith, h)))

-- `meta.json` is needed
pub meta_living : (s : State) → has (living s.catalog) meta_name ≡ true
meta_living s = refl

-- the required files of the commit are needed
pub required_living : (s : State) (n : List ℕ) → has (all_required s.catalog.commit.segments) n ≡ true → has (living s.catalog) n ≡ true
required_living s n h = or_right (is meta_name n) _ (required_of s.catalog.commit.segments s.catalog.live n h)

-- what stands at a name after the open files among some names were left
pub at_left : (names : List (List ℕ)) (files : List (List ℕ × FileState)) (n : List ℕ) → at (with_left names files) n ≡ option_map (λ f. cond (has names n) (left f) f) (at files n)
at_left names [] n = refl
at_left names (e ∷ files) n =
    elim (is_at (byte_cmp n) e.0) as (λ b. is_at (byte_cmp n) e.0 ≡ b → cond b (Some (cond (has names e.0) (left e.1) e.1)) (at (with_left names files) n) ≡ option_map (λ f. cond (has names n) (left f) f) (cond b (Some e.1) (at files n))) [
      | true ↦ λ k. ap (λ (m : List ℕ). Some (cond (has names m) (left e.1) e.1)) (sym (text_at n e.0 k))
      | false ↦ λ k. at_left names files n
    ] refl
