-- The files of a live segment are needed.
use Rattle.std.proofs.Common.{◌≡◌, ℕ, true, false, cond, List, [], ◌∷◌, ◌++◌, Some, refl, sym, subst, ◌∙◌, arith}
use Rattle.std.specs.List.{flat_map}
use Rattle.std.specs.Map.{lookup}
use Rattle.std.specs.BTreeMap.{is_at}
use Rattle.std.proofs.lemmas.Bool.{or_right}
use Rattle.tv_formats.specs.declared.segment.LiveSegment.{LiveSegment}
use Rattle.tv_formats.specs.declared.segment.SegmentComponent.{SegmentComponent}
use Rattle.tv_formats.specs.Names.{byte_cmp, is, has, meta_name}
use Rattle.tv_formats.specs.Segments.{name_of, segment_names}
use Rattle.tv_machine.specs.Living.{living}
use Rattle.tv_machine.specs.State.{State, live_at}
use Rattle.tv_formats.proofs.CollectedNames.{has_append}
use Rattle.tv_formats.proofs.Entries.{text_at}
use Rattle.tv_machine.proofs.HeldStates.{name_among}

-- the names of a segment that is found are among those of all
found_named : (es : List (List ℕ × LiveSegment)) (id n : List ℕ) (segment : LiveSegment) → lookup (is_at (byte_cmp id)) es ≡ Some segment → has (segment_names (id, segment)) n ≡ true → has (flat_map segment_names es) n ≡ true
found_named [] id n segment e h = absurd cc
found_named (x ∷ es) id n segment e h =
    elim (is_at (byte_cmp id) x.0) as (λ b. is_at (byte_cmp id) x.0 ≡ b → cond b (Some x.1) (lookup (is_at (byte_cmp id)) es) ≡ Some segment → has (segment_names x ++ flat_map segment_names es) n ≡ true) [
      | true ↦ λ is k.
          let one : x.1 ≡ segment = cc in
          let here : has (segment_names x) n ≡ true = subst (λ (i : List ℕ). has (segment_names (i, x.1)) n ≡ true) (text_at id x.0 is) (subst (λ (s : LiveSegment). has (segment_names (id, s)) n ≡ true) (sym one) h) in
          grind (arith, has_append (segment_names x) (flat_map segment_names es) n, here)
      | false ↦ λ is k. has_append (segment_names x) (flat_map segment_names es) n ∙ or_right (has (segment_names x) n) _ (found_named es id n segment k h)
    ] refl e

-- so are those of segments behind some others
behind : (first es : List (List ℕ × LiveSegment)) (n : List ℕ) → has (flat_map segment_names es) n ≡ true → has (flat_map segment_names (first ++ es)) n ≡ true
behind [] es n h = h
behind (x ∷ first) es n h = has_append (segment_names x) (flat_map segment_names (first ++ es)) n ∙ or_right (has (segment_names x) n) _ (behind first es n h)

pub living_name : (s : State) (id : List ℕ) (segment : LiveSegment) (component : SegmentComponent) → live_at s.catalog id ≡ Some segment → has (living s.catalog) (name_of id segment.deletes component) ≡ true
living_name s id segment component there =
    or_right (is meta_name (name_of id segment.deletes component)) _
    (behind s.catalog.commit.segments s.catalog.live (name_of id segment.deletes component)
    (found_named s.catalog.live id (name_of id segment.deletes component) segment there (name_among id segment.deletes component)))
