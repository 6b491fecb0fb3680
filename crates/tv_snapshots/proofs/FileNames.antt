-- The names of the files of segments, gathered one after the other.
use Rattle.std.proofs.Common.{◌≡◌, ℕ, Bool, true, false, cond, not, ◌&&◌, nat_lt, List, [], ◌∷◌, map, Option, refl, sym, ap, subst, ◌∙◌}
use Rattle.std.specs.List.{filter, flat_map}
use Rattle.std.proofs.lemmas.List.Folds.{flat_map-map}
use Rattle.tv_formats.specs.declared.segment.DeleteMeta.{DeleteMeta}
use Rattle.tv_formats.specs.declared.segment.LiveSegment.{LiveSegment}
use Rattle.tv_formats.specs.declared.segment.SegmentComponent.{SegmentComponent}
use Rattle.tv_formats.specs.declared.segment.SegmentComponent.TheVariants.{Postings, Positions, FastFields, FieldNorms, Terms, Store, Delete}
use Rattle.tv_machine.specs.FileEvents.{lacks_deletes}
use Rattle.tv_formats.specs.Ids.{IsId}
use Rattle.tv_machine.specs.Index.{IsFileOf}
use Rattle.tv_formats.specs.Segments.{all_required, components, is_delete, name_of, num_deleted, required_names}
use Rattle.tv_machine.proofs.Required.{name_is_file}

-- ---- the name of a file

-- the name of a segment's file is one
pub named_file : (id name : List ℕ) (deletes : Option DeleteMeta) (component : SegmentComponent) → IsId id → name ≡ name_of id deletes component → IsFileOf name
named_file id name deletes component h is = subst IsFileOf (sym is) (name_is_file id deletes component h)

-- ---- the names that have to be sealed

-- whether a segment requires a component
abbrev pub requires_component : LiveSegment → SegmentComponent → Bool
requires_component segment component = not (lacks_deletes segment component)

-- the names of the components of a list that a segment requires
abbrev pub required_in : List ℕ → LiveSegment → List SegmentComponent → List (List ℕ)
required_in id segment components = map (name_of id segment.deletes) (filter (requires_component segment) components)

-- of all components these are required
pub required_of_all : (id : List ℕ) (segment : LiveSegment) → required_in id segment components ≡ required_names id segment
required_of_all id segment =
    elim (nat_lt 0 (num_deleted segment.deletes)) as (λ b. map (name_of id segment.deletes) (filter (λ component. not (is_delete component && not b)) components)
    ≡ map (name_of id segment.deletes) (Postings ∷ Positions ∷ FastFields ∷ FieldNorms ∷ Terms ∷ Store ∷ cond b (Delete ∷ []) [])) [ true ↦ refl | false ↦ refl ]

-- the names that a loop over the segments has put together
pub all_gathered : {A : Type 0} (names : List (List ℕ)) (id_of : A → List ℕ) (segment_of : A → LiveSegment) (xs : List A) (segments : List (List ℕ × LiveSegment))
    → names ≡ flat_map (λ e. required_names (id_of e) (segment_of e)) xs → map (λ e. (id_of e, segment_of e)) xs ≡ segments → names ≡ all_required segments
all_gathered names id_of segment_of xs segments so_far all =
    so_far ∙ sym (flat_map-map (λ e. required_names e.0 e.1) (λ e. (id_of e, segment_of e)) xs) ∙ ap all_required all
