-- One part that joins those of a field.
use Rattle.std.proofs.Common.{◌≡◌, ℕ, zero, suc, ◌+◌, ◌-◌, List, [], ◌∷◌, ◌++◌, length, get_or, max, replicate, inl, inr, Option, Some, None, refl, sym, ap, ◌∙◌, arith, length-append, length-set}
use Rattle.std.proofs.lemmas.Bool.{cases_eq}
use Rattle.std.proofs.lemmas.Grind.{get_or-set_at}
use Rattle.std.proofs.lemmas.List.{ext_get_or, get_or-set_other, length-replicate}
use Rattle.std.proofs.lemmas.List.FromFn.{get_or-map-range_with_len, length-map-range_with_len}
use Rattle.tv_base.specs.declared.byte_count.ByteCount.{ByteCount}
use Rattle.tv_framing.specs.declared.column_usage.ColumnSpaceUsage.{ColumnSpaceUsage}
use Rattle.tv_framing.specs.Usage.{together}
use Rattle.tv_framing.specs.Fields.{FieldSpace, part_alone, up_to, with_joined, with_part}
use Rattle.tv_framing.specs.PerField.{joined, joined_columns, joined_parts}

-- indexes that are added are without a part
pub none_added : (ps : List (Option ByteCount)) (n i : ℕ) → get_or (ps ++ replicate n None) i None ≡ get_or ps i None
none_added [] zero i = refl
none_added [] (suc n) zero = refl
none_added [] (suc n) (suc i) = none_added [] n i
none_added (p ∷ ps) n zero = refl
none_added (p ∷ ps) n (suc i) = none_added ps n i

together_none : (a : Option ByteCount) → together a None ≡ a
together_none None = refl
together_none (Some a) = refl

column_none : (a : Option ColumnSpaceUsage) → joined_columns a None ≡ a
column_none None = refl
column_none (Some a) = refl

up_to_length : (ps : List (Option ByteCount)) (idx : ℕ) → length (up_to idx ps) ≡ length ps + (idx + 1 - length ps)
up_to_length ps idx =
    omega (arith, length-append ps (replicate (idx + 1 - length ps) None), length-replicate {A = Option ByteCount} (idx + 1 - length ps) None)

each_part : (ps : List (Option ByteCount)) (idx i : ℕ) (size : ByteCount) → together (get_or ps i None) (get_or (with_part idx size []) i None) ≡ get_or (with_joined idx size ps) i None
each_part ps idx i size = elim (cases_eq i idx) [
  | inl same ↦ ap (together (get_or ps i None)) (get_or-set_at (up_to idx []) idx i (Some size) None same (omega (arith, up_to_length [] idx)))
      ∙ ap (λ k. together (get_or ps k None) (Some size)) same
      ∙ sym (get_or-set_at (up_to idx ps) idx i (together (get_or ps idx None) (Some size)) None same (omega (arith, up_to_length ps idx)))
  | inr other ↦ ap (together (get_or ps i None)) (get_or-set_other (up_to idx []) idx i (Some size) None other ∙ none_added [] (idx + 1 - 0) i)
      ∙ together_none (get_or ps i None)
      ∙ sym (get_or-set_other (up_to idx ps) idx i (together (get_or ps idx None) (Some size)) None other ∙ none_added ps (idx + 1 - length ps) i)
]

parts_joined : (ps : List (Option ByteCount)) (idx : ℕ) (size : ByteCount) → joined_parts ps (with_part idx size []) ≡ with_joined idx size ps
parts_joined ps idx size =
    let one = with_part idx size [] in
    let f : ℕ → Option ByteCount = λ i. together (get_or ps i None) (get_or (with_part idx size []) i None) in
    let n = max (length ps) (length (with_part idx size [])) in
    let long = length-map-range_with_len f 0 n in
    let same : length (joined_parts ps (with_part idx size [])) ≡ length (with_joined idx size ps) =
    omega (arith, long, length-set (up_to idx []) idx (Some size), up_to_length [] idx, length-set (up_to idx ps) idx (together (get_or ps idx None) (Some size)), up_to_length ps idx) in
    ext_get_or None (joined_parts ps one) (with_joined idx size ps) same
    (λ i lt. get_or-map-range_with_len f 0 n i i None (omega (arith, long, lt)) (omega arith) ∙ each_part ps idx i size)

-- joining a field that has one part alone
pub joined_alone : (one : FieldSpace) (name : List ℕ) (idx : ℕ) (size : ByteCount) → record one { parts = with_joined idx size one.parts } ≡ joined one (part_alone name idx size)
joined_alone one name idx size =
    ap (λ ps. record one { parts = ps }) (sym (parts_joined one.parts idx size))
    ∙ ap (λ c. let field : FieldSpace = record { name = one.name; parts = joined_parts one.parts (with_part idx size []); column = c } in field) (sym (column_none one.column))
