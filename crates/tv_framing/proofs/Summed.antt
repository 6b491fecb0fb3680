-- Facts on totals of usages that are gathered by name.
use Rattle.std.proofs.Common.{◌≡◌, ℕ, zero, suc, ◌+◌, List, [], ◌∷◌, length, take, get_or, map, fold, sum_by, inl, inr, Option, Some, None, refl, sym, ap, subst, ◌∙◌, arith}
use Rattle.std.specs.List.{range_with_len}
use Rattle.std.specs.declared.cmp.Ordering.{Ordering}
use Rattle.std.specs.declared.cmp.Ordering.TheVariants.{Less, Equal, Greater}
use Rattle.std.specs.Ordering.{match_ordering}
use Rattle.std.proofs.lemmas.Bool.{cases_lt}
use Rattle.std.proofs.lemmas.List.{get_or_past, take_all}
use Rattle.std.proofs.lemmas.List.FromFn.{sum_by-map-range_with_len_more}
use Rattle.std.proofs.lemmas.List.Sums.{sum_by-cons, sum_by_more}
use Rattle.tv_formats.specs.Names.{byte_cmp}
use Rattle.tv_base.specs.declared.byte_count.ByteCount.{ByteCount}
use Rattle.tv_framing.specs.declared.column_usage.ColumnSpaceUsage.{ColumnSpaceUsage}
use Rattle.tv_framing.specs.Usage.{bytes_of, capped, together}
use Rattle.tv_framing.specs.Fields.{FieldSpace, column_bytes, field_sum}
use Rattle.tv_framing.specs.PerField.{fields_sum, joined, joined_columns, joined_parts}
use Rattle.tv_framing.specs.Places.{by_name, with_field}

-- ---- one usage with another

together_sum : (a b : Option ByteCount) → capped (bytes_of (together a b)) ≡ capped (bytes_of a + bytes_of b)
together_sum None b = omega arith
together_sum (Some a) None = omega arith
together_sum (Some a) (Some b) = omega arith

one_part : (ps : List (Option ByteCount)) (n : ℕ) → sum_by bytes_of (take (n + 1) ps) ≡ sum_by bytes_of (take n ps) + bytes_of (get_or ps n None)
one_part ps n = elim (cases_lt n (length ps)) [
  | inl lt ↦ sum_by_more bytes_of ps n None lt
  | inr le ↦ omega (arith, ap (sum_by bytes_of) (take_all (n + 1) ps (omega (arith, le)) ∙ sym (take_all n ps le)), ap bytes_of (get_or_past ps n None le))
]

parts_to : (ps qs : List (Option ByteCount)) (n : ℕ) → capped (sum_by bytes_of (map (λ i. together (get_or ps i None) (get_or qs i None)) (range_with_len 0 n))) ≡ capped (sum_by bytes_of (take n ps) + sum_by bytes_of (take n qs))
parts_to ps qs zero = refl
parts_to ps qs (suc n) =
    let e : n + 1 ≡ suc n = omega arith in
    let more = sum_by-map-range_with_len_more bytes_of (λ i. together (get_or ps i None) (get_or qs i None)) 0 n n (omega arith) in
    subst (λ k. capped (sum_by bytes_of (map (λ i. together (get_or ps i None) (get_or qs i None)) (range_with_len 0 k))) ≡ capped (sum_by bytes_of (take k ps) + sum_by bytes_of (take k qs))) e
    (omega (arith, more, parts_to ps qs n, together_sum (get_or ps n None) (get_or qs n None), one_part ps n, one_part qs n))

parts_sum : (ps qs : List (Option ByteCount)) → capped (sum_by bytes_of (joined_parts ps qs)) ≡ capped (sum_by bytes_of ps + sum_by bytes_of qs)
parts_sum ps qs =
    grind (arith, parts_to, take_all)

columns_sum : (a b : Option ColumnSpaceUsage) → capped (column_bytes (joined_columns a b)) ≡ capped (column_bytes a + column_bytes b)
columns_sum None b = omega arith
columns_sum (Some a) None = omega arith
columns_sum (Some a) (Some b) = omega (arith, together_sum a.dictionary b.dictionary)

joined_sum : (f g : FieldSpace) → capped (field_sum (joined f g)) ≡ capped (field_sum f + field_sum g)
joined_sum f g = omega (arith, parts_sum f.parts g.parts, columns_sum f.column g.column)

-- ---- all of them

with_by : (f g : FieldSpace) (gs : List FieldSpace) (c : Ordering) → capped (fields_sum (with_field gs f)) ≡ capped (fields_sum gs + field_sum f)
    → capped (fields_sum (match_ordering c (f ∷ g ∷ gs) (joined g f ∷ gs) (g ∷ with_field gs f))) ≡ capped (fields_sum (g ∷ gs) + field_sum f)
with_by f g gs Less ih = omega (arith, sum_by-cons field_sum f (g ∷ gs), sum_by-cons field_sum g gs)
with_by f g gs Equal ih = omega (arith, joined_sum g f, sum_by-cons field_sum (joined g f) gs, sum_by-cons field_sum g gs)
with_by f g gs Greater ih = omega (arith, ih, sum_by-cons field_sum g (with_field gs f), sum_by-cons field_sum g gs)

with_sum : (f : FieldSpace) (fs : List FieldSpace) → capped (fields_sum (with_field fs f)) ≡ capped (fields_sum fs + field_sum f)
with_sum f [] = omega (arith, sum_by-cons field_sum f [])
with_sum f (g ∷ gs) = with_by f g gs (byte_cmp f.name g.name) (with_sum f gs)

rest_sum : (given fs : List FieldSpace) → capped (fields_sum (fold with_field fs given)) ≡ capped (fields_sum fs + fields_sum given)
rest_sum [] fs = omega arith
rest_sum (f ∷ given) fs = omega (arith, rest_sum given (with_field fs f), with_sum f fs, sum_by-cons field_sum f given)

-- the total of the usages by name is the sum of those that were given
pub same_total : (given : List FieldSpace) → capped (fields_sum (by_name given)) ≡ capped (fields_sum given)
same_total given = omega (arith, rest_sum given [])
