-- Facts on reports of a composite file.
use Rattle.std.proofs.Common.{◌≡◌, ◌<◌, ◌≤◌, ◌+◌, ◌-◌, ℕ, Bool, true, Option, None, Some, List, [], ◌∷◌, ◌++◌, length, drop, get_or, nat_le, nat_lt, replicate, slice_range, sum_by, refl, sym, ap, ◌∙◌, arith, append_assoc, length-drop}
use Rattle.std.proofs.lemmas.List.{length-take-le, length-replicate, length-append}
use Rattle.std.proofs.lemmas.List.Folds.{sum_by-replicate}
use Rattle.std.proofs.lemmas.List.Sums.{sum_by-cons, sum_by-set}
use Rattle.std.specs.List.{list_all}
use Rattle.std.proofs.lemmas.Bool.{and_parts}
use Rattle.tv_base.specs.declared.byte_count.ByteCount.{ByteCount}
use Rattle.tv_framing.specs.declared.address.FileAddr.{FileAddr}
use Rattle.tv_framing.specs.declared.starts.Start.{Start}
use Rattle.tv_framing.specs.Composite.{Part, bodies}
use Rattle.tv_framing.specs.Fields.{FieldSpace, field_sum, part_alone, with_part}
use Rattle.tv_framing.specs.PerField.{fields_sum}
use Rattle.tv_framing.specs.Usage.{bytes_of}
use Rattle.tv_framing.specs.Reports.{usage_of, usages}
use Rattle.tv_framing.specs.Starts.{Ascend, next_start, parts_of, start_addresses}
use Rattle.tv_framing.proofs.Joining.{none_added}
use Rattle.tv_framing.proofs.Parts.{later_ascend, range_inside}

-- so many bodies were added
pub record IsReporting (names : List (List ℕ)) (starts : List Start) (n i end : ℕ) (so_far : List FieldSpace) : Type 0 where
  pub from : ℕ
  pub ascend : Ascend from (drop i starts) end
  pub below : list_all (λ (a : FileAddr). nat_lt a.field n) (start_addresses (drop i starts)) ≡ true
  pub small : list_all (λ (a : FileAddr). nat_le a.idx 65535) (start_addresses (drop i starts)) ≡ true
  pub made : (bytes : List ℕ) → length bytes ≡ end → so_far ++ usages names (parts_of bytes (drop i starts)) ≡ usages names (parts_of bytes starts)

all_rest : (p : FileAddr → Bool) (starts : List Start) (i : ℕ) (s : Start) → drop i starts ≡ s ∷ drop (i + 1) starts → list_all p (start_addresses (drop i starts)) ≡ true → (p s.addr ≡ true) × (list_all p (start_addresses (drop (i + 1) starts)) ≡ true)
all_rest p starts i s front h =
    and_parts (p s.addr) (list_all p (start_addresses (drop (i + 1) starts))) (ap (λ (l : List Start). list_all p (start_addresses l)) (sym front) ∙ h)

-- the numbers of the start that comes next
pub next_fits : (names : List (List ℕ)) (starts : List Start) (n i end : ℕ) (so_far : List FieldSpace) (s : Start) → IsReporting names starts n i end so_far → drop i starts ≡ s ∷ drop (i + 1) starts → (s.addr.field < n) × (s.addr.idx ≤ 65535)
next_fits names starts n i end so_far s r front =
    grind (arith, all_rest)

pub reports_on : (names : List (List ℕ)) (starts : List Start) (n i end to : ℕ) (so_far now : List FieldSpace) (s : Start) → IsReporting names starts n i end so_far → drop i starts ≡ s ∷ drop (i + 1) starts → to ≡ next_start end (drop (i + 1) starts)
    → now ≡ so_far ++ part_alone (get_or names s.addr.field []) s.addr.idx (record { 0 = to - s.offset }) ∷ [] → IsReporting names starts n (i + 1) end now
reports_on names starts n i end to so_far now s r front to_is now_is =
    let inside = range_inside starts i r.from end to s front r.ascend to_is in record {
      from = s.offset;
      ascend = later_ascend starts i r.from end s front r.ascend;
      below = (all_rest (λ (a : FileAddr). nat_lt a.field n) starts i s front r.below).1;
      small = (all_rest (λ (a : FileAddr). nat_le a.idx 65535) starts i s front r.small).1;
      made = λ bytes e.
          let stop : next_start (length bytes) (drop (i + 1) starts) ≡ to = ap (λ k. next_start k (drop (i + 1) starts)) e ∙ sym to_is in
          let long : length (slice_range bytes s.offset (next_start (length bytes) (drop (i + 1) starts))) ≡ to - s.offset =
          ap (λ k. length (slice_range bytes s.offset k)) stop ∙ length-take-le (to - s.offset) (drop s.offset bytes) (omega (arith, length-drop s.offset bytes, e, inside.1)) in
          ap (λ (l : List FieldSpace). l ++ usages names (parts_of bytes (drop (i + 1) starts))) (now_is ∙ ap (λ k. so_far ++ part_alone (get_or names s.addr.field []) s.addr.idx (record { 0 = k }) ∷ []) (sym long))
          ∙ append_assoc so_far (usage_of names (record { addr = s.addr; body = slice_range bytes s.offset (next_start (length bytes) (drop (i + 1) starts)) }) ∷ []) (usages names (parts_of bytes (drop (i + 1) starts)))
          ∙ ap (λ (l : List Start). so_far ++ usages names (parts_of bytes l)) (sym front)
          ∙ r.made bytes e;
    }

-- ---- the total

one_part : (idx : ℕ) (size : ByteCount) → sum_by bytes_of (with_part idx size []) ≡ size.0
one_part idx size =
    let long : length (replicate {A = Option ByteCount} (idx + 1 - 0) None) ≡ idx + 1 - 0 = length-replicate (idx + 1 - 0) None in
    let inside : idx < length (replicate {A = Option ByteCount} (idx + 1 - 0) None) = omega (arith, long) in
    omega (arith, sum_by-set bytes_of (replicate (idx + 1 - 0) None) idx (Some size) None inside, ap bytes_of (none_added [] (idx + 1 - 0) idx), sum_by-replicate bytes_of (idx + 1 - 0) None)

pub usages_sum : (names : List (List ℕ)) (parts : List Part) → fields_sum (usages names parts) ≡ length (bodies parts)
usages_sum names [] = refl
usages_sum names (part ∷ parts) =
    omega (arith, sum_by-cons field_sum (usage_of names part) (usages names parts), one_part part.addr.idx (record { 0 = length part.body }), length-append part.body (bodies parts), usages_sum names parts)
