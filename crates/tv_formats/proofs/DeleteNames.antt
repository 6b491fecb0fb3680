-- The name of a delete file tells its number, and no other file of a segment has such a name.
use Rattle.std.proofs.Common.{◌≡◌, ℕ, ◌^◌, ◌<◌, ◌==◌, Bool, true, false, true≢false, not, List, [], ◌∷◌, ◌++◌, codes, Option, refl, sym, ap, subst, ◌∙◌, arith}
use Rattle.std.specs.List.{list_all}
use Rattle.std.specs.Fmt.{decimal}
use Rattle.std.proofs.lemmas.Bool.{and_parts}
use Rattle.std.proofs.lemmas.Bool.Decides.{nat_tests}
use Rattle.std.proofs.lemmas.Fmt.{decimal_injective}
use Rattle.std.proofs.lemmas.List.{append_assoc, append_cancel_right}
use Rattle.hex.specs.Hex.{encode_lower}
use Rattle.tv_formats.specs.declared.segment.DeleteMeta.{DeleteMeta}
use Rattle.tv_formats.specs.declared.segment.SegmentComponent.{SegmentComponent}
use Rattle.tv_formats.specs.declared.segment.SegmentComponent.TheVariants.{Postings, Positions, FastFields, FieldNorms, Terms, Store, Delete}
use Rattle.tv_formats.specs.Names.{is, meta_name}
use Rattle.tv_formats.specs.Segments.{delete_opstamp, name_of}
use Rattle.tv_formats.proofs.PlainNames.{decimal_all}

-- ---- the last dot

-- a byte that isn't a dot
abbrev is_other : ℕ → Bool
is_other b = not (b == 46)

dotted : (ys es : List ℕ) → list_all is_other (ys ++ 46 ∷ es) ≡ true → ⊥
dotted [] es h = true≢false (sym h)
dotted (y ∷ ys) es h = dotted ys es (and_parts (is_other y) (list_all is_other (ys ++ 46 ∷ es)) h).1

-- texts that are the same have the same behind their last dots
last_dot : (xs ys ds es : List ℕ) → list_all is_other ds ≡ true → list_all is_other es ≡ true → xs ++ 46 ∷ ds ≡ ys ++ 46 ∷ es → ds ≡ es
last_dot [] [] ds es h k e = cc
last_dot [] (y ∷ ys) ds es h k e =
    let rest : ds ≡ ys ++ 46 ∷ es = cc in
    absurd (dotted ys es (subst (λ (l : List ℕ). list_all is_other l ≡ true) rest h))
last_dot (x ∷ xs) [] ds es h k e =
    let rest : xs ++ 46 ∷ ds ≡ es = cc in
    absurd (dotted xs ds (subst (λ (l : List ℕ). list_all is_other l ≡ true) (sym rest) k))
last_dot (x ∷ xs) (y ∷ ys) ds es h k e =
    let rest : xs ++ 46 ∷ ds ≡ ys ++ 46 ∷ es = cc in
    last_dot xs ys ds es h k rest

-- ---- names

-- a name with a delete file's end
abbrev NamedDelete : (id number : List ℕ) → List ℕ
NamedDelete id number = encode_lower id ++ codes "." ++ number ++ codes ".del"

-- it isn't that of a file with another end
ends_so : (id other word number : List ℕ) → list_all is_other word ≡ true → is word (codes "del") ≡ false → encode_lower id ++ codes "." ++ word ≡ NamedDelete other number → ⊥
ends_so id other word number h differs e =
    let same : word ≡ codes "del" = last_dot (encode_lower id) (encode_lower other ++ codes "." ++ number) word (codes "del") h refl (sym (append_assoc (encode_lower id) (codes ".") word) ∙ e) in
    true≢false (sym (ap (λ (w : List ℕ). is w (codes "del")) same) ∙ differs)

decimal_other : (n : ℕ) → list_all is_other (decimal n) ≡ true
decimal_other n = decimal_all is_other n (λ c e. grind (arith, nat_tests))

one_number : (id other : List ℕ) (n m : ℕ) → n < 2 ^ 64 → m < 2 ^ 64 → NamedDelete id (decimal n) ≡ NamedDelete other (decimal m) → n ≡ m
one_number id other n m small few e =
    let rest = append_cancel_right (encode_lower id ++ codes "." ++ decimal n) (encode_lower other ++ codes "." ++ decimal m) (codes ".del") e in
    decimal_injective n m small few
    (last_dot (encode_lower id) (encode_lower other) (decimal n) (decimal m) (decimal_other n) (decimal_other m)
    (sym (append_assoc (encode_lower id) (codes ".") (decimal n)) ∙ rest ∙ append_assoc (encode_lower other) (codes ".") (decimal m)))

-- a file that has a delete file's name is one of its number
pub delete_number : (id other : List ℕ) (deletes : Option DeleteMeta) (component : SegmentComponent) (m : ℕ) → delete_opstamp deletes < 2 ^ 64 → m < 2 ^ 64
    → name_of id deletes component ≡ NamedDelete other (decimal m) → delete_opstamp deletes ≡ m
delete_number id other deletes Postings m small few e = absurd (ends_so id other (codes "idx") (decimal m) refl refl e)
delete_number id other deletes Positions m small few e = absurd (ends_so id other (codes "pos") (decimal m) refl refl e)
delete_number id other deletes FastFields m small few e = absurd (ends_so id other (codes "fast") (decimal m) refl refl e)
delete_number id other deletes FieldNorms m small few e = absurd (ends_so id other (codes "fieldnorm") (decimal m) refl refl e)
delete_number id other deletes Terms m small few e = absurd (ends_so id other (codes "term") (decimal m) refl refl e)
delete_number id other deletes Store m small few e = absurd (ends_so id other (codes "store") (decimal m) refl refl e)
delete_number id other deletes Delete m small few e = one_number id other (delete_opstamp deletes) m small few e

-- nor has `meta.json` such a name
pub meta_no_delete : (id number : List ℕ) → meta_name ≡ NamedDelete id number → ⊥
meta_no_delete id number e =
    let same : codes "json" ≡ codes "del" = last_dot (codes "meta") (encode_lower id ++ codes "." ++ number) (codes "json") (codes "del") refl refl e in
    true≢false (sym (ap (λ (w : List ℕ). is w (codes "del")) same))
