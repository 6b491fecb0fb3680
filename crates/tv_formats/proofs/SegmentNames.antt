-- The name of a file begins with the digits of its segment's id.
use Rattle.std.proofs.Common.{◌≡◌, ℕ, List, [], ◌∷◌, ◌++◌, length, codes, Option, refl, sym, ap, ◌∙◌, arith}
use Rattle.std.specs.Fmt.{decimal}
use Rattle.std.proofs.lemmas.List.{append_assoc}
use Rattle.hex.specs.Hex.{encode_lower, decode_of, lower_digits}
use Rattle.hex.proofs.HexLemmas.{decode_of-encode_lower, decode_of-same, length-encode_with}
use Rattle.tv_formats.specs.Ids.{IsId}
use Rattle.tv_formats.specs.Segments.{delete_opstamp, extension, name_of}
use Rattle.tv_formats.specs.declared.segment.DeleteMeta.{DeleteMeta}
use Rattle.tv_formats.specs.declared.segment.SegmentComponent.{SegmentComponent}
use Rattle.tv_formats.specs.declared.segment.SegmentComponent.TheVariants.{Postings, Positions, FastFields, FieldNorms, Terms, Store, Delete}

-- texts that are the same begin with the same texts of one length
same_start : (xs us ys vs : List ℕ) → length xs ≡ length us → xs ++ ys ≡ us ++ vs → xs ≡ us
same_start [] [] ys vs l e = refl
same_start [] (u ∷ us) ys vs l e = absurd cc
same_start (x ∷ xs) [] ys vs l e = absurd cc
same_start (x ∷ xs) (u ∷ us) ys vs l e =
    let first : x ≡ u = cc in
    let rest : xs ++ ys ≡ us ++ vs = cc in
    let short : length xs ≡ length us = omega (arith, l) in
    rw first (ap (λ (l : List ℕ). u ∷ l) (same_start xs us ys vs short rest))

-- what stands behind the digits
rest_of : (id : List ℕ) (deletes : Option DeleteMeta) (component : SegmentComponent) → (rest : List ℕ) × (name_of id deletes component ≡ encode_lower id ++ rest)
rest_of id deletes Postings = (codes "." ++ extension Postings, append_assoc (encode_lower id) (codes ".") (extension Postings))
rest_of id deletes Positions = (codes "." ++ extension Positions, append_assoc (encode_lower id) (codes ".") (extension Positions))
rest_of id deletes FastFields = (codes "." ++ extension FastFields, append_assoc (encode_lower id) (codes ".") (extension FastFields))
rest_of id deletes FieldNorms = (codes "." ++ extension FieldNorms, append_assoc (encode_lower id) (codes ".") (extension FieldNorms))
rest_of id deletes Terms = (codes "." ++ extension Terms, append_assoc (encode_lower id) (codes ".") (extension Terms))
rest_of id deletes Store = (codes "." ++ extension Store, append_assoc (encode_lower id) (codes ".") (extension Store))
rest_of id deletes Delete =
    let number = decimal (delete_opstamp deletes) in (
      codes "." ++ (number ++ codes ".del"),
      append_assoc (encode_lower id ++ codes ".") number (codes ".del") ∙ append_assoc (encode_lower id) (codes ".") (number ++ codes ".del"),
    )

-- ids with the same digits are the same
same_id : (id other : List ℕ) → IsId id → IsId other → encode_lower id ≡ encode_lower other → id ≡ other
same_id id other h k e =
    decode_of-same (encode_lower other) id other (ap decode_of (sym e) ∙ decode_of-encode_lower id h.bytes) (decode_of-encode_lower other k.bytes)

pub one_segment : (id other : List ℕ) (deletes others : Option DeleteMeta) (component second : SegmentComponent) → IsId id → IsId other
    → name_of id deletes component ≡ name_of other others second → id ≡ other
one_segment id other deletes others component second h k e =
    let a = rest_of id deletes component in
    let b = rest_of other others second in
    let long : length (encode_lower id) ≡ length (encode_lower other) = omega (arith, length-encode_with lower_digits id, length-encode_with lower_digits other, h.size, k.size) in
    same_id id other h k (same_start (encode_lower id) (encode_lower other) a.0 b.0 long (sym a.1 ∙ e ∙ b.1))
