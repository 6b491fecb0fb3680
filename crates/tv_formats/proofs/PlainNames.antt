-- The names of a segment's files are plain.
use Rattle.std.proofs.Common.{◌≡◌, ℕ, zero, suc, ◌+◌, ◌<◌, ◌≤◌, ◌/◌, ◌%◌, ◌==◌, Bool, true, false, cond, not, ◌&&◌, nat_le, List, [], ◌∷◌, ◌++◌, length, codes, refl, arith, length-append, append_assoc, map, subst, string_bytes, String, Global}
use Rattle.std.specs.Prelude.{slice_index, nat_lt}
use Rattle.std.specs.List.{list_all}
use Rattle.std.specs.Fmt.{decimal, digits, digits_onto, digit_glyph}
use Rattle.std.specs.Char.{is_ascii_digit}
use Rattle.std.proofs.lemmas.Bool.Decides.{nat_tests}
use Rattle.hex.specs.Hex.{encode_lower, encode_with, lower_digits}
use Rattle.hex.proofs.HexLemmas.{length-encode_with}
use Rattle.std.proofs.lemmas.Bool.{and_from, and_parts}
use Rattle.std.proofs.lemmas.List.Folds.{list_all-append}
use Rattle.std.proofs.lemmas.List.Recursion.{and_at}
use Rattle.tv_formats.specs.declared.segment.SegmentComponent.{SegmentComponent}
use Rattle.tv_formats.specs.declared.segment.SegmentComponent.TheVariants.{Postings, Positions, FastFields, FieldNorms, Terms, Store, Delete}
use Rattle.tv_formats.specs.Names.{is, is_name_byte, is_plain, is_undotted, is_file_name}
use Rattle.tv_formats.specs.Ids.{IsId}
use Rattle.tv_formats.specs.Segments.{extension}

pub both : (a b : Bool) → (a && b) ≡ true → (a ≡ true) × (b ≡ true)
both = and_parts

-- tests that all of some values pass, and all of others, and a weaker one
pub all-append : (test : ℕ → Bool) (xs ys : List ℕ) → list_all test xs ≡ true → list_all test ys ≡ true → list_all test (xs ++ ys) ≡ true
all-append test xs ys h k = rw (list_all-append test xs ys, h) k

pub all_more : {X : Type 0} (p q : X → Bool) (xs : List X) → ((x : X) → p x ≡ true → q x ≡ true) → list_all p xs ≡ true → list_all q xs ≡ true
all_more p q [] f h = refl
all_more p q (x ∷ xs) f h = let t = both (p x) (list_all p xs) h in rw (f x t.0) (all_more p q xs f t.1)

-- the one at a place, which is 0 behind the end
pub all_at : (test : ℕ → Bool) (xs : List ℕ) (k : ℕ) → list_all test (0 ∷ xs) ≡ true → test (slice_index xs k) ≡ true
all_at test [] k h = (both (test 0) true h).0
all_at test (x ∷ xs) zero h = (both (test x) (list_all test xs) (both (test 0) _ h).1).0
all_at test (x ∷ xs) (suc k) h =
    let t = both (test 0) (list_all test (x ∷ xs)) h in all_at test xs k (and_from (test 0) (list_all test xs) t.0 (both (test x) (list_all test xs) t.1).1)

-- a digit is a byte of a name
encoded_fits : (xs : List ℕ) → ((i : ℕ) → slice_index xs i < 256) → list_all is_name_byte (encode_lower xs) ≡ true
unfolding encode_with
encoded_fits [] h = refl
encoded_fits (b ∷ xs) h =
    let lt : b < 256 = h 0 in
    let digit : (k : ℕ) → k < 16 → is_name_byte (slice_index lower_digits k) ≡ true = λ k lt. and_at (list_all is_name_byte) is_name_byte refl (λ x xs. refl) lower_digits k 0 lt refl in
    rw (digit (b / 16) (omega arith), digit (b % 16) (omega arith)) (encoded_fits xs (λ i. h (suc i)))

-- the first digit of an id isn't a dot
pub undotted : (xs rest : List ℕ) → length xs ≡ 16 → is_undotted (encode_lower xs ++ rest) ≡ true
unfolding encode_with
undotted [] rest h = absurd (omega arith)
undotted (b ∷ xs) rest h = all_at (λ b. not (b == 46)) lower_digits (b / 16) refl

-- a digit of a decimal number is one of ten
one_of_ten : (r : ℕ) → r < 10 → is_ascii_digit (digit_glyph false r) ≡ true
one_of_ten r lt = let small : nat_lt r 10 ≡ true = grind (arith, nat_tests) in rw small (grind (arith, nat_tests))

spelled_all : (k n : ℕ) (rest : List ℕ) → list_all is_ascii_digit rest ≡ true → list_all is_ascii_digit (digits_onto k 10 false n rest) ≡ true
spelled_all zero n rest h = h
spelled_all (suc k) n rest h =
    let digit : is_ascii_digit (digit_glyph false (n % 10)) ≡ true = one_of_ten (n % 10) (omega arith) in
    let more : list_all is_ascii_digit (digit_glyph false (n % 10) ∷ rest) ≡ true = rw digit h in
    either (n / 10 == 0) _ _ more (spelled_all k (n / 10) (digit_glyph false (n % 10) ∷ rest) more)
  where
    either : (b : Bool) (xs ys : List ℕ) → list_all is_ascii_digit xs ≡ true → list_all is_ascii_digit ys ≡ true → list_all is_ascii_digit (cond b xs ys) ≡ true
    either true xs ys p q = p
    either false xs ys p q = q

spelled_short : (k n : ℕ) (rest : List ℕ) → length (digits_onto k 10 false n rest) ≤ k + length rest
spelled_short zero n rest = omega arith
spelled_short (suc k) n rest =
    elim (n / 10 == 0) as (λ b. length (cond b (digit_glyph false (n % 10) ∷ rest) (digits_onto k 10 false (n / 10) (digit_glyph false (n % 10) ∷ rest))) ≤ suc k + length rest) [
      | true ↦ omega arith
      | false ↦ omega (arith, spelled_short k (n / 10) (digit_glyph false (n % 10) ∷ rest))
    ]

-- what holds of each digit holds of all digits of a number, and these are few
pub decimal_all : (test : ℕ → Bool) (n : ℕ) → ((c : ℕ) → is_ascii_digit c ≡ true → test c ≡ true) → list_all test (decimal n) ≡ true
unfolding digits
decimal_all test n f = all_more is_ascii_digit test (decimal n) f (spelled_all 64 n [] refl)

decimal_short : (n : ℕ) → length (decimal n) ≤ 64
unfolding digits
decimal_short n = spelled_short 64 n []

-- a name's bytes are the third of five tests; the last one is that it isn't a certain word
pub third_and_last : (a b c d e : Bool) → (a && b && c && d && e) ≡ true → (c ≡ true) × (e ≡ true)
third_and_last a b c d e h = let t = both (a && b && c && d) e h in ((both (a && b) c (both (a && b && c) d t.0).0).1, t.1)

pub plain_parts : (name : List ℕ) → is_plain name ≡ true → (list_all is_name_byte name ≡ true) × (not (is name (codes "failed")) ≡ true)
plain_parts name h = third_and_last (nat_le 1 (length name)) (nat_le (length name) 255) (list_all is_name_byte name) (is_undotted name) (not (is name (codes "failed"))) h

-- a plain name has no dot in front
pub plain_is_undotted : (name : List ℕ) → is_plain name ≡ true → is_undotted name ≡ true
plain_is_undotted name h = (both _ _ (both _ _ h).0).1

-- a name of more than six bytes isn't `failed`
long_isnt : (xs ys : List ℕ) → length ys < length xs → is xs ys ≡ false
long_isnt [] ys h = absurd (omega arith)
long_isnt (x ∷ xs) [] h = refl
long_isnt (x ∷ xs) (y ∷ ys) h = grind (arith, long_isnt xs ys (omega arith))

le_true : (a b : ℕ) → a ≤ b → nat_le a b ≡ true
le_true a b h = grind (arith, nat_tests)

-- an id, and more bytes of a name
pub plain_after : (id rest : List ℕ) → IsId id → list_all is_name_byte rest ≡ true → length rest ≤ 200 → is_plain (encode_lower id ++ rest) ≡ true
plain_after id rest h fits short =
    let long : length (encode_lower id ++ rest) ≡ 32 + length rest = omega (arith, length-append (encode_lower id) rest, length-encode_with lower_digits id, h.size) in
    rw (
      le_true 1 (length (encode_lower id ++ rest)) (omega arith),
      le_true (length (encode_lower id ++ rest)) 255 (omega arith),
      all-append is_name_byte (encode_lower id) rest (encoded_fits id h.bytes) fits,
      undotted id rest h.size,
      long_isnt (encode_lower id ++ rest) (codes "failed") (omega arith),
    ) refl

pub delete_plain : (id : List ℕ) (n : ℕ) → IsId id → is_plain (encode_lower id ++ codes "." ++ decimal n ++ codes ".del") ≡ true
delete_plain id n h =
    let rest = codes "." ++ (decimal n ++ codes ".del") in
    let fits : list_all is_name_byte rest ≡ true = all-append is_name_byte (decimal n) (codes ".del") (decimal_all is_name_byte n (λ c e. grind (arith, nat_tests))) refl in
    let long : length (decimal n ++ codes ".del") ≡ length (decimal n) + 4 = length-append (decimal n) (codes ".del") in
    let few : length (decimal n) ≤ 64 = decimal_short n in
    rw (append_assoc (encode_lower id ++ codes ".") (decimal n) (codes ".del"), append_assoc (encode_lower id) (codes ".") (decimal n ++ codes ".del")) (plain_after id rest h fits (omega arith))

pub other_plain : (id : List ℕ) (component : SegmentComponent) → IsId id → is_plain (encode_lower id ++ codes "." ++ extension component) ≡ true
other_plain id Postings h = rw (append_assoc (encode_lower id) (codes ".") (codes "idx")) (plain_after id (codes ".idx") h refl (omega arith))
other_plain id Positions h = rw (append_assoc (encode_lower id) (codes ".") (codes "pos")) (plain_after id (codes ".pos") h refl (omega arith))
other_plain id FastFields h = rw (append_assoc (encode_lower id) (codes ".") (codes "fast")) (plain_after id (codes ".fast") h refl (omega arith))
other_plain id FieldNorms h = rw (append_assoc (encode_lower id) (codes ".") (codes "fieldnorm")) (plain_after id (codes ".fieldnorm") h refl (omega arith))
other_plain id Terms h = rw (append_assoc (encode_lower id) (codes ".") (codes "term")) (plain_after id (codes ".term") h refl (omega arith))
other_plain id Store h = rw (append_assoc (encode_lower id) (codes ".") (codes "store")) (plain_after id (codes ".store") h refl (omega arith))
other_plain id Delete h = rw (append_assoc (encode_lower id) (codes ".") (codes "del")) (plain_after id (codes ".del") h refl (omega arith))

-- a plain name is that of a file
pub plain_is_file_name : (name : List ℕ) → is_plain name ≡ true → is_file_name name ≡ true
plain_is_file_name name h = rw h refl

-- the first of some plain names is one, and so are the others
pub plain_head : (keys rest : List (String Global)) (name : String Global) → keys ≡ name ∷ rest → list_all is_plain (map string_bytes keys) ≡ true
    → (is_plain (string_bytes name) ≡ true) × (list_all is_plain (map string_bytes rest) ≡ true)
plain_head keys rest name e h =
    both (is_plain (string_bytes name)) (list_all is_plain (map string_bytes rest)) (subst (λ (ks : List (String Global)). list_all is_plain (map string_bytes ks) ≡ true) e h)
