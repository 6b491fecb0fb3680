-- No line feed stands in the words of answers.
use Rattle.std.proofs.Common.{◌≡◌, ℕ, ◌<◌, ◌^◌, ◌/◌, ◌%◌, ◌==◌, true, not, nat_le, length, codes, List, [], ◌∷◌, ◌++◌, refl, arith, ⊎_elim}
use Rattle.std.specs.List.{list_all}
use Rattle.std.specs.Fmt.{decimal}
use Rattle.std.proofs.lemmas.Bool.Decides.{nat_tests}
use Rattle.hex.specs.Hex.{encode_lower, encode_with, lower_digits}
use Rattle.std.proofs.lemmas.Bool.{or_cases}
use Rattle.tv_formats.specs.Names.{is, is_name_byte, is_plain, is_dotted, is_file_name, begins_with_dot}
use Rattle.tv_formats.specs.Files.{has_no_feed}
use Rattle.tv_formats.proofs.PlainNames.{all-append, all_at, all_more, decimal_all, plain_parts, third_and_last}

pub no_feed_append : (xs ys : List ℕ) → has_no_feed xs ≡ true → has_no_feed ys ≡ true → has_no_feed (xs ++ ys) ≡ true
no_feed_append = all-append (λ b. not (b == 10))

pub no_feed_id : (id : List ℕ) → has_no_feed (encode_lower id) ≡ true
unfolding encode_with
no_feed_id [] = refl
no_feed_id (b ∷ id) = rw (all_at (λ b. not (b == 10)) lower_digits (b / 16) refl, all_at (λ b. not (b == 10)) lower_digits (b % 16) refl) (no_feed_id id)

pub no_feed_number : (n : ℕ) → n < 2 ^ 64 → has_no_feed (decimal n) ≡ true
no_feed_number n small = decimal_all (λ b. not (b == 10)) n (λ c e. grind (arith, nat_tests))

name_bytes_no_feed : (xs : List ℕ) → list_all is_name_byte xs ≡ true → has_no_feed xs ≡ true
name_bytes_no_feed xs h = all_more is_name_byte (λ b. not (b == 10)) xs (λ b e. grind (arith, nat_tests)) h

pub no_feed_plain : (name : List ℕ) → is_plain name ≡ true → has_no_feed name ≡ true
no_feed_plain name h = name_bytes_no_feed name (plain_parts name h).0

pub no_feed_name : (name : List ℕ) → is_file_name name ≡ true → has_no_feed name ≡ true
no_feed_name name h = ⊎_elim (no_feed_plain name) (λ dotted. name_bytes_no_feed name (third_and_last (nat_le 2 (length name)) (nat_le (length name) 255) (list_all is_name_byte name) (begins_with_dot name) (not (is name (codes ".."))) dotted).0) (or_cases (is_plain name) (is_dotted name) h)
