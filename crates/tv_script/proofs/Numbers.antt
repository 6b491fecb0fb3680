-- The number that a word spells, and words that spell none.
use Rattle.std.proofs.Common.{◌≡◌, ℕ, ◌<◌, ◌^◌, Bool, true, false, cond, ◌&&◌, nat_lt, List, Some, None, refl, sym, ap, ◌∙◌}
use Rattle.std.specs.Cmp.Lexicographic.{bytes_decides}
use Rattle.std.specs.Fmt.{decimal}
use Rattle.std.specs.Str.Parse.{digits_value}
use Rattle.std.proofs.lemmas.Bool.{ltb-true, lt-ltb, and_parts}
use Rattle.std.proofs.lemmas.Fmt.{decimal_is_IsNumeral}
use Rattle.tv_formats.specs.Names.{is}
use Rattle.tv_script.specs.Fields.{number_at}

-- a test that gave something, and one that can't pass
pub chosen : {A : Type 0} (b : Bool) (x y : A) → cond b (Some x) None ≡ Some y → (b ≡ true) × (x ≡ y)
chosen true x y e = (refl, cc)
chosen false x y e = absurd cc

pub refused : {A : Type 0} (b : Bool) (x : A) → (b ≡ true → ⊥) → cond b (Some x) None ≡ None
refused true x h = absurd (h refl)
refused false x h = refl

-- a word that spells a number is its decimal form
pub number_found : (limit n : ℕ) (word : List ℕ) → number_at limit word ≡ Some n → (word ≡ decimal n) × (n < limit)
number_found limit n word e =
    let v = digits_value 10 word in
    let h = chosen (is (decimal v) word && nat_lt v limit) v n e in
    let t = and_parts (is (decimal v) word) (nat_lt v limit) h.0 in
    let spelled : decimal v ≡ word = (bytes_decides (decimal v) word).0 t.0 in
    (sym spelled ∙ ap decimal h.1, rw (← h.1) (ltb-true v limit t.1))

-- a number's decimal form spells it
pub number_again : (limit n : ℕ) → n < limit → n < 2 ^ 64 → number_at limit (decimal n) ≡ Some n
number_again limit n lt small =
    let value : digits_value 10 (decimal n) ≡ n = (decimal_is_IsNumeral n small).1 in
    let same : is (decimal n) (decimal n) ≡ true = (bytes_decides (decimal n) (decimal n)).1 refl in
    rw (value, same, lt-ltb n limit lt) refl

-- a word that is no number's decimal form spells none
pub number_none : (limit : ℕ) (word : List ℕ) → ((n : ℕ) → n < limit → word ≡ decimal n → ⊥) → number_at limit word ≡ None
number_none limit word h =
    let v = digits_value 10 word in
    refused (is (decimal v) word && nat_lt v limit) v (λ e.
    let t = and_parts (is (decimal v) word) (nat_lt v limit) e in
    h v (ltb-true v limit t.1) (sym ((bytes_decides (decimal v) word).0 t.0)))
