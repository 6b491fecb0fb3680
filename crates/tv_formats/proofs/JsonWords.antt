-- A word that a text begins with is the same word in a longer text.
use Rattle.std.proofs.Common.{◌≡◌, ℕ, ◌+◌, ◌-◌, ◌<◌, ◌≤◌, Bool, true, false, cond, ◌||◌, ◌==◌, List, [], ◌∷◌, ◌++◌, length, take, drop, Option, Some, None, option_and_then, refl, sym, ap, ap₂, ◌∙◌, subst, arith, inl, inr, append_assoc}
use Rattle.std.specs.Prelude.{⊤}
use Rattle.std.specs.List.{prefix_len}
use Rattle.std.specs.Char.{is_ascii_digit}
use Rattle.std.proofs.lemmas.Bool.{and_parts, false≢true, cases_lt}
use Rattle.std.proofs.lemmas.List.{drop-drop, drop_all, length-drop, take-append-drop, length-append}
use Rattle.std.proofs.lemmas.Slice.Eq.{bytes_eq-Decides}
use Rattle.json.specs.Token.{Token, number, boolean, null, bad}
use Rattle.json.specs.Align.{is_good}
use Rattle.json.specs.Lex.{token, between, lex}
use Rattle.json.specs.Print.{IsNumber}
use Rattle.json.specs.Word.{head, ends_word, after_digits, after_minus, after_sign, after_whole, after_fraction, after_exponent, after_number, number_before, literal, word}
use Rattle.json.proofs.Printed.Numbers.{number_alone, lex-number, in_word-ended}

-- ---- what a number leaves is an end of the text

abbrev EndOf : List ℕ → List ℕ → Type 0
EndOf t r = (k : ℕ) × (r ≡ drop k t)

abbrev Leaves : List ℕ → Option (List ℕ) → Type 0
Leaves t None = ⊤
Leaves t (Some r) = EndOf t r

onward : (t u : List ℕ) (o : Option (List ℕ)) → EndOf t u → Leaves u o → Leaves t o
onward t u None e h = tt
onward t u (Some r) e h = (e.0 + h.0, h.1 ∙ ap (drop h.0) e.1 ∙ drop-drop h.0 e.0 t)

one_of : (t : List ℕ) (b : Bool) (x y : Option (List ℕ)) → Leaves t x → Leaves t y → Leaves t (cond b x y)
one_of t true x y p q = p
one_of t false x y p q = q

first_off : (t : List ℕ) (b : Bool) → EndOf t (cond b (drop 1 t) t)
first_off t true = (1, refl)
first_off t false = (0, refl)

digits_off : (t : List ℕ) → Leaves t (after_digits t)
digits_off t = one_of t (prefix_len is_ascii_digit t == 0) None _ tt (prefix_len is_ascii_digit t, refl)

and_then : (t : List ℕ) (f : List ℕ → Option (List ℕ)) → ((u : List ℕ) → Leaves u (f u)) → (o : Option (List ℕ)) → Leaves t o → Leaves t (option_and_then f o)
and_then t f g None h = tt
and_then t f g (Some r) h = onward t r (f r) h (g r)

fraction_off : (t : List ℕ) → Leaves t (after_fraction t)
fraction_off t = one_of t (head t == 46) _ (Some t) (onward t (drop 1 t) _ (1, refl) (digits_off (drop 1 t))) (0, refl)

exponent_off : (t : List ℕ) → Leaves t (after_exponent t)
exponent_off t =
    let u = drop 1 t in
    one_of t ((head t == 101) || (head t == 69)) _ (Some t) (onward t u _ (1, refl) (onward u (after_sign u) _ (first_off u _) (digits_off (after_sign u))))
    (0, refl)

whole_off : (t : List ℕ) → Leaves t (after_whole t)
whole_off t = one_of t (head t == 48) (Some (drop 1 t)) _ (1, refl) (digits_off t)

number_off : (t : List ℕ) → Leaves t (after_number t)
unfolding after_number
number_off t =
    and_then t after_exponent exponent_off _ (and_then t after_fraction fraction_off _ (onward t (after_minus t) _ (first_off t _) (whole_off (after_minus t))))

same_end : (k : ℕ) (t : List ℕ) → drop (length t - length (drop k t)) t ≡ drop k t
same_end k t =
    elim (cases_lt k (length t)) [
      | inl lt ↦ let n : length t - length (drop k t) ≡ k = omega (arith, length-drop k t) in ap (λ m. drop m t) n
      | inr ge ↦
          let n : length t ≤ length t - length (drop k t) = omega (arith, length-drop k t) in
          drop_all (length t - length (drop k t)) t n ∙ sym (drop_all k t ge)
    ]

in_two : (t r : List ℕ) → EndOf t r → t ≡ take (length t - length r) t ++ r
in_two t r e =
    sym (take-append-drop (length t - length r) t)
    ∙ ap (λ (l : List ℕ). take (length t - length r) t ++ l) (ap (λ (q : List ℕ). drop (length t - length q) t) e.1 ∙ same_end e.0 t ∙ sym e.1)

-- ---- the first token of a text, whatever follows

pub record Passes (t : List ℕ) (k : Token) : Type 0 where
  pub rest : List ℕ
  pub within : length rest < length t
  pub passes : (r : List ℕ) → ends_word r ≡ true → lex between (t ++ r) ≡ token k ∷ lex between (rest ++ r)

pub ends_more : (s r : List ℕ) → ends_word s ≡ true → ends_word r ≡ true → ends_word (s ++ r) ≡ true
ends_more [] r h g = g
ends_more (x ∷ s) r h g = h

passed : (b : Bool) (k : Token) → is_good (cond b k bad) ≡ true → b ≡ true
passed true k h = refl
passed false k h = absurd (false≢true h)

after_name : (name : List ℕ) (k : Token) (t rest : List ℕ) → 0 < length name → t ≡ name ++ rest → ends_word rest ≡ true
    → ((u : List ℕ) → ends_word u ≡ true → lex between (name ++ u) ≡ token k ∷ lex between u) → Passes t k
after_name name k t rest some is ended reads = record {
  rest = rest;
  within = omega (arith, ap length is, length-append name rest);
  passes = λ r e. ap (λ (l : List ℕ). lex between (l ++ r)) is ∙ ap (lex between) (append_assoc name rest r) ∙ reads (rest ++ r) (ends_more rest r ended e);
}

literal_passes : (name : List ℕ) (k : Token) (t : List ℕ) → 0 < length name
    → ((u : List ℕ) → ends_word u ≡ true → lex between (name ++ u) ≡ token k ∷ lex between u)
    → is_good (literal name k t) ≡ true → Passes t (literal name k t)
literal_passes name k t some reads h =
    let found = passed _ k h in
    let both = and_parts _ _ found in
    let front : name ≡ take (length name) t = (bytes_eq-Decides name (take (length name) t)).0 both.0 in
    let is : t ≡ name ++ drop (length name) t = sym (take-append-drop (length name) t) ∙ ap (λ (l : List ℕ). l ++ drop (length name) t) (sym front) in
    subst (Passes t) (sym (ap (λ b. cond b k bad) found)) (after_name name k t (drop (length name) t) some is both.1 reads)

reads_true : (u : List ℕ) → ends_word u ≡ true → lex between (116 ∷ 114 ∷ 117 ∷ 101 ∷ u) ≡ token (boolean true) ∷ lex between u
unfolding lex word
reads_true u e = ap₂ (λ b l. token (cond b (boolean true) bad) ∷ l) e (in_word-ended u e)

reads_false : (u : List ℕ) → ends_word u ≡ true → lex between (102 ∷ 97 ∷ 108 ∷ 115 ∷ 101 ∷ u) ≡ token (boolean false) ∷ lex between u
unfolding lex word
reads_false u e = ap₂ (λ b l. token (cond b (boolean false) bad) ∷ l) e (in_word-ended u e)

reads_null : (u : List ℕ) → ends_word u ≡ true → lex between (110 ∷ 117 ∷ 108 ∷ 108 ∷ u) ≡ token null ∷ lex between u
unfolding lex word
reads_null u e = ap₂ (λ b l. token (cond b null bad) ∷ l) e (in_word-ended u e)

some_digit : (s : List ℕ) → IsNumber s → 0 < length s
unfolding after_number
some_digit [] h = let never : None ≡ Some [] = h in cc
some_digit (x ∷ s) h = omega arith

number_passes : (t : List ℕ) (o : Option (List ℕ)) → after_number t ≡ o → Leaves t o → is_good (number_before t o) ≡ true → Passes t (number_before t o)
number_passes t None is e h = absurd (false≢true h)
number_passes t (Some rest) is e h =
    let ended = passed (ends_word rest) _ h in
    let s = take (length t - length rest) t in
    let two : t ≡ take (length t - length rest) t ++ rest = in_two t rest e in
    let alone : IsNumber (take (length t - length rest) t) = number_alone _ rest ended (ap after_number (sym two) ∙ is) in
    subst (Passes t) (sym (ap (λ b. cond b (number (take (length t - length rest) t)) bad) ended))
    (after_name _ (number (take (length t - length rest) t)) t rest (some_digit _ alone) two ended (λ u eu. lex-number _ u alone eu))

choose : (t : List ℕ) (b : Bool) (x y : Token) → (is_good x ≡ true → Passes t x) → (is_good y ≡ true → Passes t y) → is_good (cond b x y) ≡ true
    → Passes t (cond b x y)
choose t true x y f g = f
choose t false x y f g = g

pub word_passes : (t : List ℕ) → is_good (word t) ≡ true → Passes t (word t)
unfolding word
word_passes t =
    choose t (head t == 116) _ _ (literal_passes (116 ∷ 114 ∷ 117 ∷ 101 ∷ []) (boolean true) t (omega arith) reads_true)
    (choose t (head t == 102) _ _ (literal_passes (102 ∷ 97 ∷ 108 ∷ 115 ∷ 101 ∷ []) (boolean false) t (omega arith) reads_false)
    (choose t (head t == 110) _ _ (literal_passes (110 ∷ 117 ∷ 108 ∷ 108 ∷ []) null t (omega arith) reads_null)
    (number_passes t (after_number t) refl (number_off t))))
