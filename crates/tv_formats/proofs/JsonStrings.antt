-- A string that closes in a text is the same string in a longer one, and closes there.
use Rattle.std.proofs.Common.{◌≡◌, ℕ, ◌≤◌, Bool, true, false, cond, ◌&&◌, ◌==◌, List, [], ◌∷◌, ◌++◌, length, Option, Some, None, option_and_then, refl, sym, ap, ◌∙◌, subst, arith, eqb-true}
use Rattle.std.proofs.lemmas.Bool.{and_parts, false≢true}
use Rattle.std.specs.Prelude.{⊤, nat_lt}
use Rattle.std.specs.Char.{is_digit, encode_utf8}
use Rattle.json.specs.Text.{content, Within as StringState, plain, after_backslash, after_u, after_high, prepend, code_unit, short_escape, is_high_surrogate, is_low_surrogate, surrogate_pair}
use Rattle.json.specs.Lex.{Lexeme, Class, quote, backslash, operator, space, other, class, Mode, between, in_string, in_escape, lex_byte, lex}
use Rattle.json.specs.Word.{is_operator, is_space}

-- ---- what is left after the closing quote, whatever follows the text

pub record Closes (m : Mode) (xs : List ℕ) : Type 0 where
  pub rest : List ℕ
  pub within : length rest ≤ length xs
  pub passes : (r : List ℕ) → lex m (xs ++ r) ≡ lex between (rest ++ r)

step : (m n : Mode) (x : ℕ) (xs : List ℕ) → ((ys : List ℕ) → lex m (x ∷ ys) ≡ lex n ys) → Closes n xs → Closes m (x ∷ xs)
step m n x xs e c = record { rest = c.rest; within = omega (arith, c.within); passes = λ r. e (xs ++ r) ∙ c.passes r }

at_quote : (x : ℕ) → (x == 34) ≡ true → (ys : List ℕ) → lex in_string (x ∷ ys) ≡ lex between ys
unfolding lex
at_quote x e ys = ap (λ y. lex in_string (y ∷ ys)) (eqb-true x 34 e)

at_backslash : (x : ℕ) → (x == 92) ≡ true → (ys : List ℕ) → lex in_string (x ∷ ys) ≡ lex in_escape ys
unfolding lex
at_backslash x e ys = ap (λ y. lex in_string (y ∷ ys)) (eqb-true x 92 e)

inside : (o s : Bool) (x : ℕ) (ys : List ℕ) (k : Mode → List Lexeme) → lex_byte in_string (cond o operator (cond s space other)) x ys k ≡ k in_string
inside true s x ys k = refl
inside false true x ys k = refl
inside false false x ys k = refl

at_plain : (x : ℕ) → (x == 34) ≡ false → (x == 92) ≡ false → (ys : List ℕ) → lex in_string (x ∷ ys) ≡ lex in_string ys
unfolding lex
at_plain x q b ys =
    (λ i. lex_byte in_string (cond (q i) quote (cond (b i) backslash (cond (is_operator x) operator (cond (is_space x) space other)))) x ys (λ n. lex n ys))
    ∙ inside (is_operator x) (is_space x) x ys (λ n. lex n ys)

escaped : (c : Class) (x : ℕ) (ys : List ℕ) (k : Mode → List Lexeme) → lex_byte in_escape c x ys k ≡ k in_string
escaped quote x ys k = refl
escaped backslash x ys k = refl
escaped operator x ys k = refl
escaped space x ys k = refl
escaped other x ys k = refl

at_escape : (x : ℕ) (ys : List ℕ) → lex in_escape (x ∷ ys) ≡ lex in_string ys
unfolding lex
at_escape x ys = escaped (class x) x ys (λ n. lex n ys)

not_this : (c x : ℕ) (t : Bool) → (t ≡ true → x ≡ c) → is_digit c 16 ≡ false → is_digit x 16 ≡ true → t ≡ false
not_this c x false e never h = refl
not_this c x true e never h = absurd (false≢true (sym never ∙ ap (λ y. is_digit y 16) (sym (e refl)) ∙ h))

digit : (x : ℕ) (xs : List ℕ) → is_digit x 16 ≡ true → Closes in_string xs → Closes in_string (x ∷ xs)
digit x xs h =
    step in_string in_string x xs (at_plain x (not_this 34 x (x == 34) (eqb-true x 34) refl h) (not_this 92 x (x == 92) (eqb-true x 92) refl h))

abbrev is_found : Option ℕ → Bool
is_found None = false
is_found (Some u) = true

all_digits : (t : Bool) (u : ℕ) → is_found (cond t (Some u) None) ≡ true → t ≡ true
all_digits true u h = refl
all_digits false u h = h

unit : (a b c d : ℕ) (xs : List ℕ) → is_found (code_unit a b c d) ≡ true → Closes in_string xs → Closes in_string (a ∷ b ∷ c ∷ d ∷ xs)
unfolding code_unit
unit a b c d xs h k =
    let p = and_parts (is_digit a 16 && is_digit b 16 && is_digit c 16) (is_digit d 16) (all_digits _ _ h) in
    let q = and_parts (is_digit a 16 && is_digit b 16) (is_digit c 16) p.0 in
    let r = and_parts (is_digit a 16) (is_digit b 16) q.0 in
    digit a (b ∷ c ∷ d ∷ xs) r.0 (digit b (c ∷ d ∷ xs) r.1 (digit c (d ∷ xs) q.1 (digit d xs p.1 k)))

abbrev mode : StringState → Mode
mode plain = in_string
mode after_backslash = in_escape
mode after_u = in_string
mode (after_high h) = in_string

-- where the string is read, it is the same in the longer text, and P holds
abbrev Stays : Option (List ℕ) → Option (List ℕ) → Type 0 → Type 0
Stays None p P = ⊤
Stays (Some v) p P = (p ≡ Some v) × P

both : (P : Type 0) (b : Bool) (x y p q : Option (List ℕ)) → (b ≡ true → Stays x p P) → (b ≡ false → Stays y q P) → Stays (cond b x y) (cond b p q) P
both P true x y p q f g = f refl
both P false x y p q f g = g refl

then : (P : Type 0) (f g : ℕ → Option (List ℕ)) (o : Option ℕ) → (is_found o ≡ true → (u : ℕ) → Stays (f u) (g u) P)
    → Stays (option_and_then f o) (option_and_then g o) P
then P f g None h = tt
then P f g (Some u) h = h refl u

more : {P Q : Type 0} (o p : Option (List ℕ)) → Stays o p P → (P → Q) → Stays o p Q
more None p h g = tt
more (Some v) p h g = (h.0, g h.1)

longer : {P Q : Type 0} (s : List ℕ) (o p : Option (List ℕ)) → Stays o p P → (P → Q) → Stays (prepend s o) (prepend s p) Q
longer s None p h g = tt
longer s (Some v) p h g = (ap (prepend s) h.0, g h.1)

closes : (s : StringState) (xs r : List ℕ) → Stays (content s xs) (content s (xs ++ r)) (Closes (mode s) xs)
unfolding content
closes plain [] r = tt
closes plain (x ∷ xs) r =
    let C = Closes in_string (x ∷ xs) in
    both C (x == 34) _ _ _ _ (λ q. (refl, record { rest = xs; within = omega arith; passes = λ t. at_quote x q (xs ++ t) }))
    (λ q. both C (x == 92) _ _ _ _ (λ b. more _ _ (closes after_backslash xs r) (step in_string in_escape x xs (at_backslash x b)))
    (λ b. both C (nat_lt x 32) _ _ _ _ (λ l. tt) (λ l. longer (x ∷ []) _ _ (closes plain xs r) (step in_string in_string x xs (at_plain x q b)))))
closes after_backslash [] r = tt
closes after_backslash (x ∷ xs) r =
    let C = Closes in_escape (x ∷ xs) in
    let next : Closes in_string xs → Closes in_escape (x ∷ xs) = step in_escape in_string x xs (at_escape x) in
    both C (x == 117) _ _ _ _ (λ u. more _ _ (closes after_u xs r) next)
    (λ u. then C _ _ (short_escape x) (λ f c. longer (c ∷ []) _ _ (closes plain xs r) next))
closes after_u [] r = tt
closes after_u (a ∷ []) r = tt
closes after_u (a ∷ b ∷ []) r = tt
closes after_u (a ∷ b ∷ c ∷ []) r = tt
closes after_u (a ∷ b ∷ c ∷ d ∷ xs) r =
    let C = Closes in_string (a ∷ b ∷ c ∷ d ∷ xs) in
    then C _ _ (code_unit a b c d) (λ f u. both C (is_high_surrogate u) _ _ _ _ (λ h. more _ _ (closes (after_high u) xs r) (unit a b c d xs f))
    (λ h. both C (is_low_surrogate u) _ _ _ _ (λ l. tt) (λ l. longer (encode_utf8 u) _ _ (closes plain xs r) (unit a b c d xs f))))
closes (after_high h) [] r = tt
closes (after_high h) (s ∷ []) r = tt
closes (after_high h) (s ∷ u ∷ []) r = tt
closes (after_high h) (s ∷ u ∷ a ∷ []) r = tt
closes (after_high h) (s ∷ u ∷ a ∷ b ∷ []) r = tt
closes (after_high h) (s ∷ u ∷ a ∷ b ∷ c ∷ []) r = tt
closes (after_high h) (s ∷ u ∷ a ∷ b ∷ c ∷ d ∷ xs) r =
    let C = Closes in_string (s ∷ u ∷ a ∷ b ∷ c ∷ d ∷ xs) in
    both C ((s == 92) && (u == 117)) _ _ _ _ (λ e. then C _ _ (code_unit a b c d) (λ f l. both C (is_low_surrogate l) _ _ _ _
    (λ y. longer (encode_utf8 (surrogate_pair h l)) _ _ (closes plain xs r)
    (λ k. step in_string in_escape s _ (at_backslash s (and_parts _ _ e).0) (step in_escape in_string u _ (at_escape u) (unit a b c d xs f k)))) (λ y. tt)))
    (λ e. tt)

pub closes_string : (xs r v : List ℕ) → content plain xs ≡ Some v → (content plain (xs ++ r) ≡ Some v) × Closes in_string xs
closes_string xs r v is = subst (λ o. Stays o (content plain (xs ++ r)) (Closes in_string xs)) is (closes plain xs r)
