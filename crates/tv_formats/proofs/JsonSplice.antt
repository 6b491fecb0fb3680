-- A JSON text inside a longer text keeps its tokens.
use Rattle.std.proofs.Common.{◌≡◌, ℕ, zero, suc, ◌≤◌, true, List, [], ◌∷◌, ◌++◌, length, Option, Some, None, refl, sym, ap, ap₂, ◌∙◌, subst, arith, append-nil}
use Rattle.std.specs.Prelude.{⊤}
use Rattle.std.proofs.lemmas.Bool.{false≢true}
use Rattle.json.specs.Token.{Token}
use Rattle.json.specs.Align.{is_good}
use Rattle.json.specs.Text.{content, plain}
use Rattle.json.specs.Word.{ends_word, word}
use Rattle.json.specs.Lex.{Lexeme, token, comma, colon, Class, quote, backslash, operator, space, other, class, operator_lexeme, string_token, between, in_word, in_string, lex_byte, lex}
use Rattle.tv_formats.proofs.JsonStrings.{closes_string}
use Rattle.tv_formats.proofs.JsonWords.{word_passes}

-- ---- no lexeme is bad

abbrev pub AllGood : List Lexeme → Type 0
AllGood [] = ⊤
AllGood (token t ∷ ls) = (is_good t ≡ true) × AllGood ls
AllGood (comma ∷ ls) = AllGood ls
AllGood (colon ∷ ls) = AllGood ls

rest_good : (l : Lexeme) (ls : List Lexeme) → AllGood (l ∷ ls) → AllGood ls
rest_good (token t) ls h = h.1
rest_good comma ls h = h
rest_good colon ls h = h

token_rest : (t u : Token) (ls ms : List Lexeme) → token t ∷ ls ≡ token u ∷ ms → ls ≡ ms
token_rest t u ls ms e = cc

module _ (r : List ℕ) (ended : ends_word r ≡ true) where
  abbrev Spliced : List ℕ → Type 0
  Spliced s = AllGood (lex between s) → lex between (s ++ r) ≡ lex between s ++ lex between r

  at_quote : (xs : List ℕ) (o : Option (List ℕ)) → content plain xs ≡ o → ((s : List ℕ) → length s ≤ length xs → Spliced s)
      → (is_good (string_token o) ≡ true) × AllGood (lex in_string xs)
      → token (string_token (content plain (xs ++ r))) ∷ lex in_string (xs ++ r) ≡ token (string_token o) ∷ (lex in_string xs ++ lex between r)
  at_quote xs None is ih h = absurd (false≢true h.0)
  at_quote xs (Some v) is ih h =
      let both = closes_string xs r v is in
      let c = both.1 in
      let inner : lex in_string xs ≡ lex between c.rest = ap (lex in_string) (sym (append-nil xs)) ∙ c.passes [] ∙ ap (lex between) (append-nil c.rest) in
      let good : AllGood (lex between c.rest) = subst AllGood inner h.1 in
      ap₂ (λ (q : Option (List ℕ)) (l : List Lexeme). token (string_token q) ∷ l) both.0
      (c.passes r ∙ ih c.rest c.within good ∙ ap (λ (l : List Lexeme). l ++ lex between r) (sym inner))

  at_word : (x : ℕ) (xs : List ℕ) → class x ≡ other → ((s : List ℕ) → length s ≤ length xs → Spliced s)
      → (is_good (word (x ∷ xs)) ≡ true) × AllGood (lex in_word xs)
      → token (word (x ∷ (xs ++ r))) ∷ lex in_word (xs ++ r) ≡ token (word (x ∷ xs)) ∷ (lex in_word xs ++ lex between r)
  unfolding lex
  at_word x xs is ih h =
      let p = word_passes (x ∷ xs) h.0 in
      let one : lex between (x ∷ xs) ≡ token (word (x ∷ xs)) ∷ lex in_word xs = ap (λ (c : Class). lex_byte between c x xs (λ next. lex next xs)) is in
      let two : lex between (x ∷ (xs ++ r)) ≡ token (word (x ∷ (xs ++ r))) ∷ lex in_word (xs ++ r) =
      ap (λ (c : Class). lex_byte between c x (xs ++ r) (λ next. lex next (xs ++ r))) is in
      let alone : lex between (x ∷ xs) ≡ token (word (x ∷ xs)) ∷ lex between p.rest =
      ap (lex between) (sym (append-nil (x ∷ xs))) ∙ p.passes [] refl ∙ ap (λ (s : List ℕ). token (word (x ∷ xs)) ∷ lex between s) (append-nil p.rest) in
      let inner : lex in_word xs ≡ lex between p.rest = token_rest _ _ _ _ (sym one ∙ alone) in
      let good : AllGood (lex between p.rest) = subst AllGood inner h.1 in
      let short : length p.rest ≤ length xs = omega (arith, p.within) in
      sym two ∙ p.passes r ended
      ∙ ap (λ (l : List Lexeme). token (word (x ∷ xs)) ∷ l) (ih p.rest short good ∙ ap (λ (l : List Lexeme). l ++ lex between r) (sym inner))

  at_byte : (x : ℕ) (xs : List ℕ) (c : Class) → class x ≡ c → ((s : List ℕ) → length s ≤ length xs → Spliced s)
      → AllGood (lex_byte between c x xs (λ next. lex next xs))
      → lex_byte between c x (xs ++ r) (λ next. lex next (xs ++ r)) ≡ lex_byte between c x xs (λ next. lex next xs) ++ lex between r
  at_byte x xs quote is ih h = at_quote xs (content plain xs) refl ih h
  at_byte x xs backslash is ih h = absurd (false≢true h.0)
  at_byte x xs operator is ih h = ap (λ (l : List Lexeme). operator_lexeme x ∷ l) (ih xs (omega arith) (rest_good (operator_lexeme x) _ h))
  at_byte x xs space is ih h = ih xs (omega arith) h
  at_byte x xs other is ih h = at_word x xs is ih h

  spliced : (n : ℕ) (s : List ℕ) → length s ≤ n → Spliced s
  unfolding lex
  spliced n [] le h = refl
  spliced zero (x ∷ xs) le h = absurd (omega arith)
  spliced (suc n) (x ∷ xs) le h = at_byte x xs (class x) refl (λ s short. spliced n s (omega arith)) h

-- where no lexeme of s is bad, what follows s is read by itself
pub lex-append : (s r : List ℕ) → ends_word r ≡ true → AllGood (lex between s) → lex between (s ++ r) ≡ lex between s ++ lex between r
lex-append s r ended good = spliced r ended (length s) s (omega arith) good
