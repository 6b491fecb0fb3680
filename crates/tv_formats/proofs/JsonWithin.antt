-- A JSON text inside a print is read as its own tokens, whatever its spelling.
use Rattle.std.proofs.Common.{◌≡◌, ℕ, Bool, true, false, cond, ◌&&◌, List, [], ◌∷◌, ◌++◌, fold, refl, sym, ap, ◌∙◌, subst}
use Rattle.json.specs.Token.{Token, begin_object, end_object, begin_array, end_array, key, string, number, boolean, null, bad}
use Rattle.json.specs.Word.{ends_word}
use Rattle.json.specs.Lex.{Lexeme, token, comma, colon, between, lex, fresh, after_value, after_comma, punctuate, tokens}
use Rattle.json.specs.Print.{begins, ends, print_from, print, ArePrintable, IsPrintable}
use Rattle.json.proofs.Printed.Tokens.{tokens-print, print_from-append}
use Rattle.tv_formats.proofs.JsonSplice.{AllGood, lex-append}

-- ---- the lexemes of tokens, as a print has them

abbrev token_lexemes : Token → List Lexeme
token_lexemes begin_object = token begin_object ∷ []
token_lexemes end_object = token end_object ∷ []
token_lexemes begin_array = token begin_array ∷ []
token_lexemes end_array = token end_array ∷ []
token_lexemes (key s) = token (string s) ∷ colon ∷ []
token_lexemes (string s) = token (string s) ∷ []
token_lexemes (number s) = token (number s) ∷ []
token_lexemes (boolean b) = token (boolean b) ∷ []
token_lexemes null = token null ∷ []
token_lexemes bad = []

abbrev lexemes : Bool → List Token → List Lexeme
lexemes c [] = []
lexemes c (t ∷ ts) = cond (c && begins t) (comma ∷ []) [] ++ (token_lexemes t ++ lexemes (ends t) ts)

comma_good : (b : Bool) (ls : List Lexeme) → AllGood ls → AllGood (cond b (comma ∷ []) [] ++ ls)
comma_good true ls h = h
comma_good false ls h = h

token_good : (t : Token) (ls : List Lexeme) → IsPrintable t → AllGood ls → AllGood (token_lexemes t ++ ls)
token_good begin_object ls p h = (refl, h)
token_good end_object ls p h = (refl, h)
token_good begin_array ls p h = (refl, h)
token_good end_array ls p h = (refl, h)
token_good (key s) ls p h = (refl, h)
token_good (string s) ls p h = (refl, h)
token_good (number s) ls p h = (refl, h)
token_good (boolean b) ls p h = (refl, h)
token_good null ls p h = (refl, h)
token_good bad ls p h = absurd p

good_lexemes : (c : Bool) (ts : List Token) → ArePrintable ts → AllGood (lexemes c ts)
unfolding ArePrintable
good_lexemes c [] h = tt
good_lexemes c (t ∷ ts) h =
    comma_good (c && begins t) (token_lexemes t ++ lexemes (ends t) ts) (token_good t (lexemes (ends t) ts) h.0 (good_lexemes (ends t) ts h.1))

-- ---- tokens without a fault have only one list of lexemes

mutual
  unfolding punctuate ArePrintable

  at_fresh : (ls : List Lexeme) → ArePrintable (punctuate fresh ls) → ls ≡ lexemes false (punctuate fresh ls)
  at_fresh [] h = refl
  at_fresh (token begin_object ∷ ls) h = ap (λ (l : List Lexeme). token begin_object ∷ l) (at_fresh ls h.1)
  at_fresh (token end_object ∷ ls) h = ap (λ (l : List Lexeme). token end_object ∷ l) (at_value ls h.1)
  at_fresh (token begin_array ∷ ls) h = ap (λ (l : List Lexeme). token begin_array ∷ l) (at_fresh ls h.1)
  at_fresh (token end_array ∷ ls) h = ap (λ (l : List Lexeme). token end_array ∷ l) (at_value ls h.1)
  at_fresh (token (key s) ∷ ls) h = absurd h.0
  at_fresh (token (string s) ∷ []) h = refl
  at_fresh (token (string s) ∷ token t ∷ ls) h = ap (λ (l : List Lexeme). token (string s) ∷ l) (at_value (token t ∷ ls) h.1)
  at_fresh (token (string s) ∷ comma ∷ ls) h = ap (λ (l : List Lexeme). token (string s) ∷ l) (at_value (comma ∷ ls) h.1)
  at_fresh (token (string s) ∷ colon ∷ ls) h = ap (λ (l : List Lexeme). token (string s) ∷ colon ∷ l) (at_fresh ls h.1)
  at_fresh (token (number s) ∷ ls) h = ap (λ (l : List Lexeme). token (number s) ∷ l) (at_value ls h.1)
  at_fresh (token (boolean b) ∷ ls) h = ap (λ (l : List Lexeme). token (boolean b) ∷ l) (at_value ls h.1)
  at_fresh (token null ∷ ls) h = ap (λ (l : List Lexeme). token null ∷ l) (at_value ls h.1)
  at_fresh (token bad ∷ ls) h = absurd h.0
  at_fresh (comma ∷ ls) h = absurd h.0
  at_fresh (colon ∷ ls) h = absurd h.0

  at_value : (ls : List Lexeme) → ArePrintable (punctuate after_value ls) → ls ≡ lexemes true (punctuate after_value ls)
  at_value [] h = refl
  at_value (token begin_object ∷ ls) h = absurd h.0
  at_value (token end_object ∷ ls) h = ap (λ (l : List Lexeme). token end_object ∷ l) (at_value ls h.1)
  at_value (token begin_array ∷ ls) h = absurd h.0
  at_value (token end_array ∷ ls) h = ap (λ (l : List Lexeme). token end_array ∷ l) (at_value ls h.1)
  at_value (token (key s) ∷ ls) h = absurd h.0
  at_value (token (string s) ∷ []) h = absurd h.0
  at_value (token (string s) ∷ token t ∷ ls) h = absurd h.0
  at_value (token (string s) ∷ comma ∷ ls) h = absurd h.0
  at_value (token (string s) ∷ colon ∷ ls) h = absurd h.0
  at_value (token (number s) ∷ ls) h = absurd h.0
  at_value (token (boolean b) ∷ ls) h = absurd h.0
  at_value (token null ∷ ls) h = absurd h.0
  at_value (token bad ∷ ls) h = absurd h.0
  at_value (comma ∷ ls) h = at_comma ls h
  at_value (colon ∷ ls) h = absurd h.0

  at_comma : (ls : List Lexeme) → ArePrintable (punctuate after_comma ls) → comma ∷ ls ≡ lexemes true (punctuate after_comma ls)
  at_comma [] h = absurd h.0
  at_comma (token begin_object ∷ ls) h = ap (λ (l : List Lexeme). comma ∷ token begin_object ∷ l) (at_fresh ls h.1)
  at_comma (token end_object ∷ ls) h = absurd h.0
  at_comma (token begin_array ∷ ls) h = ap (λ (l : List Lexeme). comma ∷ token begin_array ∷ l) (at_fresh ls h.1)
  at_comma (token end_array ∷ ls) h = absurd h.0
  at_comma (token (key s) ∷ ls) h = absurd h.0
  at_comma (token (string s) ∷ []) h = refl
  at_comma (token (string s) ∷ token t ∷ ls) h = ap (λ (l : List Lexeme). comma ∷ token (string s) ∷ l) (at_value (token t ∷ ls) h.1)
  at_comma (token (string s) ∷ comma ∷ ls) h = ap (λ (l : List Lexeme). comma ∷ token (string s) ∷ l) (at_value (comma ∷ ls) h.1)
  at_comma (token (string s) ∷ colon ∷ ls) h = ap (λ (l : List Lexeme). comma ∷ token (string s) ∷ colon ∷ l) (at_fresh ls h.1)
  at_comma (token (number s) ∷ ls) h = ap (λ (l : List Lexeme). comma ∷ token (number s) ∷ l) (at_value ls h.1)
  at_comma (token (boolean b) ∷ ls) h = ap (λ (l : List Lexeme). comma ∷ token (boolean b) ∷ l) (at_value ls h.1)
  at_comma (token null ∷ ls) h = ap (λ (l : List Lexeme). comma ∷ token null ∷ l) (at_value ls h.1)
  at_comma (token bad ∷ ls) h = absurd h.0
  at_comma (comma ∷ ls) h = absurd h.0
  at_comma (colon ∷ ls) h = absurd h.0

pub good_text : (s : List ℕ) → ArePrintable (tokens s) → AllGood (lex between s)
good_text s h = subst AllGood (sym (at_fresh (lex between s) h)) (good_lexemes false (tokens s) h)

-- two spellings of the same tokens
pub same_lexemes : (s t : List ℕ) → ArePrintable (tokens s) → tokens s ≡ tokens t → lex between s ≡ lex between t
same_lexemes s t h e = at_fresh (lex between s) h ∙ ap (lexemes false) e ∙ sym (at_fresh (lex between t) (subst ArePrintable e h))

-- ---- the text s between two prints

pub front_printable : (ts us : List Token) → ArePrintable (ts ++ us) → ArePrintable ts
unfolding ArePrintable
front_printable [] us h = tt
front_printable (t ∷ ts) us h = (h.0, front_printable ts us h.1)

abbrev state : List Token → Bool
state ts = fold (λ _ t. ends t) false ts

-- s is a text whose tokens leave a value just ended; before it a print that wants a value, after it one that goes on
pub tokens-within : (before after : List Token) (s : List ℕ) → ArePrintable before → ArePrintable (tokens s) → ArePrintable (before ++ (tokens s ++ after))
    → state before ≡ false → state (tokens s) ≡ true → ends_word (s ++ print_from true after) ≡ true
    → ends_word (print (tokens s) ++ print_from true after) ≡ true → ends_word (print_from true after) ≡ true
    → tokens (print before ++ (s ++ print_from true after)) ≡ before ++ (tokens s ++ after)
tokens-within before after s front middle all opens closes starts starts' goes_on =
    let B = print_from true after in
    let A = print before in
    let c = print (tokens s) in
    let read_front : tokens (print before) ≡ before = tokens-print before front in
    let good_front : AllGood (lex between (print before)) = good_text (print before) (subst ArePrintable (sym read_front) front) in
    let read_middle : tokens (print (tokens s)) ≡ tokens s = tokens-print (tokens s) middle in
    let same : lex between s ≡ lex between (print (tokens s)) = same_lexemes s (print (tokens s)) middle (sym read_middle) in
    let left = lex-append (print before) (s ++ print_from true after) starts good_front
    ∙ ap (λ (l : List Lexeme). lex between (print before) ++ l) (lex-append s (print_from true after) goes_on (good_text s middle)) in
    let right = lex-append (print before) (print (tokens s) ++ print_from true after) starts' good_front
    ∙ ap (λ (l : List Lexeme). lex between (print before) ++ l)
    (lex-append (print (tokens s)) (print_from true after) goes_on (good_text (print (tokens s)) (subst ArePrintable (sym read_middle) middle))) in
    let canonical : print (before ++ (tokens s ++ after)) ≡ print before ++ (print (tokens s) ++ print_from true after) =
    print_from-append false before (tokens s ++ after)
    ∙ ap (λ b. print before ++ print_from b (tokens s ++ after)) opens
    ∙ ap (λ (l : List ℕ). print before ++ l) (print_from-append false (tokens s) after ∙ ap (λ b. print (tokens s) ++ print_from b after) closes) in
    ap (punctuate fresh) (left ∙ ap (λ (l : List Lexeme). lex between (print before) ++ (l ++ lex between (print_from true after))) same
    ∙ sym right ∙ ap (lex between) (sym canonical))
    ∙ tokens-print (before ++ (tokens s ++ after)) all
