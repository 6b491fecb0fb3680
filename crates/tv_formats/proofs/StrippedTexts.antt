-- A text without blanks that is read as an array begins with a bracket.
use Rattle.std.proofs.Common.{◌≡◌, ℕ, Bool, true, false, cond, ◌&&◌, ◌==◌, List, [], ◌∷◌, Option, Some, None, option_map, refl, sym, ap, ◌∙◌, subst, true≢false, eqb-true, if◌then◌else◌}
use Rattle.std.specs.Prelude.{nat_eq, length, drop, IsUtf8}
use Rattle.std.specs.List.{starts_with}
use Rattle.json.specs.Token.{Token, begin_object, end_object, begin_array, end_array, key, string, number, boolean, null, bad}
use Rattle.json.specs.Ascii as ascii
use Rattle.json.specs.Word.{head, word, ends_word, literal, number_before, after_number}
use Rattle.json.specs.Word as words
use Rattle.json.specs.Text.{content, plain}
use Rattle.json.specs.Lex.{Lexeme, token, comma, colon, quote, backslash, operator, space, other, string_token, Mode, between, lex_byte, lex, tokens}
use Rattle.json.specs.Print.{print, print_from, ArePrintable}
use Rattle.json.specs.Json as json
use Rattle.json.specs.Tree.{json_tokens}
use Rattle.json.proofs.Printed.Tokens.{tokens-print}
use Rattle.json.proofs.Printed.Trees.{ArePrintable-json_tokens}
use Rattle.serde_json.specs.Data.{Data, Items}
use Rattle.serde_json.specs.Data as trees
use Rattle.serde_json.specs.Read.{read, of_json, of_members, number_of}
use Rattle.tv_formats.specs.Schemas.{is_blank, stripped, stripped_inside, IsSchemaTree, IsSchemaText}
use Rattle.tv_formats.proofs.JsonWithin.{same_lexemes}
use Rattle.tv_formats.proofs.JsonReadBack.{spelled}

-- ---- the first lexeme of a text

abbrev is_bracket : Token → Bool
is_bracket begin_object = false
is_bracket end_object = false
is_bracket begin_array = true
is_bracket end_array = false
is_bracket (key s) = false
is_bracket (string s) = false
is_bracket (number s) = false
is_bracket (boolean b) = false
is_bracket null = false
is_bracket bad = false

abbrev opens : List Lexeme → Bool
opens [] = false
opens (token t ∷ ls) = is_bracket t
opens (comma ∷ ls) = false
opens (colon ∷ ls) = false

either : (b : Bool) (t u : Token) → is_bracket t ≡ false → is_bracket u ≡ false → is_bracket (cond b t u) ≡ false
either true t u p q = p
either false t u p q = q

no_string : (o : Option (List ℕ)) → is_bracket (string_token o) ≡ false
no_string None = refl
no_string (Some s) = refl

no_number : (t : List ℕ) (o : Option (List ℕ)) → is_bracket (number_before t o) ≡ false
no_number t None = refl
no_number t (Some rest) = either (ends_word rest) _ bad refl refl

no_literal : (name : List ℕ) (k : Token) (t : List ℕ) → is_bracket k ≡ false → is_bracket (literal name k t) ≡ false
no_literal name k t h = either (starts_with nat_eq t name && ends_word (drop (length name) t)) k bad h refl

no_word : (t : List ℕ) → is_bracket (word t) ≡ false
unfolding word
no_word t =
    let n = number_before t (after_number t) in
    let third = cond (head t == ascii.lower_n) (literal ascii.null_text null t) n in
    let second = cond (head t == ascii.lower_f) (literal ascii.false_text (boolean false) t) third in
    let third_is : is_bracket third ≡ false =
    either (head t == ascii.lower_n) (literal ascii.null_text null t) n (no_literal ascii.null_text null t refl) (no_number t (after_number t)) in
    let second_is : is_bracket second ≡ false =
    either (head t == ascii.lower_f) (literal ascii.false_text (boolean false) t) third (no_literal ascii.false_text (boolean false) t refl) third_is in
    either (head t == ascii.lower_t) (literal ascii.true_text (boolean true) t) second (no_literal ascii.true_text (boolean true) t refl) second_is

by_operator : (x : ℕ) (xs : List Lexeme) (a b c d e : Bool) → (x == 91) ≡ c
    → opens (cond a (token begin_object) (cond b (token end_object) (cond c (token begin_array) (cond d (token end_array) (cond e comma colon)))) ∷ xs) ≡ true
    → x ≡ 91
by_operator x xs true b c d e is h = absurd (true≢false (sym h))
by_operator x xs false true c d e is h = absurd (true≢false (sym h))
by_operator x xs false false true d e is h = eqb-true x 91 is
by_operator x xs false false false true e is h = absurd (true≢false (sym h))
by_operator x xs false false false false true is h = absurd (true≢false (sym h))
by_operator x xs false false false false false is h = absurd (true≢false (sym h))

by_class : (x : ℕ) (xs : List ℕ) (k : Mode → List Lexeme) (q b o s : Bool) → s ≡ false
    → opens (lex_byte between (cond q quote (cond b backslash (cond o operator (cond s space other)))) x xs k) ≡ true → x ≡ 91
by_class x xs k true b o s f h = absurd (true≢false (sym h ∙ no_string (content plain xs)))
by_class x xs k false true o s f h = absurd (true≢false (sym h))
by_class x xs k false false true s f h = by_operator x (k between) _ _ (x == 91) _ _ refl h
by_class x xs k false false false true f h = absurd (true≢false f)
by_class x xs k false false false false f h = absurd (true≢false (sym h ∙ no_word (x ∷ xs)))

first_is : (x : ℕ) (xs : List ℕ) → is_blank x ≡ false → opens (lex between (x ∷ xs)) ≡ true → x ≡ 91
unfolding lex
first_is x xs f h = by_class x xs (λ next. lex next xs) (x == 34) (x == 92) (words.is_operator x) (words.is_space x) f h

-- ---- a text that is read as an array

mapped : {A B : Type 0} (f : A → B) (o : Option A) (y : B) → option_map f o ≡ Some y → (x : A) × (f x ≡ y)
mapped f None y h = cc
mapped f (Some x) y h = (x, cc)

array_of : (j : json.Json) (ds : Items) → of_json j ≡ Some (trees.array ds) → (js : json.Items) × (j ≡ json.array js)
array_of json.null ds h = cc
array_of (json.boolean b) ds h = cc
array_of (json.number s) ds h = let m = mapped trees.number (number_of s) (trees.array ds) h in cc
array_of (json.string s) ds h = cc
array_of (json.array js) ds h = (js, refl)
array_of (json.object ms) ds h = let m = mapped trees.object (of_members ms trees.no_members) (trees.array ds) h in cc

opens_array : (js : json.Items) → opens (lex between (print (json_tokens (json.array js)))) ≡ true
unfolding lex print_from
opens_array js = refl

opened : (text : List ℕ) (ds : Items) → read text ≡ Some (trees.array ds) → opens (lex between text) ≡ true
opened text ds is =
    let s = spelled text (trees.array ds) is in
    let j = array_of s.tree ds s.means in
    let printable : ArePrintable (json_tokens s.tree) = ArePrintable-json_tokens s.tree s.numbers in
    let again : tokens (print (json_tokens s.tree)) ≡ json_tokens s.tree = tokens-print (json_tokens s.tree) printable in
    let same : lex between text ≡ lex between (print (json_tokens s.tree)) =
    same_lexemes text (print (json_tokens s.tree)) (subst ArePrintable (sym s.same) printable) (s.same ∙ sym again) in
    ap opens same ∙ ap (λ (t : json.Json). opens (lex between (print (json_tokens t)))) j.1 ∙ opens_array j.0

begins_so : (text : List ℕ) → ((x : ℕ) (xs : List ℕ) → text ≡ x ∷ xs → is_blank x ≡ false) → opens (lex between text) ≡ true
    → (rest : List ℕ) × (text ≡ 91 ∷ rest)
unfolding lex
begins_so [] h o = absurd (true≢false (sym o))
begins_so (x ∷ xs) h o = (xs, ap (λ (y : ℕ). y ∷ xs) (first_is x xs (h x xs refl) o))

-- ---- a text without blanks begins with no blank

by_blank : (b : ℕ) (left kept : List ℕ) (x : ℕ) (xs : List ℕ) (blank : Bool) → is_blank b ≡ blank → (left ≡ x ∷ xs → is_blank x ≡ false)
    → (if blank then left else b ∷ kept) ≡ x ∷ xs → is_blank x ≡ false
by_blank b left kept x xs true is ih e = ih e
by_blank b left kept x xs false is ih e = let same : b ≡ x = cc in ap is_blank (sym same) ∙ is

no_blank_first : (bytes : List ℕ) (x : ℕ) (xs : List ℕ) → stripped bytes ≡ x ∷ xs → is_blank x ≡ false
no_blank_first [] x xs e = cc
no_blank_first (b ∷ bytes) x xs e =
    by_blank b (stripped bytes) (if b == 34 then stripped_inside bytes else stripped bytes) x xs (is_blank b) refl (no_blank_first bytes x xs) e

-- a text without blanks that has a schema's tree is a schema's
pub stripped_schema : (bytes : List ℕ) (tree : Data) (names : List (List ℕ)) → IsUtf8 (stripped bytes) → read (stripped bytes) ≡ Some tree
    → IsSchemaTree tree names → IsSchemaText (stripped bytes) tree
stripped_schema bytes tree names u is form =
    let array : read (stripped bytes) ≡ Some (trees.array form.items) = is ∙ ap Some form.is_array in
    let begins = begins_so (stripped bytes) (no_blank_first bytes) (opened (stripped bytes) form.items array) in
    record { utf8 = u; rest = begins.0; begins = begins.1; parsed = is; names = names; form = form }
