-- What a JSON text that is read has for its tokens, and a text with a tree's tokens is read as that tree.
use Rattle.std.proofs.Common.{◌≡◌, ℕ, ◌≤◌, Bool, true, false, List, [], ◌∷◌, ◌++◌, fold, Option, Some, None, option_and_then, refl, sym, ap, ◌∙◌, subst, append-nil, max, arith}
use Rattle.std.proofs.lemmas.List.Sums.{fold-append}
use Rattle.std.proofs.lemmas.Option.{some_pair_parts}
use Rattle.json.specs.Token.{Token, begin_array, end_array}
use Rattle.json.specs.Word.{ends_word}
use Rattle.json.specs.Lex.{Lexeme, lex, between, fresh, punctuate, tokens}
use Rattle.json.specs.Print.{ends, print_from, print, ArePrintable}
use Rattle.json.specs.Json as json
use Rattle.json.specs.Tree.{json_tokens, items_tokens, members_tokens, depth, HasNumbers}
use Rattle.json.proofs.Nesting.{value-depth}
use Rattle.json.proofs.Numbered.{value-HasNumbers, ArePrintableOrBad-tokens}
use Rattle.json.proofs.Printed.Trees.{value-json_tokens, ArePrintable-json_tokens}
use Rattle.json.proofs.Unique.Spelling.{value-json_tokens_back}
use Rattle.serde_json.specs.Data.{Data}
use Rattle.serde_json.specs.Read.{read, of_json}
use Rattle.tv_formats.proofs.JsonWithin.{front_printable, good_text, tokens-within}
use Rattle.tv_formats.proofs.JsonSplice.{lex-append}

-- a text with these tokens reads as their tree
pub read_of_tokens : (text : List ℕ) (j : json.Json) → tokens text ≡ json_tokens j → depth j ≤ 127 → read text ≡ of_json j
read_of_tokens text j is shallow =
    ap (λ o. option_and_then of_json (option_and_then (λ p. json.if_last p.0 p.1) o))
    (ap (json.value 127) (is ∙ sym (append-nil (json_tokens j))) ∙ value-json_tokens j 127 [] shallow)

-- ---- a line feed behind the text

line_feed : lex between (10 ∷ []) ≡ []
unfolding lex
line_feed = refl

pub before_line_feed : (text : List ℕ) (j : json.Json) → HasNumbers j → tokens text ≡ json_tokens j → tokens (text ++ 10 ∷ []) ≡ json_tokens j
before_line_feed text j numbers is =
    let printable : ArePrintable (tokens text) = subst ArePrintable (sym is) (ArePrintable-json_tokens j numbers) in
    ap (punctuate fresh) (lex-append text (10 ∷ []) refl (good_text text printable) ∙ ap (λ (l : List Lexeme). lex between text ++ l) line_feed ∙ append-nil (lex between text))
    ∙ is

-- what a text that is read has for its tokens
pub record Spelled (text : List ℕ) (d : Data) : Type 0 where
  pub tree : json.Json
  pub same : tokens text ≡ json_tokens tree
  pub means : of_json tree ≡ Some d
  pub numbers : HasNumbers tree
  pub shallow : depth tree ≤ 127

whole : (text : List ℕ) (d : Data) (o : Option (json.Json × List Token)) → json.value 127 (tokens text) ≡ o
    → option_and_then of_json (option_and_then (λ p. json.if_last p.0 p.1) o) ≡ Some d → Spelled text d
whole text d None is e = absurd (cc)
whole text d (Some (j, [])) is e = record {
  tree = j;
  same = value-json_tokens_back 127 (tokens text) [] j is ∙ append-nil (json_tokens j);
  means = e;
  numbers = value-HasNumbers 127 (tokens text) [] j (ArePrintableOrBad-tokens text) is;
  shallow = value-depth 127 (tokens text) [] j is;
}
whole text d (Some (j, t ∷ ts)) is e = absurd (cc)

pub spelled : (text : List ℕ) (d : Data) → read text ≡ Some d → Spelled text d
spelled text d e = whole text d _ refl e

-- ---- a value is ended by its last token

mutual
  pub json_ends : (c : Bool) (j : json.Json) → fold (λ _ t. ends t) c (json_tokens j) ≡ true
  json_ends c json.null = refl
  json_ends c (json.boolean b) = refl
  json_ends c (json.number s) = refl
  json_ends c (json.string s) = refl
  json_ends c (json.array js) = items_end false js
  json_ends c (json.object ms) = members_end false ms

  items_end : (c : Bool) (js : json.Items) → fold (λ _ t. ends t) c (items_tokens js) ≡ true
  items_end c json.no_items = refl
  items_end c (json.item j js) = fold-append (λ _ t. ends t) c (json_tokens j) (items_tokens js) ∙ items_end _ js

  members_end : (c : Bool) (ms : json.Members) → fold (λ _ t. ends t) c (members_tokens ms) ≡ true
  members_end c json.no_members = refl
  members_end c (json.member k j ms) = fold-append (λ _ t. ends t) false (json_tokens j) (members_tokens ms) ∙ members_end _ ms

-- ---- a text that is read inside an array too nests one level less than is read

-- tokens are those of one value
pub one_tree : (i j : json.Json) → json_tokens i ≡ json_tokens j → i ≡ j
one_tree i j e =
    let n = max (depth i) (depth j) in
    let left : json.value n (json_tokens i ++ []) ≡ Some (i, []) = value-json_tokens i n [] (omega arith) in
    let right : json.value n (json_tokens j ++ []) ≡ Some (j, []) = value-json_tokens j n [] (omega arith) in
    (some_pair_parts i j [] [] (sym left ∙ ap (λ (ts : List Token). json.value n (ts ++ [])) e ∙ right)).0

-- a text that begins with a bracket begins no word
pub begins_there : (rest r : List ℕ) → ends_word (print (tokens (91 ∷ rest)) ++ r) ≡ true
unfolding lex punctuate print_from
begins_there rest r = refl

-- the tokens of a whole that is printed around such a text
pub around_tokens : (before after : List Token) (whole j : json.Json) (rest : List ℕ) → HasNumbers whole → HasNumbers j
    → tokens (91 ∷ rest) ≡ json_tokens j → json_tokens whole ≡ before ++ (json_tokens j ++ after) → fold (λ _ t. ends t) false before ≡ false
    → ends_word (print_from true after) ≡ true → tokens (print before ++ ((91 ∷ rest) ++ print_from true after)) ≡ json_tokens whole
around_tokens before after whole j rest all numbers same is opens ended =
    let spelled_so : json_tokens whole ≡ before ++ (tokens (91 ∷ rest) ++ after) = is ∙ ap (λ (ts : List Token). before ++ (ts ++ after)) (sym same) in
    let printable = subst ArePrintable spelled_so (ArePrintable-json_tokens whole all) in
    let inner : ArePrintable (tokens (91 ∷ rest)) = subst ArePrintable (sym same) (ArePrintable-json_tokens j numbers) in
    tokens-within before after (91 ∷ rest) (front_printable before (tokens (91 ∷ rest) ++ after) printable) inner printable opens
    (ap (fold (λ _ t. ends t) false) same ∙ json_ends false j) refl (begins_there rest _) ended
    ∙ sym spelled_so

abbrev pub bracketed : json.Json → json.Json
bracketed j = json.array (json.item j json.no_items)

inner_tokens : (rest : List ℕ) (j : json.Json) → tokens (91 ∷ rest) ≡ json_tokens j → HasNumbers j
    → tokens (91 ∷ ((91 ∷ rest) ++ 93 ∷ [])) ≡ json_tokens (bracketed j)
unfolding print_from
inner_tokens rest j same numbers =
    around_tokens (begin_array ∷ []) (end_array ∷ []) (bracketed j) j rest (numbers, tt) numbers same refl refl refl

-- what is known of a text that is read, also inside an array
pub inside_shallow : (rest : List ℕ) (d e : Data) (s : Spelled (91 ∷ rest) d) → read (91 ∷ ((91 ∷ rest) ++ 93 ∷ [])) ≡ Some e → depth s.tree ≤ 126
inside_shallow rest d e s is =
    let w = spelled (91 ∷ ((91 ∷ rest) ++ 93 ∷ [])) e is in
    let same : w.tree ≡ bracketed s.tree = one_tree w.tree (bracketed s.tree) (sym w.same ∙ inner_tokens rest s.tree s.same s.numbers) in
    omega (arith, w.shallow, ap depth same)
