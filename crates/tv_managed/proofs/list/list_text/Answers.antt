use Rattle.std.proofs.Common.{rules, ◌≡◌, ◌∷◌, ◌++◌, [], List, ℕ, map, string_bytes, refl, sym, ap, ap₂, ◌∙◌}
use Rattle.std.proofs.lemmas.List.{map-append}
use Rattle.std.proofs.lemmas.Map.Iter.{iter_end}
use Rattle.std.proofs.lemmas.Simd.{map-map}
use Rattle.json.specs.Print.{print}
use Rattle.json.specs.Token.{Token, begin_array, end_array, string}
use Rattle.json.specs.Tree.{items_tokens}
use Rattle.serde_json.specs.Data as trees
use Rattle.serde_json.specs.View.{items_of}
use Rattle.serde_json.specs.Written.{compact_text, items_outline}
use Rattle.serde_json.proofs.Texts.{print-outline}
use Rattle.tv_formats.specs.Listing.{list_tree}
use Rattle.tv_managed.proofs.list.list_text.Goals as goal

string_tokens : (names : List (List ℕ)) → map string names ++ end_array ∷ [] ≡ items_tokens (items_outline (items_of (map trees.string names)))
string_tokens [] = refl
string_tokens (n ∷ ns) = ap (λ (ts : List Token). string n ∷ ts) (string_tokens ns)

printed : (names : List (List ℕ)) → print (begin_array ∷ (map string names ++ end_array ∷ [])) ≡ compact_text (list_tree names)
printed names = ap (λ (ts : List Token). print (begin_array ∷ ts)) (string_tokens names) ∙ print-outline (list_tree names)

pub loop-name-preserved : goal.loop-name-preserved
loop-name-preserved c = record {
  before = c.string.ensures.room.0 ∙ c.loop-name.invariant.before;
  tokens =
      c.in_ok-string.ensures.ok
      ∙ ap₂ (λ (ts : List Token) (n : List ℕ). ts ++ string n ∷ []) c.loop-name.invariant.tokens c.as_str.ensures.value
      ∙ ap (λ (ts : List Token). begin_array ∷ ts) (sym (map-append (λ name. string (string_bytes name.now)) c.loop-name.yielded (c.in-Some.name ∷ [])));
}

pub returns : goal.returns
returns c =
    let names = map string_bytes c.args.names.now.keys in
    let all : map (λ name. name.now) c.loop-name.yielded ≡ c.args.names.now.keys = search (rules, iter_end) in
    let each : map (λ name. string (string_bytes name.now)) c.loop-name.yielded ≡ map string names =
    sym (ap (map string) (map-map string_bytes (λ name. name.now) c.loop-name.yielded) ∙ map-map string (λ name. string_bytes name.now) c.loop-name.yielded)
    ∙ ap (λ keys. map string (map string_bytes keys)) all in
    let written : c.end_array.new.self.tokens ≡ begin_array ∷ (map string names ++ end_array ∷ []) =
    c.in_ok-end_array.ensures.ok ∙ ap (λ (ts : List Token). ts ++ end_array ∷ []) (c.loop-name.invariant.tokens ∙ ap (λ (ts : List Token). begin_array ∷ ts) each) in
    c.in_ok-push.ensures.items
    ∙ ap (λ (t : List ℕ). t ++ 10 ∷ [])
    (c.into_inner-text.ensures.items ∙ ap₂ (λ (b : List ℕ) (ts : List Token). b ++ print ts) (c.end_array.ensures.room.0 ∙ c.loop-name.invariant.before) written ∙ printed names)
