use Rattle.std.proofs.Common.{◌≡◌, ◌++◌, ◌||◌, ◌+◌, ◌∷◌, [], ℕ, List, length, take, get_or, string_bytes, sym, ap, ◌∙◌, arith, ◌<◌}
use Rattle.std.proofs.lemmas.List.{map-append, take_more}
use Rattle.tv_formats.specs.Names.{has, is}
use Rattle.tv_formats.proofs.CollectedNames.{has_append}
use Rattle.tv_managed.specs.Collecting.{names_of, texts_of}
use Rattle.tv_managed.proofs.SetsOfTexts.{lent_put}
use Rattle.tv_managed.proofs.collection.put_names.Goals as goal

-- whether a name is there doesn't depend on where it stands
moved : (before names : List (List ℕ)) (name n : List ℕ) → (is name n || has (before ++ names) n) ≡ has (before ++ (names ++ name ∷ [])) n
moved before names name n = grind (arith, has_append before names n, has_append before (names ++ name ∷ []) n, has_append names (name ∷ []) n)

pub loop-name-preserved : goal.loop-name-preserved
loop-name-preserved c n =
    let i = c.loop-name.name-index in
    let names = c.args.names.now in
    let before = texts_of c.args.set.now.keys in
    let inside : i < length names = omega arith in
    let more : names_of (take (i + 1) names) ≡ names_of (take i names) ++ c.as_str.result.now ∷ [] =
    ap names_of (take_more names i c.name-item.result inside) ∙ map-append string_bytes (take i names) (get_or names i c.name-item.result ∷ [])
    ∙ ap (λ (name : List ℕ). names_of (take i names) ++ name ∷ []) (ap string_bytes (sym c.name-item.is) ∙ sym c.as_str.ensures.value) in
    ap (λ keys. has (texts_of keys) n) c.in_ok-insert.ensures.keys
    ∙ lent_put c.loop-name.set.keys c.as_str.result n
    ∙ ap (λ b. is c.as_str.result.now n || b) (c.loop-name.invariant n)
    ∙ moved before (names_of (take i names)) c.as_str.result.now n
    ∙ ap (λ (l : List (List ℕ)). has (before ++ l) n) (sym more)
