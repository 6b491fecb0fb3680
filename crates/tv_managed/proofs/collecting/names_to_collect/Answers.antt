use Rattle.std.proofs.Common.{rules, ◌≡◌, ℕ, Bool, List, ◌∷◌, [], ◌++◌, true, false, cond, not, map, string_bytes, sym, ap, ◌∙◌, append-nil}
use Rattle.std.proofs.lemmas.List.{map-append}
use Rattle.std.proofs.lemmas.List.Elements.{filter-append}
use Rattle.std.proofs.lemmas.Map.Iter.{iter_end}
use Rattle.std.proofs.lemmas.Simd.{map-map}
use Rattle.tv_formats.specs.Names.{has}
use Rattle.tv_formats.specs.Collections.{collectable}
use Rattle.tv_managed.specs.Collecting.{names_of, texts_of}
use Rattle.tv_managed.proofs.collecting.names_to_collect.Goals as goal

collected : (living names : List (List ℕ)) (name : List ℕ) (b : Bool) → has living name ≡ b → collectable living (names ++ name ∷ []) ≡ collectable living names ++ cond (not b) (name ∷ []) []
collected living names name b e = rw (← e) (filter-append (λ n. not (has living n)) names (name ∷ []))

pub loop-name-preserved-in-Continue-1 : goal.loop-name-preserved-in-Continue-1
loop-name-preserved-in-Continue-1 c =
    let living = names_of c.args.living.now.keys ++ texts_of c.args.held.now.keys in
    let ys = map (λ name. string_bytes name.now) c.loop-name.yielded in
    let isnt : has living (string_bytes c.in-Some.name.now) ≡ false = rw (← c.as_str.ensures.value) (sym c.if-not-is_needed.ensures) in
    ap texts_of c.in_ok-push.ensures.items
    ∙ map-append (λ text. text.now) c.loop-name.names.items (c.as_str-then-not-is_needed.result ∷ [])
    ∙ ap (λ (l : List (List ℕ)). l ++ c.as_str-then-not-is_needed.result.now ∷ []) c.loop-name.invariant
    ∙ ap (λ (n : List ℕ). collectable living ys ++ n ∷ []) c.as_str-then-not-is_needed.ensures.value
    ∙ sym (ap (collectable living) (map-append (λ name. string_bytes name.now) c.loop-name.yielded (c.in-Some.name ∷ [])) ∙ collected living ys (string_bytes c.in-Some.name.now) false isnt)

pub loop-name-preserved : goal.loop-name-preserved
loop-name-preserved c =
    let living = names_of c.args.living.now.keys ++ texts_of c.args.held.now.keys in
    let ys = map (λ name. string_bytes name.now) c.loop-name.yielded in
    let is : has living (string_bytes c.in-Some.name.now) ≡ true = rw (← c.as_str.ensures.value) (sym c.if-not-is_needed.ensures) in
    c.loop-name.invariant
    ∙ sym (ap (collectable living) (map-append (λ name. string_bytes name.now) c.loop-name.yielded (c.in-Some.name ∷ [])) ∙ collected living ys (string_bytes c.in-Some.name.now) true is ∙ append-nil (collectable living ys))

pub returns : goal.returns
returns c =
    let all : map (λ name. name.now) c.loop-name.yielded ≡ c.args.managed.now.keys = search (rules, iter_end) in
    c.loop-name.invariant
    ∙ ap (collectable (names_of c.args.living.now.keys ++ texts_of c.args.held.now.keys)) (sym (map-map string_bytes (λ name. name.now) c.loop-name.yielded) ∙ ap names_of all)
