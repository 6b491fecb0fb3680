-- The words of commands.
use Rattle.std.proofs.Common.{◌≡◌, ℕ, ◌<◌, ◌≤◌, Bool, true, false, List, [], ◌∷◌, length, map, get_or, Option, Some, None, codes, nat_eq, refl, sym, ap, ◌∙◌, arith}
use Rattle.std.specs.Fmt.{decimal}
use Rattle.std.specs.Cmp.Lexicographic.{pointwise, same_text}
use Rattle.tv_replay.specs.Commands.{generate_words, replay_words, space_words, IsNoCommand}
use Rattle.tv_script.specs.Fields.{number_at}
use Rattle.tv_script.proofs.Numbers.{number_again}

-- three words
pub three_words : {A : Type 0} (text : A → List ℕ) (words : List A) (a b c : A) (first folder path : List ℕ) → 3 ≤ length words → length words < 4 → a ≡ get_or words 0 a → b ≡ get_or words 1 b → c ≡ get_or words 2 c
    → first ≡ text a → folder ≡ text b → path ≡ text c → first ∷ folder ∷ path ∷ [] ≡ map text words
three_words text (x ∷ y ∷ z ∷ []) a b c first folder path more less ia ib ic ta tb tc =
    let x_is : first ≡ text x = ta ∙ ap text ia in
    let y_is : folder ≡ text y = tb ∙ ap text ib in
    let z_is : path ≡ text z = tc ∙ ap text ic in
    rw (x_is, y_is, z_is) refl
three_words text other a b c first folder path more less ia ib ic ta tb tc = absurd (omega arith)

-- the first of which is this one
pub are_of : (keyword first folder path : List ℕ) → true ≡ pointwise nat_eq first keyword → first ∷ folder ∷ path ∷ [] ≡ keyword ∷ folder ∷ path ∷ []
are_of keyword first folder path is = ap (λ (w : List ℕ). w ∷ folder ∷ path ∷ []) (same_text first keyword is)

another : (keyword first : List ℕ) → true ≡ pointwise nat_eq keyword keyword → false ≡ pointwise nat_eq first keyword → first ≡ keyword → ⊥
another keyword first same other is = let clash : ◌≡◌ {A = Bool} false true = other ∙ ap (λ (w : List ℕ). pointwise nat_eq w keyword) is ∙ sym same in absurd cc

-- the first of which is of no command
pub are_none : (first folder path : List ℕ) → false ≡ pointwise nat_eq first (codes "replay") → false ≡ pointwise nat_eq first (codes "space") → IsNoCommand (first ∷ folder ∷ path ∷ [])
are_none first folder path replay space = record {
  no_replay = λ f p is.
      let both : ◌≡◌ {A = List (List ℕ)} (first ∷ folder ∷ path ∷ []) (replay_words f p) = is in
      let head : first ≡ codes "replay" = cc in
      another (codes "replay") first refl replay head;
  no_space = λ f p is.
      let both : ◌≡◌ {A = List (List ℕ)} (first ∷ folder ∷ path ∷ []) (space_words f p) = is in
      let head : first ≡ codes "space" = cc in
      another (codes "space") first refl space head;
  no_generate = λ n few is. let both : ◌≡◌ {A = List (List ℕ)} (first ∷ folder ∷ path ∷ []) (generate_words n) = is in absurd cc;
}

-- two words of which the first is `generate`
pub are_generate : {A : Type 0} (text : A → List ℕ) (words : List A) (a b : A) (first number : List ℕ) → 2 ≤ length words → length words < 3 → a ≡ get_or words 0 a → b ≡ get_or words 1 b → first ≡ text a → number ≡ text b
    → true ≡ pointwise nat_eq first (codes "generate") → map text words ≡ codes "generate" ∷ number ∷ []
are_generate text (x ∷ y ∷ []) a b first number more less ia ib ta tb is =
    let generate : first ≡ codes "generate" = same_text first (codes "generate") is in
    let x_is : text x ≡ codes "generate" = ap text (sym ia) ∙ sym ta ∙ generate in
    let y_is : text y ≡ number = ap text (sym ib) ∙ sym tb in
    rw (x_is, y_is) refl
are_generate text other a b first number more less ia ib ta tb is = absurd (omega arith)

-- the number isn't one of as many commits as are generated
pub no_command : (words : List (List ℕ)) (number : List ℕ) → words ≡ codes "generate" ∷ number ∷ [] → number_at 1001 number ≡ None → IsNoCommand words
no_command words number are none = record {
  no_replay = λ folder path is. let both : ◌≡◌ {A = List (List ℕ)} (codes "generate" ∷ number ∷ []) (replay_words folder path) = sym are ∙ is in absurd cc;
  no_space = λ folder path is. let both : ◌≡◌ {A = List (List ℕ)} (codes "generate" ∷ number ∷ []) (space_words folder path) = sym are ∙ is in absurd cc;
  no_generate = λ n few is.
      let both : ◌≡◌ {A = List (List ℕ)} (codes "generate" ∷ number ∷ []) (generate_words n) = sym are ∙ is in
      let spelled : number ≡ decimal n = cc in
      let clash : ◌≡◌ {A = Option ℕ} None (Some n) = sym none ∙ ap (number_at 1001) spelled ∙ number_again 1001 n (omega (arith, few)) (omega (arith, few)) in
      absurd cc;
}
