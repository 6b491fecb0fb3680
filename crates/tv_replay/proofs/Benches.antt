-- What stands under a path, pair by pair.
use Rattle.std.proofs.Common.{◌≡◌, ℕ, ◌+◌, ◌<◌, Bool, true, false, cond, List, ◌∷◌, length, drop, get_or, Option, Some, refl, sym, ap, ◌∙◌}
use Rattle.std.specs.Prelude.{String, Vec, string_bytes}
use Rattle.std.specs.BTreeMap.{is_at}
use Rattle.std.proofs.lemmas.List.{drop_more}
use Rattle.tv_formats.specs.Names.{byte_cmp, is, at}
use Rattle.tv_formats.proofs.Entries.{at_itself, text_at, is_text, is_itself}
use Rattle.tv_device.specs.StoredFiles.{named}

-- under a path stands what the first pair has, where that is of the path
first : {X Y : Type 0} (pairs : List (String X × Vec ℕ Y)) (i : ℕ) (pair : String X × Vec ℕ Y) (path : List ℕ) → i < length pairs → pair ≡ get_or pairs i pair → at (named (drop i pairs)) path ≡ cond (is_at (byte_cmp path) (string_bytes pair.0)) (Some pair.1.items) (at (named (drop (i + 1) pairs)) path)
first {X} {Y} pairs i pair path inside found =
    ap (λ (l : List (String X × Vec ℕ Y)). at (named l) path)
    (drop_more pairs i pair inside ∙ ap (λ (p : String X × Vec ℕ Y). p ∷ drop (i + 1) pairs) (sym found))

taken : {X : Type 0} (b : Bool) (x : X) (rest : Option X) → b ≡ true → cond b (Some x) rest ≡ Some x
taken true x rest e = refl
taken false x rest e = absurd cc

passed : {X : Type 0} (b : Bool) (x : X) (rest : Option X) → (b ≡ true → ⊥) → cond b (Some x) rest ≡ rest
passed true x rest h = absurd (h refl)
passed false x rest h = refl

-- the pair is of the path
pub pair_found : {X Y : Type 0} (pairs : List (String X × Vec ℕ Y)) (i : ℕ) (pair : String X × Vec ℕ Y) (path bytes : List ℕ) → i < length pairs → pair ≡ get_or pairs i pair → at (named pairs) path ≡ at (named (drop i pairs)) path → true ≡ is (string_bytes pair.0) path → bytes ≡ pair.1.items → Some bytes ≡ at (named pairs) path
pair_found pairs i pair path bytes inside found so_far same is_bytes =
    let key : path ≡ string_bytes pair.0 = sym (is_text (string_bytes pair.0) path (sym same)) in
    let here : is_at (byte_cmp path) (string_bytes pair.0) ≡ true = ap (λ (k : List ℕ). is_at (byte_cmp path) k) (sym key) ∙ at_itself path in
    sym (so_far ∙ first pairs i pair path inside found ∙ taken _ pair.1.items (at (named (drop (i + 1) pairs)) path) here ∙ ap Some (sym is_bytes))

-- the pair is of another path
pub pair_passed : {X Y : Type 0} (pairs : List (String X × Vec ℕ Y)) (i : ℕ) (pair : String X × Vec ℕ Y) (path : List ℕ) → i < length pairs → pair ≡ get_or pairs i pair → at (named pairs) path ≡ at (named (drop i pairs)) path → false ≡ is (string_bytes pair.0) path → at (named pairs) path ≡ at (named (drop (i + 1) pairs)) path
pair_passed pairs i pair path inside found so_far other =
    let elsewhere : is_at (byte_cmp path) (string_bytes pair.0) ≡ true → ⊥ = λ e.
    let key : string_bytes pair.0 ≡ path = sym (text_at path (string_bytes pair.0) e) in
    let same : is (string_bytes pair.0) path ≡ true = ap (λ (k : List ℕ). is k path) key ∙ is_itself path in
    let clash : false ≡ true = other ∙ same in absurd cc in
    so_far ∙ first pairs i pair path inside found ∙ passed _ pair.1.items (at (named (drop (i + 1) pairs)) path) elsewhere
