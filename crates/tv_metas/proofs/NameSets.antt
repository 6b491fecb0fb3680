-- Names that are gathered in a set of texts.
use Rattle.std.proofs.Common.{◌≡◌, ℕ, Bool, ◌||◌, List, ◌∷◌, map, sym, ap, ◌∙◌, string_bytes, String, Global}
use Rattle.std.specs.String.{string_cmp}
use Rattle.std.specs.BTreeSet.{insert_key}
use Rattle.tv_formats.specs.Names.{has, is}
use Rattle.tv_formats.proofs.Entries.{has_put}
use Rattle.tv_formats.proofs.TextSets.{texts_inserted}
use Rattle.tv_formats.proofs.CollectedNames.{or_moved}

-- one name more is put to the set
pub one_put : (keys new : List (String Global)) (key : String Global) (x : List ℕ) (names rest : List (List ℕ)) (n : List ℕ) (all : Bool) → names ≡ x ∷ rest
    → new ≡ insert_key string_cmp keys key → string_bytes key ≡ x
    → (has (map string_bytes keys) n || has names n) ≡ all → (has (map string_bytes new) n || has rest n) ≡ all
one_put keys new key x names rest n all split put text h =
    let now : has (map string_bytes new) n ≡ (is x n || has (map string_bytes keys) n) =
    ap (λ (ns : List (List ℕ)). has ns n) (texts_inserted keys new key x put text) ∙ has_put (map string_bytes keys) x n in
    ap (λ (b : Bool). b || has rest n) now ∙ or_moved (is x n) (has (map string_bytes keys) n) (has rest n)
    ∙ ap (λ (ns : List (List ℕ)). has (map string_bytes keys) n || has ns n) (sym split) ∙ h
