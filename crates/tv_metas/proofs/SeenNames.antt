-- Texts that are looked up one by one in a set of those before them.
use Rattle.std.proofs.Common.{◌≡◌, ℕ, Bool, true, false, not, ◌&&◌, ◌||◌, List, [], ◌∷◌, map, Bor, refl, sym, ap, ◌∙◌, subst, arith}
use Rattle.std.specs.Prelude.{String, string_bytes}
use Rattle.std.specs.declared.alloc.Global.{Global}
use Rattle.std.specs.declared.cmp.Ordering.{Ordering}
use Rattle.std.specs.declared.cmp.Ordering.TheVariants.{Less, Equal, Greater}
use Rattle.std.specs.BTreeMap.{is_at}
use Rattle.std.specs.BTreeSet.{insert_key}
use Rattle.std.specs.List.{list_any}
use Rattle.std.specs.Ordering.{match_ordering}
use Rattle.tv_formats.specs.Ids.{are_distinct}
use Rattle.tv_formats.specs.Names.{byte_cmp, has, is}
use Rattle.tv_formats.proofs.Apart.{are_news, first, more}
use Rattle.tv_formats.proofs.Entries.{has_put, is_by_order, same_at}

abbrev pub Text : Type 0
Text = Bor (List ℕ)

abbrev pub text_cmp : Text → Text → Ordering
text_cmp a b = byte_cmp a.now b.now

abbrev pub seen_texts : List Text → List (List ℕ)
seen_texts keys = map (λ key. key.now) keys

put_seen : (keys : List Text) (key : Text) → seen_texts (insert_key text_cmp keys key) ≡ insert_key byte_cmp (seen_texts keys) key.now
put_seen [] key = refl
put_seen (k ∷ keys) key =
    elim (text_cmp key k) as (λ r. seen_texts (match_ordering r (key ∷ k ∷ keys) (k ∷ keys) (k ∷ insert_key text_cmp keys key)) ≡ match_ordering r
    (key.now ∷ k.now ∷ seen_texts keys) (k.now ∷ seen_texts keys) (k.now ∷ insert_key byte_cmp (seen_texts keys) key.now)) [
      | Less ↦ refl
      | Equal ↦ refl
      | Greater ↦ ap (λ (l : List (List ℕ)). k.now ∷ l) (put_seen keys key)
    ]

-- whether a key is in the set
pub known : (keys : List Text) (key : Text) → list_any (is_at (text_cmp key)) keys ≡ has (seen_texts keys) key.now
known [] key = refl
known (k ∷ keys) key = rw (is_by_order key.now k.now, known keys key) refl

-- none is seen at first
pub none_seen : (keys : List Text) (names : List (List ℕ)) → keys ≡ [] → are_distinct names ≡ are_news (has (seen_texts keys)) names
none_seen keys names e = subst (λ (ks : List Text). are_distinct names ≡ are_news (has (seen_texts ks)) names) (sym e) (first (has []) (λ q. refl) names)

-- one more is seen
pub one_seen : (all : Bool) (old new : List Text) (key : Text) (left names : List (String Global)) (name : String Global)
    → all ≡ are_news (has (seen_texts old)) (map string_bytes left) → left ≡ name ∷ names → key.now ≡ string_bytes name
    → new ≡ insert_key text_cmp old key → has (seen_texts old) key.now ≡ false → all ≡ are_news (has (seen_texts new)) (map string_bytes names)
one_seen all old new key left names name e l k n absent =
    let adds : (q : List ℕ) → has (seen_texts new) q ≡ (is key.now q || has (seen_texts old) q) =
    λ q. ap (λ (keys : List Text). has (seen_texts keys) q) n ∙ ap (λ (texts : List (List ℕ)). has texts q) (put_seen old key)
    ∙ has_put (seen_texts old) key.now q in
    e ∙ ap (λ (l : List (String Global)). are_news (has (seen_texts old)) (map string_bytes l)) l
    ∙ ap (λ (text : List ℕ). are_news (has (seen_texts old)) (text ∷ map string_bytes names)) (sym k)
    ∙ more (has (seen_texts old)) (has (seen_texts new)) key.now
    (λ q. adds q ∙ ap (λ (b : Bool). b || has (seen_texts old) q) (is_by_order q key.now ∙ same_at q key.now) ∙ grind arith) absent (map string_bytes names)

-- one is seen twice
pub seen_twice : (all : Bool) (old : List Text) (key : Text) (left names : List (String Global)) (name : String Global)
    → all ≡ are_news (has (seen_texts old)) (map string_bytes left) → left ≡ name ∷ names → key.now ≡ string_bytes name → has (seen_texts old) key.now ≡ true
    → false ≡ all
seen_twice all old key left names name e l k there =
    let here : has (seen_texts old) (string_bytes name) ≡ true = subst (λ (text : List ℕ). has (seen_texts old) text ≡ true) k there in
    sym (e ∙ ap (λ (l : List (String Global)). are_news (has (seen_texts old)) (map string_bytes l)) l
    ∙ ap (λ (b : Bool). not (b || list_any (has (seen_texts old)) (map string_bytes names)) && are_distinct (string_bytes name ∷ map string_bytes names)) here)
