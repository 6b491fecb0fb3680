-- Sets of texts, seen as their bytes.
use Rattle.std.proofs.Common.{◌≡◌, ℕ, List, [], ◌∷◌, map, refl, ap, string_bytes, String, Global}
use Rattle.std.specs.declared.cmp.Ordering.TheVariants.{Less, Equal, Greater}
use Rattle.std.specs.Ordering.{match_ordering}
use Rattle.std.specs.String.{string_cmp}
use Rattle.std.specs.BTreeMap.{is_at}
use Rattle.std.specs.BTreeSet.{insert_key}
use Rattle.std.specs.List.{list_any}
use Rattle.tv_formats.specs.Names.{byte_cmp, has}
use Rattle.tv_formats.proofs.Entries.{is_by_order}

-- a set has one more text
bytes_inserted : (keys : List (String Global)) (k : String Global)
    → map string_bytes (insert_key string_cmp keys k) ≡ insert_key byte_cmp (map string_bytes keys) (string_bytes k)
bytes_inserted [] k = refl
bytes_inserted (x ∷ keys) k =
    elim (string_cmp k x) as (λ r. map string_bytes (match_ordering r (k ∷ x ∷ keys) (x ∷ keys) (x ∷ insert_key string_cmp keys k))
    ≡ match_ordering r (string_bytes k ∷ string_bytes x ∷ map string_bytes keys) (string_bytes x ∷ map string_bytes keys)
    (string_bytes x ∷ insert_key byte_cmp (map string_bytes keys) (string_bytes k))) [
      | Less ↦ refl
      | Equal ↦ refl
      | Greater ↦ ap (λ (t : List (List ℕ)). string_bytes x ∷ t) (bytes_inserted keys k)
    ]

pub texts_inserted : (keys new : List (String Global)) (copy : String Global) (name : List ℕ) → new ≡ insert_key string_cmp keys copy → string_bytes copy ≡ name
    → map string_bytes new ≡ insert_key byte_cmp (map string_bytes keys) name
texts_inserted keys new copy name put is = rw (put, ← is) (bytes_inserted keys copy)

-- whether it has a text
pub bytes_had : (keys : List (String Global)) (name : List ℕ) → list_any (is_at (λ k. byte_cmp name (string_bytes k))) keys ≡ has (map string_bytes keys) name
bytes_had [] name = refl
bytes_had (x ∷ keys) name = rw (is_by_order name (string_bytes x), bytes_had keys name) refl
