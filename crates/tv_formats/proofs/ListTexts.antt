-- The list of managed names as it is written is read back, and no bytes are the list of two lots of names.
use Rattle.std.proofs.Common.{◌≡◌, ℕ, ◌≤◌, List, [], ◌∷◌, map, Option, Some, None, refl, sym, ap, ◌∙◌, subst, arith}
use Rattle.std.specs.List.{list_any, AllByRecursion}
use Rattle.std.specs.List.Sorted.{IsStrictlySortedBy}
use Rattle.std.specs.BTreeMap.{is_at}
use Rattle.std.specs.BTreeSet.{BTreeSet}
use Rattle.std.specs.Cmp.Lexicographic.{nat_list_cmp_total}
use Rattle.std.proofs.lemmas.Map.Lookups.{btree_set_from_contains, exact_bytes}
use Rattle.json.specs.Tree.{items_depth}
use Rattle.serde_json.specs.Data.{string, array, item}
use Rattle.serde_json.specs.View.{items_of}
use Rattle.serde_json.specs.Written.{items_outline}
use Rattle.tv_formats.specs.Names.{byte_cmp, has, list_name}
use Rattle.tv_formats.specs.Files.{Reads}
use Rattle.tv_formats.specs.Listing.{list_text, list_tree, IsListOf, IsManagedName, Listing, Lists}
use Rattle.tv_formats.proofs.Entries.{is_by_order}
use Rattle.tv_formats.proofs.JsonTrees.{ItemsFit, items_ordered, line_read, line_utf8}

-- ---- the written list of names is the list of these names

they_fit : (names : List (List ℕ)) → AllByRecursion IsManagedName names → ItemsFit (items_of (map string names))
they_fit [] h = tt
they_fit (n ∷ ns) h = (h.0.1, they_fit ns h.1)

flat : (names : List (List ℕ)) → items_depth (items_outline (items_of (map string names))) ≤ 0
flat [] = omega arith
flat (n ∷ ns) = omega (arith, flat ns)

they_stay : (names : List (List ℕ)) → items_ordered (items_of (map string names)) ≡ items_of (map string names)
they_stay [] = refl
they_stay (n ∷ ns) = ap (item (string n)) (they_stay ns)

pub written_is_list : (names : List (List ℕ)) → AllByRecursion IsManagedName names → IsStrictlySortedBy byte_cmp names → IsListOf (list_text names) names
written_is_list names h o = record {
  utf8 = line_utf8 (list_tree names) (they_fit names h);
  found = names;
  parsed = line_read (list_tree names) (they_fit names h) (omega (arith, flat names)) ∙ ap (λ ds. Some (array ds)) (they_stay names);
  each = h;
  same = λ n. refl;
  ordered = o;
}

-- ---- bytes are the list of one lot of names

strings_one : (xs ys : List (List ℕ)) → items_of (map string xs) ≡ items_of (map string ys) → xs ≡ ys
strings_one [] [] e = refl
strings_one [] (y ∷ ys) e = absurd cc
strings_one (x ∷ xs) [] e = absurd cc
strings_one (x ∷ xs) (y ∷ ys) e = let more = strings_one xs ys cc in cc

has_by_order : (names : List (List ℕ)) (n : List ℕ) → has names n ≡ list_any (is_at (byte_cmp n)) names
has_by_order [] n = refl
has_by_order (x ∷ xs) n = rw (is_by_order n x, has_by_order xs n) refl

abbrev set_of : List (List ℕ) → BTreeSet (List ℕ)
set_of names = record { keys = names }

-- lists in order that have the same names are one
pub same_names : (xs ys : List (List ℕ)) → IsStrictlySortedBy byte_cmp xs → IsStrictlySortedBy byte_cmp ys → ((n : List ℕ) → has xs n ≡ has ys n) → xs ≡ ys
same_names xs ys o p h =
    btree_set_from_contains nat_list_cmp_total (set_of xs) (set_of ys) o p (λ n. sym (has_by_order xs n) ∙ h n ∙ has_by_order ys n) exact_bytes

pub list_one : (bytes : List ℕ) (xs ys : List (List ℕ)) → IsListOf bytes xs → IsListOf bytes ys → xs ≡ ys
list_one bytes xs ys h k =
    let tree : Some (list_tree h.found) ≡ Some (list_tree k.found) = sym h.parsed ∙ k.parsed in
    let found : h.found ≡ k.found = strings_one h.found k.found cc in
    same_names xs ys h.ordered k.ordered (λ n. h.same n ∙ ap (λ (ns : List (List ℕ)). has ns n) found ∙ sym (k.same n))

-- what is read of the list tells its names
pub lists_one : (read : Option (List ℕ)) (xs ys : List (List ℕ)) → Lists read xs → Lists read ys → xs ≡ ys
lists_one None xs ys h k = h ∙ sym k
lists_one (Some bytes) xs ys h k = list_one bytes xs ys h k

-- what is read of the list stands in its order
lists_sorted : (read : Option (List ℕ)) (names : List (List ℕ)) → Lists read names → IsStrictlySortedBy byte_cmp names
unfolding IsStrictlySortedBy
lists_sorted None names h = subst (IsStrictlySortedBy byte_cmp) (sym h) tt
lists_sorted (Some bytes) names h = h.ordered

-- ---- the files of the list

-- they tell their names
pub listing_one : (reads : Reads) (xs ys : List (List ℕ)) → Listing reads xs → Listing reads ys → xs ≡ ys
listing_one reads xs ys h k = lists_one (reads list_name) xs ys h k

-- which stand in their order
pub listing_sorted : (reads : Reads) (names : List (List ℕ)) → Listing reads names → IsStrictlySortedBy byte_cmp names
listing_sorted reads names h = lists_sorted (reads list_name) names h

-- where nothing is read there are none
pub listing_of_none : (reads : Reads) → ((n : List ℕ) → reads n ≡ None) → Listing reads []
listing_of_none reads none = subst (λ (read : Option (List ℕ)). Lists read []) (sym (none list_name)) refl
