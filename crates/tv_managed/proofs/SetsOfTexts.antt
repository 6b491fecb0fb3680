-- A set of texts, seen as their bytes.
use Rattle.std.proofs.Common.{◌≡◌, ◌+◌, ◌<◌, ◌≤◌, ◌||◌, ℕ, Bool, true, false, cond, List, [], ◌∷◌, map, length, get_or, refl, sym, ap, subst, ◌∙◌, ⊎_elim, arith, string_bytes, String, Global, Result, Ok, Err}
use Rattle.std.specs.declared.cmp.Ordering.{Ordering}
use Rattle.std.specs.declared.cmp.Ordering.TheVariants.{Less, Equal, Greater}
use Rattle.std.specs.Ordering.{is_eq, is_lt, match_ordering, ordering_index, ordering_reverse}
use Rattle.std.specs.Borrow.{Bor}
use Rattle.std.specs.Result.{is_ok}
use Rattle.std.specs.Cmp.Lexicographic.{nat_list_cmp_total, texts_ties}
use Rattle.std.specs.List.{list_all, list_any, AllByRecursion, HoldsAt}
use Rattle.std.specs.List.Sorted.{IsBinarySearchResult, IsNonDecreasingBy, IsSearchInRange, IsStrictlySortedBy}
use Rattle.std.specs.String.{string_cmp}
use Rattle.std.specs.BTreeMap.{is_at}
use Rattle.std.specs.BTreeSet.{insert_key}
use Rattle.std.specs.Set.{remove_key}
use Rattle.std.proofs.lemmas.Bool.{cases_lt}
use Rattle.std.proofs.lemmas.List.{get_or-map, length-map}
use Rattle.std.proofs.lemmas.List.Folds.{list_any_at, list_any_none}
use Rattle.std.proofs.lemmas.List.Sorted.{searchable_from_sorted}
use Rattle.std.proofs.lemmas.Map.Keys.{Less-from_sorted}
use Rattle.std.proofs.lemmas.Str.{IsUtf8-string_bytes}
use Rattle.tv_formats.specs.Names.{byte_cmp, has, is, is_plain}
use Rattle.tv_formats.specs.Listing.{IsManagedName, IsListOf, list_text}
use Rattle.tv_formats.proofs.Entries.{has_put, is_by_order, sorted_put}
use Rattle.tv_formats.proofs.ListTexts.{written_is_list}
use Rattle.tv_formats.proofs.PlainNames.{both}
use Rattle.tv_formats.proofs.TextSets.{bytes_had, texts_inserted}
use Rattle.tv_managed.specs.Collecting.{texts_of}
use Rattle.tv_managed.specs.Names.{AreManaged}

cut : (b : Bool) (x : String Global) (xs rest : List (String Global)) (rest' : List (List ℕ)) → map string_bytes rest ≡ rest'
    → map string_bytes (cond b xs (x ∷ rest)) ≡ cond b (map string_bytes xs) (string_bytes x ∷ rest')
cut true x xs rest rest' e = refl
cut false x xs rest rest' e = ap (λ (t : List (List ℕ)). string_bytes x ∷ t) e

pub bytes_removed : (keys : List (String Global)) (name : List ℕ) → map string_bytes (remove_key (is_at (λ k. byte_cmp name (string_bytes k))) keys) ≡ remove_key (is_at (byte_cmp name)) (map string_bytes keys)
bytes_removed [] name = refl
bytes_removed (x ∷ keys) name = cut (is_eq (byte_cmp name (string_bytes x))) x keys (remove_key (is_at (λ k. byte_cmp name (string_bytes k))) keys) _ (bytes_removed keys name)

placed_all : (test : List ℕ → Bool) (r : Ordering) (k x : List ℕ) (xs rest : List (List ℕ)) → test k ≡ true → list_all test (x ∷ xs) ≡ true → list_all test rest ≡ true
    → list_all test (match_ordering r (k ∷ x ∷ xs) (x ∷ xs) (x ∷ rest)) ≡ true
placed_all test Less k x xs rest here h more = rw here h
placed_all test Equal k x xs rest here h more = h
placed_all test Greater k x xs rest here h more = rw (both (test x) (list_all test xs) h).0 more

pub all_inserted : (test : List ℕ → Bool) (names : List (List ℕ)) (name : List ℕ) → test name ≡ true → list_all test names ≡ true → list_all test (insert_key byte_cmp names name) ≡ true
all_inserted test [] name here h = rw here refl
all_inserted test (x ∷ names) name here h = placed_all test (byte_cmp name x) name x names _ here h (all_inserted test names name here (both (test x) (list_all test names) h).1)

-- texts that are plain are listed
pub are_listed : (keys : List (String Global)) → list_all is_plain (map string_bytes keys) ≡ true → AllByRecursion IsManagedName (map string_bytes keys)
are_listed [] h = tt
are_listed (k ∷ keys) h = let t = both (is_plain (string_bytes k)) (list_all is_plain (map string_bytes keys)) h in ((t.0, IsUtf8-string_bytes k), are_listed keys t.1)

pub managed_inserted : (keys new : List (String Global)) (copy : String Global) (name : List ℕ) → new ≡ insert_key string_cmp keys copy → string_bytes copy ≡ name → is_plain name ≡ true → AreManaged (map string_bytes keys) → AreManaged (map string_bytes new)
managed_inserted keys new copy name put is plain h =
    rw (texts_inserted keys new copy name put is) (record { plain = all_inserted is_plain _ name plain h.plain; ordered = sorted_put _ name h.ordered })

-- whether a text is in the set
pub had_is : (keys : List (String Global)) (old : List (List ℕ)) (name : List ℕ) (b : Bool) → b ≡ list_any (is_at (λ k. byte_cmp name (string_bytes k))) keys → map string_bytes keys ≡ old → has old name ≡ b
had_is keys old name b e f = ap (λ (ns : List (List ℕ)). has ns name) (sym f) ∙ sym (bytes_had keys name) ∙ sym e

-- a set of lent texts has one more
lent_inserted : (keys : List (Bor (List ℕ))) (k : Bor (List ℕ)) → texts_of (insert_key (λ x y. byte_cmp x.now y.now) keys k) ≡ insert_key byte_cmp (texts_of keys) k.now
lent_inserted [] k = refl
lent_inserted (x ∷ keys) k =
    elim (byte_cmp k.now x.now) as (λ r. texts_of (match_ordering r (k ∷ x ∷ keys) (x ∷ keys) (x ∷ insert_key (λ a b. byte_cmp a.now b.now) keys k))
    ≡ match_ordering r (k.now ∷ x.now ∷ texts_of keys) (x.now ∷ texts_of keys) (x.now ∷ insert_key byte_cmp (texts_of keys) k.now)) [
      | Less ↦ refl
      | Equal ↦ refl
      | Greater ↦ ap (λ (t : List (List ℕ)). x.now ∷ t) (lent_inserted keys k)
    ]

-- which texts it has then
pub lent_put : (keys : List (Bor (List ℕ))) (k : Bor (List ℕ)) (n : List ℕ) → has (texts_of (insert_key (λ x y. byte_cmp x.now y.now) keys k)) n ≡ (is k.now n || has (texts_of keys) n)
lent_put keys k n = ap (λ (ns : List (List ℕ)). has ns n) (lent_inserted keys k) ∙ has_put (texts_of keys) k.now n

-- whether a text is in a set of lent texts
pub lent_had : (keys : List (Bor (List ℕ))) (name : List ℕ) → list_any (is_at (λ k. byte_cmp name k.now)) keys ≡ has (texts_of keys) name
lent_had [] name = refl
lent_had (x ∷ keys) name = rw (is_by_order name x.now, lent_had keys name) refl

-- the text of the list stands for the names
pub list_of : (keys : List (String Global)) (names : List (List ℕ)) → map string_bytes keys ≡ names → AreManaged (map string_bytes keys) → IsListOf (list_text names) names
list_of keys names e h = subst (λ (ns : List (List ℕ)). IsListOf (list_text ns) ns) e (written_is_list (map string_bytes keys) (are_listed keys h.plain) h.ordered)

-- no names
pub none_managed : (keys : List (String Global)) → keys ≡ [] → AreManaged (map string_bytes keys)
unfolding IsStrictlySortedBy
none_managed keys e = rw e (record { plain = refl; ordered = tt })

-- ---- a search in texts that stand in their order

rises : (keys : List (String Global)) (name : List ℕ) → IsStrictlySortedBy byte_cmp (map string_bytes keys) → IsNonDecreasingBy (λ y. ordering_index (byte_cmp (string_bytes y) name)) keys
rises keys name sorted = searchable_from_sorted nat_list_cmp_total string_bytes keys name (λ k d low inside.
    let below : byte_cmp (string_bytes (get_or keys k d)) (string_bytes (get_or keys (k + 1) d)) ≡ Less =
    rw (← get_or-map string_bytes keys k d (string_bytes d) (omega (arith, inside)), ← get_or-map string_bytes keys (k + 1) d (string_bytes d) inside)
    (Less-from_sorted byte_cmp (map string_bytes keys) k (k + 1) (string_bytes d) sorted (omega arith) (rw (length-map keys string_bytes) inside)) in
    ap is_lt (nat_list_cmp_total.antisymm (string_bytes (get_or keys (k + 1) d)) (string_bytes (get_or keys k d)) ∙ ap ordering_reverse below))

has_over : (keys : List (String Global)) (name : List ℕ) → has (map string_bytes keys) name ≡ list_any (λ y. is (string_bytes y) name) keys
has_over [] name = refl
has_over (k ∷ keys) name = ap (λ b. is (string_bytes k) name || b) (has_over keys name)

found : (keys : List (String Global)) (name : List ℕ) (i : ℕ) → i < length keys → HoldsAt (λ y. byte_cmp (string_bytes y) name ≡ Equal) keys i → list_any (λ y. is (string_bytes y) name) keys ≡ true
found [] name i inside at = absurd (omega (arith, inside))
found (k ∷ keys) name i inside at = list_any_at (λ y. is (string_bytes y) name) (k ∷ keys) i k inside (texts_ties (string_bytes (get_or (k ∷ keys) i k)) name ∙ ap is_eq (at k))

-- whether a text is among them
pub searched_texts : (keys : List (String Global)) (name : List ℕ) (r : Result ℕ ℕ) → IsStrictlySortedBy byte_cmp (map string_bytes keys) → IsSearchInRange r (length keys) → IsBinarySearchResult (λ y. byte_cmp (string_bytes y) name) keys r
    → is_ok r ≡ has (map string_bytes keys) name
searched_texts keys name (Ok i) sorted inside at = sym (has_over keys name ∙ found keys name i inside at)
searched_texts keys name (Err i) sorted inside parted =
    let place = parted (rises keys name sorted) in
    sym (has_over keys name
    ∙ list_any_none (λ y. is (string_bytes y) name) keys (λ k d lt. texts_ties (string_bytes (get_or keys k d)) name ∙ ⊎_elim (λ (low : k < i). ap is_eq (place.0 k d (omega arith) low)) (λ (up : i ≤ k). ap is_eq (place.1 k d up lt)) (cases_lt k i)))
