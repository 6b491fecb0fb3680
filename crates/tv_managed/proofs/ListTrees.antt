-- The names that the code finds in a tree are those that the tree lists.
use Rattle.std.proofs.Common.{◌≡◌, ◌⊎◌, ℕ, Bool, true, false, ◌||◌, List, [], ◌∷◌, map, Option, Some, None, refl, sym, ap, ap₂, subst, ◌∙◌, string_bytes, String, Global, inl, inr}
use Rattle.std.specs.Prelude.{IsUtf8, MatchOption, if◌then◌else◌}
use Rattle.std.specs.List.{list_all, AllByRecursion}
use Rattle.std.specs.List.Sorted.{IsStrictlySortedBy}
use Rattle.std.specs.BTreeSet.{BTreeSet, insert_key}
use Rattle.std.proofs.lemmas.Bool.{or_cases, or_left, or_right}
use Rattle.std.proofs.lemmas.Option.{option_and_then_some, same_Some}
use Rattle.std.proofs.lemmas.Str.{IsUtf8-string_bytes}
use Rattle.serde_json.specs.Data.{Data, null, boolean, number, string, array, object, Items, no_items, item}
use Rattle.serde_json.specs.Find.{as_array}
use Rattle.serde_json.specs.Read.{read}
use Rattle.serde_json.specs.View.{items_of}
use Rattle.tv_formats.specs.Names.{byte_cmp, has, is, is_plain}
use Rattle.tv_formats.specs.Listing.{IsManagedName, IsListOf, Lists, list_tree}
use Rattle.tv_formats.proofs.Entries.{has_put, is_itself, is_text, sorted_put}
use Rattle.tv_formats.proofs.PlainNames.{both}
use Rattle.tv_formats.proofs.CollectedNames.{or_moved}
use Rattle.tv_base.specs.Causes.{OpenReadCause}
use Rattle.tv_base.specs.declared.open_errors.OpenReadError.{OpenReadError}
use Rattle.tv_base.specs.declared.open_errors.OpenReadError.TheVariants.{FileDoesNotExist}
use Rattle.tv_managed.specs.ListTrees.{name_of, names_in, put_items}
use Rattle.tv_managed.specs.Names.{AreManaged}
use Rattle.tv_managed.specs.Wrapping.{ListsNothing}

kept : (b : Bool) (t s : List ℕ) → (if b then Some t else None) ≡ Some s → (b ≡ true) × (t ≡ s)
kept true t s e = (refl, same_Some t s e)
kept false t s e = absurd cc

-- what is a name is the string of a plain one
name_is : (d : Data) (s : List ℕ) → name_of d ≡ Some s → (d ≡ string s) × (is_plain s ≡ true)
name_is null s e = absurd cc
name_is (boolean b) s e = absurd cc
name_is (number n) s e = absurd cc
name_is (string t) s e = let k = kept (is_plain t) t s e in (ap string k.1, ap is_plain (sym k.1) ∙ k.0)
name_is (array ds) s e = absurd cc
name_is (object ms) s e = absurd cc

array_is : (d : Data) (ds : Items) → as_array d ≡ Some ds → d ≡ array ds
array_is null ds e = absurd cc
array_is (boolean b) ds e = absurd cc
array_is (number n) ds e = absurd cc
array_is (string t) ds e = absurd cc
array_is (array es) ds e = ap array (same_Some es ds e)
array_is (object ms) ds e = absurd cc

-- ---- what was put among the names

or_none : (b : Bool) → b ≡ (b || false)
or_none true = refl
or_none false = refl

record Found (ds : Items) (names all : List (List ℕ)) : Type 0 where
  found : List (List ℕ)
  strings : ds ≡ items_of (map string found)
  plain : list_all is_plain found ≡ true
  same : (n : List ℕ) → has all n ≡ (has names n || has found n)
  ordered : IsStrictlySortedBy byte_cmp names → IsStrictlySortedBy byte_cmp all

found_in : (ds : Items) (names all : List (List ℕ)) → put_items names ds ≡ Some all → Found ds names all
found_in no_items names all e =
    let is : names ≡ all = same_Some names all e in
    record {
      found = [];
      strings = refl;
      plain = refl;
      same = λ n. ap (λ (ns : List (List ℕ)). has ns n) (sym is) ∙ or_none (has names n);
      ordered = subst (IsStrictlySortedBy byte_cmp) is;
    }
found_in (item d ds) names all e =
    option_and_then_some (λ s. put_items (insert_key byte_cmp names s) ds) (name_of d) all e (λ s at rest.
    let named = name_is d s at in
    let more = found_in ds (insert_key byte_cmp names s) all rest in
    record {
      found = s ∷ more.found;
      strings = ap₂ item named.0 more.strings;
      plain = rw named.1 more.plain;
      same = λ n. more.same n ∙ ap (λ b. b || has more.found n) (has_put names s n) ∙ or_moved (is s n) (has names n) (has more.found n);
      ordered = λ o. more.ordered (sorted_put names s o);
    })

-- a list of plain texts is no list in which something else was found
pub none_in : (names found : List (List ℕ)) → put_items names (items_of (map string found)) ≡ None → AllByRecursion IsManagedName found → ⊥
none_in names [] e k = absurd cc
none_in names (s ∷ ss) e k =
    let step : put_items names (items_of (map string (s ∷ ss))) ≡ put_items (insert_key byte_cmp names s) (items_of (map string ss)) = rw k.0.0 refl in
    none_in (insert_key byte_cmp names s) ss (sym step ∙ e) k.1

-- ---- texts are UTF-8, and those of a list are plain

text_utf8 : (keys : List (String Global)) (n : List ℕ) → has (map string_bytes keys) n ≡ true → IsUtf8 n
text_utf8 [] n h = absurd cc
text_utf8 (k ∷ keys) n h = either (text_utf8 keys n) (or_cases (is (string_bytes k) n) (has (map string_bytes keys) n) h)
  where
    either : (has (map string_bytes keys) n ≡ true → IsUtf8 n) → (is (string_bytes k) n ≡ true) ⊎ (has (map string_bytes keys) n ≡ true) → IsUtf8 n
    either more (inl here) = subst IsUtf8 (is_text (string_bytes k) n here) (IsUtf8-string_bytes k)
    either more (inr later) = more later

all_listed : (found : List (List ℕ)) → list_all is_plain found ≡ true → ((n : List ℕ) → has found n ≡ true → IsUtf8 n) → AllByRecursion IsManagedName found
all_listed [] h texts = tt
all_listed (x ∷ xs) h texts =
    let t = both (is_plain x) (list_all is_plain xs) h in
    ((t.0, texts x (or_left (is x x) _ (is_itself x))), all_listed xs t.1 (λ n later. texts n (or_right (is x n) _ later)))

plain_among : (found : List (List ℕ)) (n : List ℕ) → AllByRecursion IsManagedName found → has found n ≡ true → is_plain n ≡ true
plain_among [] n each h = absurd cc
plain_among (x ∷ xs) n each h = either (plain_among xs n each.1) (or_cases (is x n) (has xs n) h)
  where
    either : (has xs n ≡ true → is_plain n ≡ true) → (is x n ≡ true) ⊎ (has xs n ≡ true) → is_plain n ≡ true
    either more (inl here) = ap is_plain (sym (is_text x n here)) ∙ each.0.0
    either more (inr later) = more later

all_plain : (names : List (List ℕ)) → ((n : List ℕ) → has names n ≡ true → is_plain n ≡ true) → list_all is_plain names ≡ true
all_plain [] h = refl
all_plain (x ∷ xs) h = rw (h x (or_left (is x x) _ (is_itself x))) (all_plain xs (λ n later. h n (or_right (is x n) _ later)))

-- ---- what the bytes list

-- names that were found in their tree are the names of the list
pub names_listed : (bytes : List ℕ) (d : Data) (keys : List (String Global)) → IsUtf8 bytes × (read bytes ≡ Some d) → names_in d ≡ Some (map string_bytes keys) → IsListOf bytes (map string_bytes keys)
unfolding IsStrictlySortedBy
names_listed bytes d keys h e =
    option_and_then_some (put_items []) (as_array d) (map string_bytes keys) e (λ ds at rest.
    let f = found_in ds [] (map string_bytes keys) rest in
    record {
      utf8 = h.0;
      found = f.found;
      parsed = h.1 ∙ ap (λ (t : Data). Some t) (array_is d ds at ∙ ap array f.strings);
      each = all_listed f.found f.plain (λ n among. text_utf8 keys n (f.same n ∙ among));
      same = f.same;
      ordered = f.ordered tt;
    })

-- where none were found there is no list
pub none_listed : (bytes : List ℕ) (d : Data) → read bytes ≡ Some d → names_in d ≡ None → (names : List (List ℕ)) → IsListOf bytes names → ⊥
none_listed bytes d is e names l =
    let tree : d ≡ list_tree l.found = same_Some d (list_tree l.found) (sym is ∙ l.parsed) in
    none_in [] l.found (ap names_in (sym tree) ∙ e) l.each

-- the names of a list may be managed
pub listed_managed : (bytes : List ℕ) (names : List (List ℕ)) → IsListOf bytes names → AreManaged names
listed_managed bytes names l = record { plain = all_plain names (λ n h. plain_among l.found n l.each (sym (l.same n) ∙ h)); ordered = l.ordered }

-- ---- what is read of the list

-- what the code finds in these bytes
abbrev pub Finds : List ℕ → Option (BTreeSet (String Global)) → Type 0
Finds bytes found = MatchOption found ((names : List (List ℕ)) → IsListOf bytes names → ⊥) (λ names. IsListOf bytes (map string_bytes names.keys))

pub lists_found : (read : Option (List ℕ)) (bytes items : List ℕ) (found : Option (BTreeSet (String Global))) (names : BTreeSet (String Global)) → read ≡ Some items → bytes ≡ items → found ≡ Some names → Finds bytes found
    → Lists read (map string_bytes names.keys)
lists_found read bytes items found names e same is h =
    let listed : IsListOf bytes (map string_bytes names.keys) = subst (Finds bytes) is h in
    subst (λ (r : Option (List ℕ)). Lists r (map string_bytes names.keys)) (ap (λ (l : List ℕ). Some l) same ∙ sym e) listed

pub lists_nothing : (read : Option (List ℕ)) (bytes items : List ℕ) (found : Option (BTreeSet (String Global))) → read ≡ Some items → bytes ≡ items → found ≡ None → Finds bytes found → ListsNothing read
lists_nothing read bytes items found e same is h names l =
    let none : (ns : List (List ℕ)) → IsListOf bytes ns → ⊥ = subst (Finds bytes) is h in
    none names (subst (λ (r : Option (List ℕ)). Lists r names) (e ∙ ap (λ (t : List ℕ). Some t) (sym same)) l)

-- the cause of an answer that there is no file
pub absent_is : (name : List ℕ) (absent refused quiet : Type 0) (error : OpenReadError) (path : String Global) → error ≡ FileDoesNotExist path → OpenReadCause name absent refused quiet error → absent
absent_is name absent refused quiet error path is h =
    let cause : OpenReadCause name absent refused quiet (FileDoesNotExist path) = subst (OpenReadCause name absent refused quiet) is h in cause.1

pub lists_absent : (read : Option (List ℕ)) (keys : List (String Global)) → read ≡ None → keys ≡ [] → Lists read (map string_bytes keys)
lists_absent read keys e h = subst (λ (r : Option (List ℕ)). Lists r (map string_bytes keys)) (sym e) (ap (λ (ks : List (String Global)). map string_bytes ks) h)
