-- Entries under texts, and texts, in the order of their bytes.
use Rattle.std.proofs.Common.{◌≡◌, ◌≢◌, ℕ, Bool, true, false, cond, ◌||◌, List, [], ◌∷◌, Option, Some, None, refl, sym, ap, ◌∙◌, true≢false, arith}
use Rattle.std.specs.declared.cmp.Ordering.{Ordering}
use Rattle.std.specs.declared.cmp.Ordering.TheVariants.{Less, Equal, Greater}
use Rattle.std.specs.Ordering.{is_eq, match_ordering, ordering_reverse}
use Rattle.std.specs.Cmp.{eq_by_cmp_equiv}
use Rattle.std.specs.Cmp.Lexicographic.{nat_list_cmp_total, nat_list_eq_equiv, same_text, texts_ties}
use Rattle.std.specs.FinMap.{slice_cmp-IsAntisymmetric, nat_cmp-IsAntisymmetric}
use Rattle.std.specs.List.{AllByRecursion}
use Rattle.std.specs.List.Sorted.{IsStrictlySortedBy}
use Rattle.std.specs.Map.{lookup}
use Rattle.std.specs.Set.{remove_key}
use Rattle.std.specs.BTreeMap.{is_at, insert_entry}
use Rattle.std.specs.BTreeSet.{insert_key}
use Rattle.std.proofs.Math.Bool.{or-false}
use Rattle.std.proofs.lemmas.Bool.{false_from_ne_true, or_parts, or_right}
use Rattle.tv_formats.specs.Names.{byte_cmp, is, has}

pub same_at : (q k : List ℕ) → is_at (byte_cmp q) k ≡ is_at (byte_cmp k) q
same_at q k = (eq_by_cmp_equiv nat_list_cmp_total).symm q k

-- a text is equal to itself
pub at_itself : (k : List ℕ) → is_at (byte_cmp k) k ≡ true
at_itself k = (eq_by_cmp_equiv nat_list_cmp_total).refl k

pub is_equal : (r : Ordering) → is_eq r ≡ true → r ≡ Equal
is_equal Less e = absurd cc
is_equal Equal e = refl
is_equal Greater e = absurd cc

-- texts that compare alike are one
pub text_at : (q k : List ℕ) → is_at (byte_cmp q) k ≡ true → q ≡ k
text_at q k e = slice_cmp-IsAntisymmetric nat_cmp-IsAntisymmetric q k (is_equal (byte_cmp q k) e)

pub is_itself : (text : List ℕ) → is text text ≡ true
is_itself text = nat_list_eq_equiv.refl text

-- texts that are the same by the test are one
pub is_text : (xs ys : List ℕ) → is xs ys ≡ true → xs ≡ ys
is_text xs ys e = same_text xs ys (sym e)

-- texts that aren't the same by the test are two
pub isnt_text : (name n : List ℕ) → is name n ≡ false → n ≢ name
isnt_text name n other same = true≢false (sym (is_itself name) ∙ ap (is name) (sym same) ∙ other)

-- a name that isn't this one is another
pub isnt_one : (name n : List ℕ) → has (name ∷ []) n ≡ false → n ≢ name
isnt_one name n other = isnt_text name n (sym (or-false (is name n)) ∙ other)

-- a text isn't above itself
apart : (x y : List ℕ) → byte_cmp x y ≡ Greater → x ≡ y → ⊥
apart x y g e =
    let t : is_at (byte_cmp x) x ≡ true = at_itself x in
    let h : is_eq (byte_cmp x y) ≡ true = rw (← e) t in
    let k : false ≡ true = sym (ap is_eq g) ∙ h in absurd cc

chain : {X : Type 0} (a b : Bool) (v w : X) (rest : Option X) → (a ≡ true → b ≡ true → ⊥) → cond a (Some w) (cond b (Some v) rest) ≡ cond b (Some v) (cond a (Some w) rest)
chain true b v w rest h = let no : b ≡ false = false_from_ne_true b (h refl) in rw no refl
chain false b v w rest h = refl

over : {X : Type 0} (a : Bool) (v w : X) (rest : Option X) → cond a (Some v) rest ≡ cond a (Some v) (cond a (Some w) rest)
over true v w rest = refl
over false v w rest = refl

-- what stands at a text after an entry was put
pub lookup_put : {X : Type 0} (es : List (List ℕ × X)) (k q : List ℕ) (v : X) → lookup (is_at (byte_cmp q)) (insert_entry byte_cmp es k v) ≡ cond (is_at (byte_cmp k) q) (Some v) (lookup (is_at (byte_cmp q)) es)
lookup_put [] k q v = ap (λ (b : Bool). cond b (Some v) None) (same_at q k)
lookup_put {X} (e ∷ es) k q v =
    elim (byte_cmp k e.0) as (λ r. byte_cmp k e.0 ≡ r → lookup (is_at (byte_cmp q)) (match_ordering r ((k, v) ∷ e ∷ es) ((e.0, v) ∷ es) (e ∷ insert_entry byte_cmp es k v)) ≡ cond (is_at (byte_cmp k) q) (Some v) (lookup (is_at (byte_cmp q)) (e ∷ es))) [
      | Less ↦ λ r. ap (λ (b : Bool). cond b (Some v) (lookup (is_at (byte_cmp q)) (e ∷ es))) (same_at q k)
      | Equal ↦ λ r.
          let key : k ≡ e.0 = text_at k e.0 (ap is_eq r) in
          let test : is_at (byte_cmp k) q ≡ is_at (byte_cmp q) e.0 = sym (same_at q k) ∙ ap (λ (x : List ℕ). is_at (byte_cmp q) x) key in
          rw test (over (is_at (byte_cmp q) e.0) v e.1 (lookup (is_at (byte_cmp q)) es))
      | Greater ↦ λ r.
          ap (λ (o : Option X). cond (is_at (byte_cmp q) e.0) (Some e.1) o) (lookup_put es k q v)
          ∙ chain (is_at (byte_cmp q) e.0) (is_at (byte_cmp k) q) v e.1 (lookup (is_at (byte_cmp q)) es) (λ a b. apart k e.0 r (text_at k q b ∙ text_at q e.0 a))
    ] refl

-- which texts a list has after one was put
pub has_put : (names : List (List ℕ)) (name n : List ℕ) → has (insert_key byte_cmp names name) n ≡ (is name n || has names n)
has_put [] name n = refl
has_put (x ∷ xs) name n =
    elim (byte_cmp name x) as (λ r. byte_cmp name x ≡ r → has (match_ordering r (name ∷ x ∷ xs) (x ∷ xs) (x ∷ insert_key byte_cmp xs name)) n ≡ (is name n || has (x ∷ xs) n)) [
      | Less ↦ λ r. refl
      | Equal ↦ λ r. rw (text_at name x (ap is_eq r)) (grind arith)
      | Greater ↦ λ r. rw (has_put xs name n) (grind arith)
    ] refl

pub has_inserted : (names : List (List ℕ)) (name : List ℕ) → has (insert_key byte_cmp names name) name ≡ true
has_inserted names name = rw (has_put names name name, is_itself name) refl

pub has_kept : (names : List (List ℕ)) (name n : List ℕ) → has names n ≡ true → has (insert_key byte_cmp names name) n ≡ true
has_kept names name n h = has_put names name n ∙ or_right (is name n) _ h

-- the test of two texts, by their order
pub is_by_order : (name x : List ℕ) → is x name ≡ is_eq (byte_cmp name x)
is_by_order name x = texts_ties x name ∙ same_at x name

-- a text below all of some others isn't among them
pub below_absent : (xs : List (List ℕ)) (name : List ℕ) → AllByRecursion (λ y. byte_cmp name y ≡ Less) xs → has xs name ≡ false
below_absent [] name h = refl
below_absent (x ∷ xs) name h = rw (is_by_order name x ∙ ap is_eq h.0, below_absent xs name h.1) refl

pub below_all : (xs : List (List ℕ)) (name x : List ℕ) → byte_cmp name x ≡ Less → AllByRecursion (λ y. byte_cmp x y ≡ Less) xs → AllByRecursion (λ y. byte_cmp name y ≡ Less) xs
below_all [] name x l h = tt
below_all (y ∷ ys) name x l h = (nat_list_cmp_total.trans name x y l h.0, below_all ys name x l h.1)

-- putting a text that is there changes nothing
pub insert_present : (names : List (List ℕ)) (name : List ℕ) → has names name ≡ true → IsStrictlySortedBy byte_cmp names → insert_key byte_cmp names name ≡ names
unfolding IsStrictlySortedBy
insert_present [] name h o = absurd cc
insert_present (x ∷ xs) name h o =
    elim (byte_cmp name x) as (λ r. byte_cmp name x ≡ r → match_ordering r (name ∷ x ∷ xs) (x ∷ xs) (x ∷ insert_key byte_cmp xs name) ≡ x ∷ xs) [
      | Less ↦ λ r.
          let absent : has (x ∷ xs) name ≡ false = below_absent (x ∷ xs) name (r, below_all xs name x r o.0) in
          absurd (true≢false (sym h ∙ absent))
      | Equal ↦ λ r. refl
      | Greater ↦ λ r. ap (λ (l : List (List ℕ)). x ∷ l) (insert_present xs name (grind (arith, h, is_by_order name x ∙ ap is_eq r)) o.1)
    ] refl

-- a text that was put and is taken out again leaves the list as it was
pub remove_inserted : (names : List (List ℕ)) (name : List ℕ) → has names name ≡ false → remove_key (is_at (byte_cmp name)) (insert_key byte_cmp names name) ≡ names
remove_inserted [] name h = rw (at_itself name) refl
remove_inserted (x ∷ xs) name h =
    let t = or_parts (is x name) (has xs name) h in
    elim (byte_cmp name x) as (λ r. byte_cmp name x ≡ r → remove_key (is_at (byte_cmp name)) (match_ordering r (name ∷ x ∷ xs) (x ∷ xs) (x ∷ insert_key byte_cmp xs name)) ≡ x ∷ xs) [
      | Less ↦ λ r. rw (at_itself name) refl
      | Equal ↦ λ r. absurd (true≢false (sym (is_by_order name x ∙ ap is_eq r) ∙ t.0))
      | Greater ↦ λ r. rw (ap is_eq r) (ap (λ (l : List (List ℕ)). x ∷ l) (remove_inserted xs name t.1))
    ] refl

-- what is below some texts and below one more is below them with that one put among them
below_put : (xs : List (List ℕ)) (x name : List ℕ) → AllByRecursion (λ y. byte_cmp x y ≡ Less) xs → byte_cmp x name ≡ Less → AllByRecursion (λ y. byte_cmp x y ≡ Less) (insert_key byte_cmp xs name)
below_put [] x name h l = (l, tt)
below_put (y ∷ ys) x name h l =
    elim (byte_cmp name y) as (λ r. AllByRecursion (λ z. byte_cmp x z ≡ Less) (match_ordering r (name ∷ y ∷ ys) (y ∷ ys) (y ∷ insert_key byte_cmp ys name))) [
      | Less ↦ (l, h)
      | Equal ↦ h
      | Greater ↦ (h.0, below_put ys x name h.1 l)
    ]

-- a sorted list stays sorted
pub sorted_put : (names : List (List ℕ)) (name : List ℕ) → IsStrictlySortedBy byte_cmp names → IsStrictlySortedBy byte_cmp (insert_key byte_cmp names name)
unfolding IsStrictlySortedBy
sorted_put [] name o = (tt, tt)
sorted_put (x ∷ xs) name o =
    elim (byte_cmp name x) as (λ r. byte_cmp name x ≡ r → IsStrictlySortedBy byte_cmp (match_ordering r (name ∷ x ∷ xs) (x ∷ xs) (x ∷ insert_key byte_cmp xs name))) [
      | Less ↦ λ r. ((r, below_all xs name x r o.0), o)
      | Equal ↦ λ r. o
      | Greater ↦ λ r. (below_put xs x name o.0 (nat_list_cmp_total.antisymm x name ∙ ap ordering_reverse r), sorted_put xs name o.1)
    ] refl
