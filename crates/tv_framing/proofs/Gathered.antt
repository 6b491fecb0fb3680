-- Facts on usages that are gathered by name.
use Rattle.std.proofs.Common.{◌≡◌, ℕ, zero, suc, ◌+◌, ◌≤◌, ◌<◌, Bool, true, false, cond, List, [], ◌∷◌, ◌++◌, length, get_or, set, filter, fold, Option, Some, None, Result, Ok, Err, refl, sym, ap, subst, ◌∙◌, arith, append_assoc, append-nil}
use Rattle.std.specs.Prelude.{find, insert, MatchResult, OnOk, OnErr}
use Rattle.std.specs.List.{AllByRecursion}
use Rattle.std.specs.List.Sorted.{IsBinarySearchResult, IsNonDecreasingBy, IsSearchInRange}
use Rattle.std.specs.declared.cmp.Ordering.{Ordering}
use Rattle.std.specs.declared.cmp.Ordering.TheVariants.{Less, Equal, Greater}
use Rattle.std.specs.Ordering.{is_eq, is_lt, match_ordering, ordering_index, ordering_reverse}
use Rattle.std.proofs.lemmas.Cmp.{nat_list_cmp_total}
use Rattle.std.proofs.lemmas.List.{set-get_or}
use Rattle.std.proofs.lemmas.List.Elements.{filter-append}
use Rattle.std.proofs.lemmas.List.Sorted.{searchable_from_sorted}
use Rattle.std.proofs.lemmas.List.Sums.{fold-append}
use Rattle.tv_formats.specs.Names.{byte_cmp}
use Rattle.tv_formats.proofs.Entries.{is_equal}
use Rattle.tv_framing.specs.Fields.{FieldSpace}
use Rattle.tv_framing.specs.PerField.{AreByName, InNameOrder, IsBelow, all_of, gathered, is_named, joined}
use Rattle.tv_framing.specs.Places.{IsGap, IsPlace, by_name, with_field}
use Rattle.tv_framing.proofs.Parts.{all_get}

pub below_trans : (a b c : FieldSpace) → IsBelow a b → IsBelow b c → IsBelow a c
below_trans a b c p q = nat_list_cmp_total.trans a.name b.name c.name p q

pub turned : (a b : FieldSpace) (c : Ordering) → byte_cmp a.name b.name ≡ c → byte_cmp b.name a.name ≡ ordering_reverse c
turned a b c h = nat_list_cmp_total.antisymm b.name a.name ∙ ap ordering_reverse h

pub all_map : (P Q : FieldSpace → Type 0) → ((x : FieldSpace) → P x → Q x) → (xs : List FieldSpace) → AllByRecursion P xs → AllByRecursion Q xs
all_map P Q f [] h = tt
all_map P Q f (x ∷ xs) h = (f x h.0, all_map P Q f xs h.1)

-- ---- one more keeps the order

all_by : (a f g : FieldSpace) (gs : List FieldSpace) (c : Ordering) → (AllByRecursion (IsBelow a) gs → AllByRecursion (IsBelow a) (with_field gs f)) → IsBelow a f → AllByRecursion (IsBelow a) (g ∷ gs)
    → AllByRecursion (IsBelow a) (match_ordering c (f ∷ g ∷ gs) (joined g f ∷ gs) (g ∷ with_field gs f))
all_by a f g gs Less later p h = (p, h)
all_by a f g gs Equal later p h = h
all_by a f g gs Greater later p h = (h.0, later h.1)

all_with : (a f : FieldSpace) (fs : List FieldSpace) → IsBelow a f → AllByRecursion (IsBelow a) fs → AllByRecursion (IsBelow a) (with_field fs f)
all_with a f [] p h = (p, tt)
all_with a f (g ∷ gs) p h = all_by a f g gs (byte_cmp f.name g.name) (all_with a f gs p) p h

order_by : (f g : FieldSpace) (gs : List FieldSpace) (c : Ordering) → byte_cmp f.name g.name ≡ c → (InNameOrder gs → InNameOrder (with_field gs f)) → InNameOrder (g ∷ gs)
    → InNameOrder (match_ordering c (f ∷ g ∷ gs) (joined g f ∷ gs) (g ∷ with_field gs f))
order_by f g gs Less is ih h = ((is, all_map (IsBelow g) (IsBelow f) (λ x p. below_trans f g x is p) gs h.0), h)
order_by f g gs Equal is ih h = h
order_by f g gs Greater is ih h = (all_with g f gs (turned f g Greater is) h.0, ih h.1)

pub order_with : (f : FieldSpace) (fs : List FieldSpace) → InNameOrder fs → InNameOrder (with_field fs f)
order_with f [] h = (tt, tt)
order_with f (g ∷ gs) h = order_by f g gs (byte_cmp f.name g.name) refl (order_with f gs) h

-- ---- what stands under a name then

pub none_named : (n : List ℕ) (xs : List FieldSpace) → AllByRecursion (λ x. byte_cmp n x.name ≡ Less) xs → find (is_named n) xs ≡ None
none_named n [] h = refl
none_named n (x ∷ xs) h = ap (λ c. cond (is_eq c) (Some x) (find (is_named n) xs)) h.0 ∙ none_named n xs h.1

abbrev after : List ℕ → FieldSpace → Bool → List FieldSpace → Option FieldSpace
after n f b fs = cond b (gathered (find (is_named n) fs) f) (find (is_named n) fs)

find_less : (n : List ℕ) (f g : FieldSpace) (gs : List FieldSpace) (b : Bool) → is_named n f ≡ b → IsBelow f g → InNameOrder (g ∷ gs)
    → cond b (Some f) (find (is_named n) (g ∷ gs)) ≡ after n f b (g ∷ gs)
find_less n f g gs true e is h =
    let same : byte_cmp n f.name ≡ Equal = is_equal (byte_cmp n f.name) e in
    let down : (x : FieldSpace) → IsBelow f x → byte_cmp n x.name ≡ Less = λ (x : FieldSpace) (p : IsBelow f x). nat_list_cmp_total.congr n f.name x.name same ∙ p in
    let none : find (is_named n) (g ∷ gs) ≡ None = none_named n (g ∷ gs) (down g is, all_map (IsBelow g) (λ x. byte_cmp n x.name ≡ Less) (λ x p. down x (below_trans f g x is p)) gs h.0) in
    ap (λ o. gathered o f) (sym none)
find_less n f g gs false e is h = refl

find_equal : (n : List ℕ) (f g : FieldSpace) (gs : List FieldSpace) (b : Bool) → is_named n g ≡ b → cond b (Some (joined g f)) (find (is_named n) gs) ≡ cond b (gathered (cond b (Some g) (find (is_named n) gs)) f) (cond b (Some g) (find (is_named n) gs))
find_equal n f g gs true e = refl
find_equal n f g gs false e = refl

find_greater : (n : List ℕ) (f g : FieldSpace) (gs : List FieldSpace) (b d : Bool) → is_named n f ≡ b → is_named n g ≡ d → byte_cmp f.name g.name ≡ Greater → find (is_named n) (with_field gs f) ≡ after n f b gs
    → cond d (Some g) (find (is_named n) (with_field gs f)) ≡ cond b (gathered (cond d (Some g) (find (is_named n) gs)) f) (cond d (Some g) (find (is_named n) gs))
find_greater n f g gs true true e k is ih =
    grind (arith, is_equal, nat_list_cmp_total)
find_greater n f g gs true false e k is ih = ih
find_greater n f g gs false true e k is ih = refl
find_greater n f g gs false false e k is ih = ih

find_by : (n : List ℕ) (f g : FieldSpace) (gs : List FieldSpace) (c : Ordering) → byte_cmp f.name g.name ≡ c → InNameOrder (g ∷ gs) → find (is_named n) (with_field gs f) ≡ after n f (is_named n f) gs
    → find (is_named n) (match_ordering c (f ∷ g ∷ gs) (joined g f ∷ gs) (g ∷ with_field gs f)) ≡ after n f (is_named n f) (g ∷ gs)
find_by n f g gs Less is h ih = find_less n f g gs (is_named n f) refl is h
find_by n f g gs Equal is h ih =
    let same : is_named n g ≡ is_named n f = sym (named_same n f g is) in
    find_equal n f g gs (is_named n g) refl ∙ ap (λ b. cond b (gathered (cond (is_named n g) (Some g) (find (is_named n) gs)) f) (cond (is_named n g) (Some g) (find (is_named n) gs))) same
  where
    named_same : (n : List ℕ) (f g : FieldSpace) → byte_cmp f.name g.name ≡ Equal → is_named n f ≡ is_named n g
    named_same n f g is =
        ap is_eq (nat_list_cmp_total.antisymm n f.name ∙ ap ordering_reverse (nat_list_cmp_total.congr f.name g.name n is) ∙ sym (nat_list_cmp_total.antisymm n g.name))
find_by n f g gs Greater is h ih = find_greater n f g gs (is_named n f) (is_named n g) refl refl is ih

find_alone : (f : FieldSpace) (b : Bool) → ◌≡◌ {A = Option FieldSpace} (cond b (Some f) None) (cond b (gathered None f) None)
find_alone f true = refl
find_alone f false = refl

pub find_with : (n : List ℕ) (f : FieldSpace) (fs : List FieldSpace) → InNameOrder fs → find (is_named n) (with_field fs f) ≡ after n f (is_named n f) fs
find_with n f [] h = find_alone f (is_named n f)
find_with n f (g ∷ gs) h = find_by n f g gs (byte_cmp f.name g.name) refl h (find_with n f gs h.1)

-- ---- all of a list

one_more : (b : Bool) (o : Option FieldSpace) (f : FieldSpace) → fold gathered o (cond b (f ∷ []) []) ≡ cond b (gathered o f) o
one_more true o f = refl
one_more false o f = refl

all_push : (n : List ℕ) (fs : List FieldSpace) (f : FieldSpace) → all_of n (fs ++ f ∷ []) ≡ cond (is_named n f) (gathered (all_of n fs) f) (all_of n fs)
all_push n fs f =
    ap (fold gathered None) (filter-append (is_named n) fs (f ∷ []))
    ∙ fold-append gathered None (filter (is_named n) fs) (filter (is_named n) (f ∷ []))
    ∙ one_more (is_named n f) (all_of n fs) f

pub by_name_more : (given fs : List FieldSpace) (f : FieldSpace) → AreByName given fs → AreByName (given ++ f ∷ []) (with_field fs f)
by_name_more given fs f h = record {
  ordered = order_with f fs h.ordered;
  each = λ n. find_with n f fs h.ordered ∙ ap (λ o. cond (is_named n f) (gathered o f) o) (h.each n) ∙ sym (all_push n given f);
}

by_name_rest : (given rest fs : List FieldSpace) → AreByName given fs → AreByName (given ++ rest) (fold with_field fs rest)
by_name_rest given [] fs h = subst (λ (l : List FieldSpace). AreByName l fs) (sym (append-nil given)) h
by_name_rest given (f ∷ rest) fs h =
    subst (λ (l : List FieldSpace). AreByName l (fold with_field (with_field fs f) rest)) (append_assoc given (f ∷ []) rest) (by_name_rest (given ++ f ∷ []) rest (with_field fs f) (by_name_more given fs f h))

pub by_name_all : (given : List FieldSpace) → AreByName given (by_name given)
by_name_all given = by_name_rest [] given [] (record { ordered = tt; each = λ n. refl })

-- ---- where a name stands

-- what one more makes of a list, by how the first name stands to it
first_by : (more g : FieldSpace) (gs : List FieldSpace) (c : Ordering) → byte_cmp g.name more.name ≡ c
    → match_ordering (ordering_reverse c) (more ∷ g ∷ gs) (joined g more ∷ gs) (g ∷ with_field gs more) ≡ with_field (g ∷ gs) more
first_by more g gs c is =
    sym (ap (λ (d : Ordering). match_ordering d (more ∷ g ∷ gs) (joined g more ∷ gs) (g ∷ with_field gs more)) (turned g more c is))

-- the usage that has the name stands at i
at_name : (more one : FieldSpace) (fs : List FieldSpace) (i : ℕ) → InNameOrder fs → i < length fs → one ≡ get_or fs i one → byte_cmp one.name more.name ≡ Equal → set fs i (joined one more) ≡ with_field fs more
at_name more one [] i order lt at same = absurd (omega (arith, lt))
at_name more one (g ∷ gs) zero order lt at same =
    subst (λ (x : FieldSpace). joined x more ∷ gs ≡ with_field (g ∷ gs) more) (sym at)
    (first_by more g gs Equal (subst (λ (x : FieldSpace). byte_cmp x.name more.name ≡ Equal) at same))
at_name more one (g ∷ gs) (suc i) order lt at same =
    let short : i < length gs = omega (arith, lt) in
    let below : IsBelow g one = subst (IsBelow g) (sym at) (all_get (IsBelow g) gs i one short order.0) in
    let front : byte_cmp more.name g.name ≡ Greater = sym (nat_list_cmp_total.congr one.name more.name g.name same) ∙ turned g one Less below in
    ap (λ (l : List FieldSpace). g ∷ l) (at_name more one gs i order.1 short at same) ∙ first_by more g gs Less (turned more g Greater front)

-- none has it, and i parts the lower names from the higher ones
in_gap : (more : FieldSpace) (fs : List FieldSpace) (i : ℕ) → i ≤ length fs → ((j : ℕ) → j < i → byte_cmp (get_or fs j more).name more.name ≡ Less)
    → ((j : ℕ) → i ≤ j → j < length fs → byte_cmp (get_or fs j more).name more.name ≡ Greater) → insert fs i more ≡ with_field fs more
in_gap more [] zero le lower higher = refl
in_gap more [] (suc i) le lower higher = absurd (omega (arith, le))
in_gap more (g ∷ gs) zero le lower higher = first_by more g gs Greater (higher 0 (omega arith) (omega arith))
in_gap more (g ∷ gs) (suc i) le lower higher =
    ap (λ (l : List FieldSpace). g ∷ l) (in_gap more gs i (omega (arith, le)) (λ j lt. lower (suc j) (omega (arith, lt))) (λ j from lt. higher (suc j) (omega (arith, from)) (omega (arith, lt))))
    ∙ first_by more g gs Less (lower 0 (omega arith))

next_above : (fs : List FieldSpace) → InNameOrder fs → (k : ℕ) (d : FieldSpace) → suc k < length fs → is_lt (byte_cmp (get_or fs (suc k) d).name (get_or fs k d).name) ≡ false
next_above [] order k d lt = absurd (omega (arith, lt))
next_above (f ∷ []) order k d lt = absurd (omega (arith, lt))
next_above (f ∷ g ∷ gs) order zero d lt = ap is_lt (turned f g Less order.0.0)
next_above (f ∷ g ∷ gs) order (suc k) d lt = next_above (g ∷ gs) order.1 k d (omega (arith, lt))

-- names in order rise against any name
rise : (name : List ℕ) (fs : List FieldSpace) → InNameOrder fs → IsNonDecreasingBy (λ (f : FieldSpace). ordering_index (byte_cmp f.name name)) fs
rise name fs order = searchable_from_sorted nat_list_cmp_total (λ (f : FieldSpace). f.name) fs name (λ k d low lt.
    let next : suc k ≡ k + 1 = omega arith in
    subst (λ n. is_lt (byte_cmp (get_or fs n d).name (get_or fs k d).name) ≡ false) next (next_above fs order k d (omega (arith, lt))))

-- what a search under a name finds where the names are in order
pub found_by : (name : List ℕ) (fs : List FieldSpace) (r : Result ℕ ℕ) → InNameOrder fs → IsSearchInRange r (length fs) → IsBinarySearchResult (λ (f : FieldSpace). byte_cmp f.name name) fs r → MatchResult r (IsPlace name fs) (IsGap name fs)
found_by name fs (Ok i) order inside equal = record {
  inside = inside;
  joins = λ more one named at.
      at_name more one fs i order inside at (subst (λ n. byte_cmp one.name n ≡ Equal) (sym named) (subst (λ (x : FieldSpace). byte_cmp x.name name ≡ Equal) (sym at) (equal one)));
}
found_by name fs (Err i) order inside parted =
    let split = parted (rise name fs order) in record {
      inside = inside;
      goes_in = λ more named. in_gap more fs i inside
          (λ j lt. subst (λ n. byte_cmp (get_or fs j more).name n ≡ Less) (sym named) (split.0 j more (omega arith) lt))
          (λ j from lt. subst (λ n. byte_cmp (get_or fs j more).name n ≡ Greater) (sym named) (split.1 j more from lt));
    }

-- the order stays where one more joined the usage of its name, or where nothing changed
pub order_joined : {A E : Type 0} (r : Result A E) (name : List ℕ) (fs : List FieldSpace) (i : ℕ) (more one new : FieldSpace) → InNameOrder fs → IsPlace name fs i → more.name ≡ name → one ≡ get_or fs i one
    → OnOk r (new ≡ joined one more) → OnErr r (new ≡ one) → InNameOrder (set fs i new)
order_joined (Ok x) name fs i more one new order place named at ok err =
    subst InNameOrder (sym (ap (set fs i) ok ∙ place.joins more one named at)) (order_with more fs order)
order_joined (Err e) name fs i more one new order place named at ok err =
    subst InNameOrder (sym (ap (set fs i) (err ∙ at) ∙ set-get_or fs i one)) order
