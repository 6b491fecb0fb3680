-- Merging lists of receipts.
use Rattle.std.proofs.Common.{◌≡◌, ◌≢◌, ◌⊎◌, ⊎_elim, ◌<◌, ◌≤◌, ◌+◌, ℕ, suc, List, [], ◌∷◌, ◌++◌, map, length, set, Bool, true, false, true≢false, Option, Some, None, refl, sym, ap, ap₂, subst, ◌∙◌, append_assoc, append-nil, length-append, length-set, arith}
use Rattle.std.specs.Prelude.{◌==◌, slice_get, if◌then◌else◌, IfNone, IfSome, IsSome}
use Rattle.std.proofs.lemmas.Option.{slice_get_within}
use Rattle.std.proofs.lemmas.Bool.Decides.{nat_tests}
use Rattle.tv_histories.specs.declared.entry.Entry.{Entry}
use Rattle.tv_histories.specs.declared.entry.Receipt.{Receipt}
use Rattle.tv_histories.specs.Receipts.{entry_of}
use Rattle.tv_histories.specs.Callers.{of_caller}
use Rattle.tv_histories.specs.Merging.{entries, IsMerged}
use Rattle.tv_histories.proofs.Places.{some_is, never, get_snoc, get_set, some_at, below_or_at}

-- ---- merging

-- The callers' receipts, numbered from 1, beside whose each is. What is left of each caller is this.
pub record IsMerging {X : Type 0} (items : X → List Receipt) (all now : List X) (callers : List ℕ)
    (receipts : List Receipt) : Type 0 where
  pub count : length now ≡ length all
  pub long : length callers ≡ length receipts
  pub known : (i k : ℕ) → slice_get callers i ≡ Some k → k < length all
  pub numbered : (i : ℕ) (r : Receipt) → slice_get receipts i ≡ Some r → r.place ≡ i + 1
  pub each : (k : ℕ) (old left : X) → slice_get all k ≡ Some old → slice_get now k ≡ Some left
      → of_caller k callers (entries receipts) ++ entries (items left) ≡ entries (items old)

-- the caller of the least place among the first ones, so many, if any of these has an item
abbrev pub IsLeast : {X : Type 0} → (X → List Receipt) → List X → ℕ → Option (ℕ × ℕ) → Type 0
IsLeast items lists n least =
    IfNone least ((j : ℕ) (q : _) → j < n → slice_get lists j ≡ Some q → items q ≡ [])
    × IfSome least (λ p. (q : _) × (slice_get lists p.0 ≡ Some q) × (0 < length (items q)))

one_of : {A : Type 0} → Bool → A → List A
one_of true x = x ∷ []
one_of false x = []

take_one : {A : Type 0} (b : Bool) (x : A) (ys zs : List A) → (if b then x ∷ (ys ++ zs) else (ys ++ zs)) ≡ (if b then x ∷ ys else ys) ++ zs
take_one true x ys zs = refl
take_one false x ys zs = refl

of_caller_snoc : {A : Type 0} (k : ℕ) (ts : List ℕ) (xs : List A) (t : ℕ) (x : A) → length ts ≡ length xs
    → of_caller k (ts ++ t ∷ []) (xs ++ x ∷ []) ≡ of_caller k ts xs ++ (if t == k then x ∷ [] else [])
of_caller_snoc k [] [] t x e = refl
of_caller_snoc k [] (y ∷ xs) t x e = absurd (omega arith)
of_caller_snoc k (s ∷ ts) [] t x e = absurd (omega arith)
of_caller_snoc k (s ∷ ts) (y ∷ xs) t x e =
    ap (λ l. if s == k then y ∷ l else l) (of_caller_snoc k ts xs t x (omega arith)) ∙ take_one (s == k) y (of_caller k ts xs) (if t == k then x ∷ [] else [])

pub map_snoc : {A B : Type 0} (f : A → B) (xs : List A) (x : A) → map f (xs ++ x ∷ []) ≡ map f xs ++ f x ∷ []
map_snoc f [] x = refl
map_snoc f (y ∷ xs) x = ap (λ l. f y ∷ l) (map_snoc f xs x)

pub length_map : {A B : Type 0} (f : A → B) (xs : List A) → length (map f xs) ≡ length xs
length_map f [] = refl
length_map f (x ∷ xs) = ap suc (length_map f xs)

pub same_number : (k : ℕ) → (k == k) ≡ true
same_number k = grind (arith, nat_tests)

pub other_number : (k j : ℕ) → j ≢ k → (k == j) ≡ false
other_number k j h = grind (arith, nat_tests)

module _ {X : Type 0} (items : X → List Receipt) (all now : List X) (callers : List ℕ) (receipts : List Receipt) (m : IsMerging items all now callers receipts)
    (k : ℕ) (l l' : X) (r r' : Receipt) (rest : List Receipt)
    (at : slice_get now k ≡ Some l) (first : items l ≡ r ∷ rest) (left : items l' ≡ rest) (same : entry_of r' ≡ entry_of r) (place : r'.place ≡ length receipts + 1) where
  grown : (j : ℕ) → of_caller j (callers ++ k ∷ []) (entries (receipts ++ r' ∷ [])) ≡ of_caller j callers (entries receipts) ++ (if k == j then entry_of r' ∷ [] else [])
  grown j =
      ap (λ es. of_caller j (callers ++ k ∷ []) es) (map_snoc entry_of receipts r')
      ∙ of_caller_snoc j callers (entries receipts) k (entry_of r') (m.long ∙ sym (length_map entry_of receipts))

  chosen : (old : X) → slice_get all k ≡ Some old → of_caller k (callers ++ k ∷ []) (entries (receipts ++ r' ∷ [])) ++ entries (items l') ≡ entries (items old)
  chosen old there =
      ap (λ es. es ++ entries (items l')) (grown k ∙ ap (λ (b : Bool). of_caller k callers (entries receipts) ++ (if b then entry_of r' ∷ [] else [])) (same_number k))
      ∙ append_assoc (of_caller k callers (entries receipts)) (entry_of r' ∷ []) (entries (items l'))
      ∙ ap₂ (λ (e : Entry) (rs : List Receipt). of_caller k callers (entries receipts) ++ e ∷ entries rs) same left
      ∙ ap (λ (rs : List Receipt). of_caller k callers (entries receipts) ++ entries rs) (sym first)
      ∙ m.each k old l there at

  others : (j : ℕ) (old q : X) → j ≢ k → slice_get all j ≡ Some old → slice_get now j ≡ Some q → of_caller j (callers ++ k ∷ []) (entries (receipts ++ r' ∷ [])) ++ entries (items q) ≡ entries (items old)
  others j old q other there at' =
      ap (λ es. es ++ entries (items q)) (grown j ∙ ap (λ (b : Bool). of_caller j callers (entries receipts) ++ (if b then entry_of r' ∷ [] else [])) (other_number k j other) ∙ append-nil (of_caller j callers (entries receipts)))
      ∙ m.each j old q there at'

  pub goes : IsMerging items all (set now k l') (callers ++ k ∷ []) (receipts ++ r' ∷ [])
  goes = record {
    count = length-set now k l' ∙ m.count;
    long = let e = m.long in omega (arith, length-append callers (k ∷ []), length-append receipts (r' ∷ []));
    known = λ i j at'. ⊎_elim (λ (t : slice_get callers i ≡ Some j). m.known i j t) (λ (t : (i ≡ length callers) × (k ≡ j)). subst (λ (n : ℕ). n < length all) t.1 (subst (λ (n : ℕ). k < n) m.count (slice_get_within now k l at))) (get_snoc callers k i j at');
    numbered = λ i q at'. ⊎_elim (λ (t : slice_get receipts i ≡ Some q). m.numbered i q t) (λ (t : (i ≡ length receipts) × (r' ≡ q)). ap (λ (z : Receipt). z.place) (sym t.1) ∙ place ∙ ap (λ (n : ℕ). n + 1) (sym t.0)) (get_snoc receipts r' i q at');
    each = λ j old q there at'.
        ⊎_elim (λ (t : (j ≡ k) × (l' ≡ q)). subst (λ (z : X). of_caller j (callers ++ k ∷ []) (entries (receipts ++ r' ∷ [])) ++ entries (items z) ≡ entries (items old)) t.1
        (subst (λ (n : ℕ). slice_get all n ≡ Some old → of_caller n (callers ++ k ∷ []) (entries (receipts ++ r' ∷ [])) ++ entries (items l') ≡ entries (items old)) (sym t.0) (chosen old) there))
        (λ (t : (j ≢ k) × (slice_get now j ≡ Some q)). others j old q t.0 there t.1)
        (get_set now k l' j q at');
  }

pub begins : {X : Type 0} (items : X → List Receipt) (all : List X) → IsMerging items all all [] []
begins items all = record {
  count = refl;
  long = refl;
  known = λ i k e. absurd (never e);
  numbered = λ i r e. absurd (never e);
  each = λ k old left there at. ap (λ (x : _). entries (items x)) (some_is (sym at ∙ there));
}

pub ends : {X : Type 0} (items : X → List Receipt) (all now : List X) (callers : List ℕ) (receipts : List Receipt) → IsMerging items all now callers receipts
    → ((k : ℕ) (l : X) → slice_get now k ≡ Some l → items l ≡ []) → IsMerged items all callers receipts
ends items all now callers receipts m none = record {
  long = m.long;
  known = m.known;
  numbered = m.numbered;
  each = λ k old there.
      let within : k < length now = let w = slice_get_within all k old there in let c = m.count in omega arith in
      let here = some_at now k within in
      sym (append-nil (of_caller k callers (entries receipts))) ∙ ap (λ (rs : List Receipt). of_caller k callers (entries receipts) ++ entries rs) (sym (none k here.0 here.1)) ∙ m.each k old here.0 there here.1;
}

pub ends_at : {X : Type 0} (items : X → List Receipt) (all now : List X) (callers : List ℕ) (receipts : List Receipt) (seen : List X) → IsMerging items all now callers receipts
    → seen ≡ now → ((k : ℕ) (l : X) → slice_get seen k ≡ Some l → items l ≡ []) → IsMerged items all callers receipts
ends_at {X = X} items all now callers receipts seen m same none = ends items all now callers receipts m (subst (λ (ls : List X). (k : ℕ) (l : X) → slice_get ls k ≡ Some l → items l ≡ []) same none)

-- ---- the least

if_none : {A : Type 0} {P : Type 0} (o : Option A) → o ≡ None → IfNone o P → P
if_none None e p = p
if_none (Some x) e p = absurd (never (sym e))

if_some : {A : Type 0} (P : A → Type 0) (o : Option A) (x : A) → o ≡ Some x → IfSome o P → P x
if_some P None x e p = absurd (never e)
if_some P (Some y) x e p = subst P (some_is e) p

of_some : {A : Type 0} {Q : Type 0} (o : Option A) → IsSome o → IfSome o (λ _. Q) → Q
of_some None i p = absurd (true≢false (sym i))
of_some (Some x) i p = p

pub least_suc : {X : Type 0} (items : X → List Receipt) (lists : List X) (n : ℕ) (least : Option (ℕ × ℕ)) (l : X) (place : Option ℕ) (result : Option (ℕ × ℕ))
    → IsLeast items lists n least → slice_get lists n ≡ Some l → IfNone place (items l ≡ []) → IfSome place (λ _. 0 < length (items l))
    → IfNone result ((least ≡ None) × (place ≡ None)) → IfSome result (λ p. (least ≡ Some p) ⊎ ((p.0 ≡ n) × IsSome place)) → IsLeast items lists (n + 1) result
least_suc items lists n least l place None is here none some both one = (
  λ j q below at.
      let c = below_or_at j n below in
      ⊎_elim (λ (less : j < n). if_none least both.0 is.0 j q less at)
      (λ (same : j ≡ n). ap items (some_is (sym at ∙ ap (λ k. slice_get lists k) same ∙ here)) ∙ if_none place both.1 none) c,
  tt,
)
least_suc items lists n least l place (Some p) is here none some both one = (
  tt,
  ⊎_elim (λ (t : least ≡ Some p). if_some _ least p t is.1)
      (λ (t : (p.0 ≡ n) × IsSome place). (l, ap (λ k. slice_get lists k) t.0 ∙ here, of_some place t.1 some)) one,
)

pub least_all : {X : Type 0} (items : X → List Receipt) (lists : List X) (n : ℕ) (least : Option (ℕ × ℕ)) → IsLeast items lists n least → length lists ≤ n → least ≡ None
    → (k : ℕ) (l : X) → slice_get lists k ≡ Some l → items l ≡ []
least_all items lists n least is long none k l at = let w = slice_get_within lists k l at in if_none least none is.0 k l (omega arith) at
