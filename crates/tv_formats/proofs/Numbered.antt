-- Entries under numbers, in the order of the numbers.
use Rattle.std.proofs.Common.{◌≡◌, ◌≢◌, ℕ, ◌<◌, ◌≤◌, Bool, true, false, true≢false, cond, List, [], ◌∷◌, Option, Some, None, refl, sym, ap, subst, ◌∙◌, arith}
use Rattle.std.specs.Prelude.{is_some}
use Rattle.std.specs.declared.cmp.Ordering.TheVariants.{Less, Equal, Greater}
use Rattle.std.specs.Cmp.{eq_by_cmp_equiv, nat_cmp_total}
use Rattle.std.specs.Ordering.{is_eq, match_ordering, nat_cmp}
use Rattle.std.specs.List.{AllByRecursion}
use Rattle.std.specs.Map.{lookup, remove_entry}
use Rattle.std.specs.BTreeMap.{is_at, insert_entry}
use Rattle.std.proofs.lemmas.Bool.{false_from_ne_true}
use Rattle.std.proofs.lemmas.Cmp.{ranked}
use Rattle.tv_formats.specs.Collections.{Rises}
use Rattle.tv_formats.proofs.Entries.{is_equal}

-- numbers that compare alike are one
same_number : (n k : ℕ) → is_at (nat_cmp n) k ≡ true → n ≡ k
same_number n k e = ranked n k Equal (sym (is_equal (nat_cmp n k) e))

-- what holds of all entries holds of the one that is found
pub found : {X : Type 0} (P : ℕ × X → Type 0) (es : List (ℕ × X)) (n : ℕ) (v : X) → AllByRecursion P es → lookup (is_at (nat_cmp n)) es ≡ Some v → P (n, v)
found P [] n v h e = absurd cc
found {X} P (x ∷ es) n v h e =
    elim (is_at (nat_cmp n) x.0) as (λ b. is_at (nat_cmp n) x.0 ≡ b → cond b (Some x.1) (lookup (is_at (nat_cmp n)) es) ≡ Some v → P (n, v)) [
      | true ↦ λ at k.
          let key : n ≡ x.0 = same_number n x.0 at in
          let value : x.1 ≡ v = cc in
          subst (λ (m : ℕ). P (m, v)) (sym key) (subst (λ (w : X). P (x.0, w)) value h.0)
      | false ↦ λ at k. found P es n v h.1 k
    ] refl e

-- what holds of all entries and of one more holds of all after that one was put
pub put_all : {X : Type 0} (P : ℕ × X → Type 0) (es : List (ℕ × X)) (k : ℕ) (v : X) → AllByRecursion P es → P (k, v) → AllByRecursion P (insert_entry nat_cmp es k v)
put_all P [] k v h p = (p, tt)
put_all {X} P (e ∷ es) k v h p =
    elim (nat_cmp k e.0) as (λ r. nat_cmp k e.0 ≡ r → AllByRecursion P (match_ordering r ((k, v) ∷ e ∷ es) ((e.0, v) ∷ es) (e ∷ insert_entry nat_cmp es k v))) [
      | Less ↦ λ r. (p, h)
      | Equal ↦ λ r. (subst (λ (m : ℕ). P (m, v)) (ranked k e.0 Equal (sym r)) p, h.1)
      | Greater ↦ λ r. (h.0, put_all P es k v h.1 p)
    ] refl

either_way : {X : Type 0} (P : List (ℕ × X) → Type 0) (b : Bool) (yes_list no_list : List (ℕ × X)) → P yes_list → P no_list → P (cond b yes_list no_list)
either_way P true yes_list no_list h k = h
either_way P false yes_list no_list h k = k

-- or taken away
pub gone_all : {X : Type 0} (P : ℕ × X → Type 0) (test : ℕ → Bool) (es : List (ℕ × X)) → AllByRecursion P es → AllByRecursion P (remove_entry test es)
gone_all P test [] h = tt
gone_all P test (e ∷ es) h = either_way (AllByRecursion P) (test e.0) es (e ∷ remove_entry test es) h.1 (h.0, gone_all P test es h.1)

weaker : {X : Type 0} (k n : ℕ) (es : List (ℕ × X)) → k < n → AllByRecursion (λ f. n < f.0) es → AllByRecursion (λ f. k < f.0) es
weaker k n [] lt h = tt
weaker k n (e ∷ es) lt h = (omega (arith, lt, h.0), weaker k n es lt h.1)

-- numbers that rise still do after an entry was put
pub rises_put : {X : Type 0} (es : List (ℕ × X)) (k : ℕ) (v : X) → Rises es → Rises (insert_entry nat_cmp es k v)
rises_put [] k v h = (tt, tt)
rises_put {X} (e ∷ es) k v h =
    elim (nat_cmp k e.0) as (λ r. nat_cmp k e.0 ≡ r → Rises (match_ordering r ((k, v) ∷ e ∷ es) ((e.0, v) ∷ es) (e ∷ insert_entry nat_cmp es k v))) [
      | Less ↦ λ r. let lt : k < e.0 = ranked k e.0 Less (sym r) in ((lt, weaker k e.0 es lt h.0), h)
      | Equal ↦ λ r. h
      | Greater ↦ λ r. (put_all (λ f. e.0 < f.0) es k v h.0 (ranked k e.0 Greater (sym r)), rises_put es k v h.1)
    ] refl

-- or taken away
pub rises_gone : {X : Type 0} (test : ℕ → Bool) (es : List (ℕ × X)) → Rises es → Rises (remove_entry test es)
rises_gone test [] h = tt
rises_gone test (e ∷ es) h = either_way Rises (test e.0) es (e ∷ remove_entry test es) h.1 (gone_all (λ f. e.0 < f.0) test es h.0, rises_gone test es h.1)

pub itself : (n : ℕ) → is_at (nat_cmp n) n ≡ true
itself n = (eq_by_cmp_equiv nat_cmp_total).refl n

above_all : {X : Type 0} (n : ℕ) (P : X → Type 0) (es : List (ℕ × X)) → AllByRecursion (λ f. n < f.0) es → AllByRecursion (λ f. f.0 ≡ n → P f.1) es
above_all n P [] h = tt
above_all n P (e ∷ es) h = (λ k. absurd (omega (arith, k, h.0)), above_all n P es h.1)

-- where numbers rise, the entry that is found is the only one at its number
pub only : {X : Type 0} (es : List (ℕ × X)) (n : ℕ) (v : X) → Rises es → lookup (is_at (nat_cmp n)) es ≡ Some v → AllByRecursion (λ f. f.0 ≡ n → f.1 ≡ v) es
only [] n v h e = tt
only {X} (x ∷ es) n v h e =
    elim (is_at (nat_cmp n) x.0) as (λ b. is_at (nat_cmp n) x.0 ≡ b → cond b (Some x.1) (lookup (is_at (nat_cmp n)) es) ≡ Some v → AllByRecursion (λ f. f.0 ≡ n → f.1 ≡ v) (x ∷ es)) [
      | true ↦ λ at k.
          let key : n ≡ x.0 = same_number n x.0 at in
          let value : x.1 ≡ v = cc in
          (λ m. value, above_all n (λ w. w ≡ v) es (subst (λ (m : ℕ). AllByRecursion (λ f. m < f.0) es) (sym key) h.0))
      | false ↦ λ at k. (λ same. absurd (true≢false (sym (itself n) ∙ ap (λ (m : ℕ). is_at (nat_cmp n) m) (sym same) ∙ at)), only es n v h.1 k)
    ] refl e

-- where numbers rise, what holds of each entry that is found holds of all
pub all_found : {X : Type 0} (P : ℕ × X → Type 0) (es : List (ℕ × X)) → Rises es → ((k : ℕ) (v : X) → lookup (is_at (nat_cmp k)) es ≡ Some v → P (k, v)) → AllByRecursion P es
all_found P [] rises h = tt
all_found {X} P (e ∷ es) rises h = (h e.0 e.1 (rw (itself e.0) refl), all_found P es rises.1 (λ k v is. h k v (behind k v is))) where
  behind : (k : ℕ) (v : X) → lookup (is_at (nat_cmp k)) es ≡ Some v → lookup (is_at (nat_cmp k)) (e ∷ es) ≡ Some v
  behind k v is =
      let above : e.0 < k = found (λ f. e.0 < f.0) es k v rises.0 is in
      let other : is_at (nat_cmp k) e.0 ≡ false = false_from_ne_true _ (λ t. absurd (omega (arith, same_number k e.0 t, above))) in
      rw other is

-- a number above all has nothing
pub none_above : {X : Type 0} (es : List (ℕ × X)) (m k : ℕ) → AllByRecursion (λ f. f.0 < m) es → m ≤ k → lookup (is_at (nat_cmp k)) es ≡ None
none_above {X} es m k h le = either (lookup (is_at (nat_cmp k)) es) refl where
  either : (there : Option X) → lookup (is_at (nat_cmp k)) es ≡ there → lookup (is_at (nat_cmp k)) es ≡ None
  either None e = e
  either (Some v) e = absurd (omega (arith, found (λ f. f.0 < m) es k v h e, le))

-- an entry that was put is found
pub put_found : {X : Type 0} (es : List (ℕ × X)) (k : ℕ) (v : X) → lookup (is_at (nat_cmp k)) (insert_entry nat_cmp es k v) ≡ Some v
put_found [] k v = rw (itself k) refl
put_found {X} (e ∷ es) k v =
    elim (nat_cmp k e.0) as (λ r. nat_cmp k e.0 ≡ r → lookup (is_at (nat_cmp k)) (match_ordering r ((k, v) ∷ e ∷ es) ((e.0, v) ∷ es) (e ∷ insert_entry nat_cmp es k v)) ≡ Some v) [
      | Less ↦ λ r. rw (itself k) refl
      | Equal ↦ λ r. ap (λ (b : Bool). cond b (Some v) (lookup (is_at (nat_cmp k)) es)) (ap is_eq r)
      | Greater ↦ λ r. ap (λ (b : Bool). cond b (Some e.1) (lookup (is_at (nat_cmp k)) (insert_entry nat_cmp es k v))) (ap is_eq r) ∙ put_found es k v
    ] refl

different : (n k : ℕ) → n ≢ k → is_at (nat_cmp n) k ≡ false
different n k other = false_from_ne_true (is_at (nat_cmp n) k) (λ e. other (same_number n k e))

-- and what stands at another number stays
pub put_other : {X : Type 0} (es : List (ℕ × X)) (k n : ℕ) (v : X) → n ≢ k → lookup (is_at (nat_cmp n)) (insert_entry nat_cmp es k v) ≡ lookup (is_at (nat_cmp n)) es
put_other [] k n v other = rw (different n k other) refl
put_other {X} (e ∷ es) k n v other =
    elim (nat_cmp k e.0) as (λ r. nat_cmp k e.0 ≡ r → lookup (is_at (nat_cmp n)) (match_ordering r ((k, v) ∷ e ∷ es) ((e.0, v) ∷ es) (e ∷ insert_entry nat_cmp es k v)) ≡ lookup (is_at (nat_cmp n)) (e ∷ es)) [
      | Less ↦ λ r. rw (different n k other) refl
      | Equal ↦ λ r.
          let key : k ≡ e.0 = ranked k e.0 Equal (sym r) in
          rw (different n e.0 (λ same. other (same ∙ sym key))) refl
      | Greater ↦ λ r. ap (λ (o : Option X). cond (is_at (nat_cmp n) e.0) (Some e.1) o) (put_other es k n v other)
    ] refl

-- an entry stays where one is put
pub put_stays : {X : Type 0} (es : List (ℕ × X)) (k n : ℕ) (v : X) → is_some (lookup (is_at (nat_cmp n)) es) ≡ true → is_some (lookup (is_at (nat_cmp n)) (insert_entry nat_cmp es k v)) ≡ true
put_stays {X} es k n v there = either (is_at (nat_cmp n) k) refl where
  either : (b : Bool) → is_at (nat_cmp n) k ≡ b → is_some (lookup (is_at (nat_cmp n)) (insert_entry nat_cmp es k v)) ≡ true
  either true e = subst (λ (m : ℕ). is_some (lookup (is_at (nat_cmp m)) (insert_entry nat_cmp es k v)) ≡ true) (sym (same_number n k e)) (ap is_some (put_found es k v))
  either false e = ap is_some (put_other es k n v (λ same. true≢false (sym (itself n) ∙ ap (λ (m : ℕ). is_at (nat_cmp n) m) same ∙ e))) ∙ there

-- where one is taken away, those at other numbers stay
pub gone_other : {X : Type 0} (es : List (ℕ × X)) (k n : ℕ) → n ≢ k → lookup (is_at (nat_cmp n)) (remove_entry (is_at (nat_cmp k)) es) ≡ lookup (is_at (nat_cmp n)) es
gone_other [] k n other = refl
gone_other {X} (e ∷ es) k n other =
    elim (is_at (nat_cmp k) e.0) as (λ b. is_at (nat_cmp k) e.0 ≡ b → lookup (is_at (nat_cmp n)) (cond b es (e ∷ remove_entry (is_at (nat_cmp k)) es)) ≡ lookup (is_at (nat_cmp n)) (e ∷ es)) [
      | true ↦ λ at. rw (different n e.0 (λ same. other (same ∙ sym (same_number k e.0 at)))) refl
      | false ↦ λ at. ap (λ (o : Option X). cond (is_at (nat_cmp n) e.0) (Some e.1) o) (gone_other es k n other)
    ] refl

none_below : {X : Type 0} (es : List (ℕ × X)) (m k : ℕ) → AllByRecursion (λ f. m < f.0) es → k ≤ m → lookup (is_at (nat_cmp k)) es ≡ None
none_below {X} es m k h le = either (lookup (is_at (nat_cmp k)) es) refl where
  either : (there : Option X) → lookup (is_at (nat_cmp k)) es ≡ there → lookup (is_at (nat_cmp k)) es ≡ None
  either None e = e
  either (Some v) e = absurd (omega (arith, found (λ f. m < f.0) es k v h e, le))

-- and where numbers rise, nothing stands at its own
pub gone_none : {X : Type 0} (es : List (ℕ × X)) (k : ℕ) → Rises es → lookup (is_at (nat_cmp k)) (remove_entry (is_at (nat_cmp k)) es) ≡ None
gone_none [] k h = refl
gone_none {X} (e ∷ es) k h =
    elim (is_at (nat_cmp k) e.0) as (λ b. is_at (nat_cmp k) e.0 ≡ b → lookup (is_at (nat_cmp k)) (cond b es (e ∷ remove_entry (is_at (nat_cmp k)) es)) ≡ None) [
      | true ↦ λ at. none_below es e.0 k h.0 (omega (arith, same_number k e.0 at))
      | false ↦ λ at. rw at (gone_none es k h.1)
    ] refl
