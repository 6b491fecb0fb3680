-- The names that unfinished collections hold, and how often each stands there.
use Rattle.std.proofs.Common.{◌≡◌, ℕ, ◌+◌, ◌≤◌, ◌<◌, Bool, true, false, true≢false, ◌||◌, cond, List, [], ◌∷◌, ◌++◌, Some, refl, sym, ap, subst, arith}
use Rattle.std.specs.declared.cmp.Ordering.TheVariants.{Less, Equal, Greater}
use Rattle.std.specs.Ordering.{is_eq, match_ordering, nat_cmp}
use Rattle.std.specs.List.{flat_map}
use Rattle.std.specs.List.Sorted.{IsStrictlySortedBy}
use Rattle.std.specs.Map.{lookup, remove_entry}
use Rattle.std.specs.BTreeMap.{is_at, insert_entry}
use Rattle.std.proofs.lemmas.Bool.{false_from_ne_true, or_parts}
use Rattle.std.proofs.lemmas.Cmp.{ranked}
use Rattle.tv_formats.specs.Names.{byte_cmp, is, has}
use Rattle.tv_formats.specs.Collections.{Collection, AreOnce, Rises, having_tried, taken}
use Rattle.tv_formats.proofs.Entries.{is_itself, is_text, below_absent}
use Rattle.tv_formats.proofs.Numbered.{found}

-- how often a name stands among some
abbrev pub times : List (List ℕ) → List ℕ → ℕ
times [] n = 0
times (x ∷ xs) n = cond (is x n) 1 0 + times xs n

pub times_append : (xs ys : List (List ℕ)) (n : List ℕ) → times (xs ++ ys) n ≡ times xs n + times ys n
times_append [] ys n = omega arith
times_append (x ∷ xs) ys n = omega (arith, times_append xs ys n)

-- a name is among some where it stands there
pub some_times : (xs : List (List ℕ)) (n : List ℕ) → has xs n ≡ true → 1 ≤ times xs n
some_times [] n h = absurd (true≢false (sym h))
some_times (x ∷ xs) n h =
    elim (is x n) as (λ b. (b || has xs n) ≡ true → 1 ≤ cond b 1 0 + times xs n) [
      | true ↦ λ k. omega arith
      | false ↦ λ k. omega (arith, some_times xs n k)
    ] h

pub no_times : (xs : List (List ℕ)) (n : List ℕ) → has xs n ≡ false → times xs n ≡ 0
no_times [] n h = refl
no_times (x ∷ xs) n h = let t = or_parts (is x n) (has xs n) h in rw t.0 (omega (arith, no_times xs n t.1))

pub has_times : (xs : List (List ℕ)) (n : List ℕ) → 1 ≤ times xs n → has xs n ≡ true
has_times xs n le = either (has xs n) refl where
  either : (b : Bool) → has xs n ≡ b → has xs n ≡ true
  either true e = e
  either false e = absurd (omega (arith, no_times xs n e, le))

-- names that stand once each
pub once_times : (xs : List (List ℕ)) (n : List ℕ) → AreOnce xs → times xs n ≤ 1
once_times [] n once = omega arith
once_times (x ∷ xs) n once =
    elim (is x n) as (λ b. is x n ≡ b → cond b 1 0 + times xs n ≤ 1) [
      | true ↦ λ e. omega (arith, no_times xs n (subst (λ (m : List ℕ). has xs m ≡ false) (is_text x n e) once.0))
      | false ↦ λ e. omega (arith, once_times xs n once.1)
    ] refl

times_self : (x : List ℕ) (xs : List (List ℕ)) → times (x ∷ xs) x ≡ 1 + times xs x
times_self x xs = rw (is_itself x) refl

pub times_once : (xs : List (List ℕ)) → ((n : List ℕ) → times xs n ≤ 1) → AreOnce xs
times_once [] h = tt
times_once (x ∷ xs) h = (false_from_ne_true (has xs x) twice, times_once xs (λ n. omega (arith, h n))) where
  twice : has xs x ≡ true → ⊥
  twice k = omega (arith, times_self x xs, h x, some_times xs x k)

pub once_sorted : (names : List (List ℕ)) → IsStrictlySortedBy byte_cmp names → AreOnce names
unfolding IsStrictlySortedBy
once_sorted [] h = tt
once_sorted (name ∷ names) h = (below_absent names name h.0, once_sorted names h.1)

-- ---- the names of collections

-- the names that these hold
abbrev pub names_held : List (ℕ × Collection) → List (List ℕ)
names_held es = flat_map (λ e. taken e.1) es

held_more : (e : ℕ × Collection) (es : List (ℕ × Collection)) (n : List ℕ) → times (names_held (e ∷ es)) n ≡ times (taken e.1) n + times (names_held es) n
held_more e es n = times_append (taken e.1) (names_held es) n

-- a collection that is put brings no more than its own names
pub held_put : (es : List (ℕ × Collection)) (k : ℕ) (c : Collection) (n : List ℕ) → times (names_held (insert_entry nat_cmp es k c)) n ≤ times (names_held es) n + times (taken c) n
held_put [] k c n = omega (arith, held_more (k, c) [] n)
held_put (e ∷ es) k c n =
    elim (nat_cmp k e.0) as (λ r. times (names_held (match_ordering r ((k, c) ∷ e ∷ es) ((e.0, c) ∷ es) (e ∷ insert_entry nat_cmp es k c))) n ≤ times (names_held (e ∷ es)) n + times (taken c) n) [
      | Less ↦ omega (arith, held_more (k, c) (e ∷ es) n)
      | Equal ↦ omega (arith, held_more (e.0, c) es n, held_more e es n)
      | Greater ↦ omega (arith, held_more e (insert_entry nat_cmp es k c) n, held_more e es n, held_put es k c n)
    ]

-- one that is put over an old one brings its own names for the old one's
pub held_over : (es : List (ℕ × Collection)) (k : ℕ) (old c : Collection) (n : List ℕ) → Rises es → lookup (is_at (nat_cmp k)) es ≡ Some old
    → times (names_held (insert_entry nat_cmp es k c)) n + times (taken old) n ≡ times (names_held es) n + times (taken c) n
held_over [] k old c n rises is = absurd cc
held_over (e ∷ es) k old c n rises is =
    elim (nat_cmp k e.0) as (λ r. nat_cmp k e.0 ≡ r → cond (is_eq r) (Some e.1) (lookup (is_at (nat_cmp k)) es) ≡ Some old
    → times (names_held (match_ordering r ((k, c) ∷ e ∷ es) ((e.0, c) ∷ es) (e ∷ insert_entry nat_cmp es k c))) n + times (taken old) n ≡ times (names_held (e ∷ es)) n + times (taken c) n) [
      | Less ↦ λ r there. absurd (omega (arith, ranked k e.0 Less (sym r), found (λ f. e.0 < f.0) es k old rises.0 there))
      | Equal ↦ λ r there.
          let same : e.1 ≡ old = cc in
          omega (arith, held_more (e.0, c) es n, held_more e es n, ap (λ (d : Collection). times (taken d) n) same)
      | Greater ↦ λ r there. omega (arith, held_more e (insert_entry nat_cmp es k c) n, held_more e es n, held_over es k old c n rises.1 there)
    ] refl is

-- one that goes takes its own names away
pub held_gone : (es : List (ℕ × Collection)) (k : ℕ) (c : Collection) (n : List ℕ) → lookup (is_at (nat_cmp k)) es ≡ Some c
    → times (names_held (remove_entry (is_at (nat_cmp k)) es)) n + times (taken c) n ≡ times (names_held es) n
held_gone [] k c n is = absurd cc
held_gone (e ∷ es) k c n is =
    elim (is_at (nat_cmp k) e.0) as (λ b. cond b (Some e.1) (lookup (is_at (nat_cmp k)) es) ≡ Some c
    → times (names_held (cond b es (e ∷ remove_entry (is_at (nat_cmp k)) es))) n + times (taken c) n ≡ times (names_held (e ∷ es)) n) [
      | true ↦ λ there.
          let same : e.1 ≡ c = cc in
          omega (arith, held_more e es n, ap (λ (d : Collection). times (taken d) n) same)
      | false ↦ λ there. omega (arith, held_more e (remove_entry (is_at (nat_cmp k)) es) n, held_more e es n, held_gone es k c n there)
    ] is

-- the names of a collection are held
pub taken_held : (es : List (ℕ × Collection)) (k : ℕ) (c : Collection) (n : List ℕ) → lookup (is_at (nat_cmp k)) es ≡ Some c → times (taken c) n ≤ times (names_held es) n
taken_held es k c n is = omega (arith, held_gone es k c n is)

pub taken_times : (c : Collection) (n : List ℕ) → times (taken c) n ≡ times c.done n + times c.failed n + times c.untried n
taken_times c n = omega (arith, times_append (c.done ++ c.failed) c.untried n, times_append c.done c.failed n)

-- what is done was taken
pub done_taken : (c : Collection) (n : List ℕ) → times c.done n ≤ times (taken c) n
done_taken c n = omega (arith, taken_times c n)

-- and so was what is yet to be tried
pub untried_taken : (c : Collection) (n : List ℕ) → times c.untried n ≤ times (taken c) n
untried_taken c n = omega (arith, taken_times c n)

-- a collection that has tried a name has the names that it had
pub tried_times : (c : Collection) (name : List ℕ) (left : List (List ℕ)) (is_done : Bool) (n : List ℕ) → c.untried ≡ name ∷ left → times (taken (having_tried c name left is_done)) n ≡ times (taken c) n
tried_times c name left true n e =
    omega (arith, taken_times c n, taken_times (having_tried c name left true) n, times_append c.done (name ∷ []) n, ap (λ (l : List (List ℕ)). times l n) e)
tried_times c name left false n e =
    omega (arith, taken_times c n, taken_times (having_tried c name left false) n, times_append c.failed (name ∷ []) n, ap (λ (l : List (List ℕ)). times l n) e)
