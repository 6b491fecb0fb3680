-- What unfinished collections have done, after one began, tried a name or ended.
use Rattle.std.proofs.Common.{◌≡◌, ℕ, Bool, true, false, cond, ◌||◌, List, [], ◌∷◌, ◌++◌, None, Some, refl, sym, ap, ◌∙◌, arith}
use Rattle.std.specs.BTreeMap.{is_at, insert_entry}
use Rattle.std.specs.List.{AllByRecursion, flat_map, list_any}
use Rattle.std.specs.List.Sorted.{IsStrictlySortedBy}
use Rattle.std.specs.Map.{keys_of, lookup, remove_entry, set_value, values_of}
use Rattle.std.proofs.lemmas.Cmp.{nat_cmp_total}
use Rattle.std.specs.Cmp.{nat_cmp_is}
use Rattle.std.specs.Ordering.{is_eq, match_ordering, nat_cmp}
use Rattle.std.specs.declared.cmp.Ordering.{Ordering}
use Rattle.std.specs.declared.cmp.Ordering.TheVariants.{Less, Equal, Greater}
use Rattle.tv_formats.specs.Names.{has}
use Rattle.tv_formats.specs.Collections.{Collection, taken}
use Rattle.tv_formats.proofs.CollectedNames.{has_append}

-- a number is the same as itself
nat_cmp_same : (n : ℕ) → nat_cmp n n ≡ Equal
nat_cmp_same n = sym (nat_cmp_is n n Equal refl)

abbrev dones : List (ℕ × Collection) → List (List ℕ)
dones entries = flat_map (λ e. e.1.done) entries

-- what a collection has done was done
pub among_done : (entries : List (ℕ × Collection)) (number : ℕ) (c : Collection) (n : List ℕ) → lookup (is_at (nat_cmp number)) entries ≡ Some c → (has c.done n || has (dones entries) n) ≡ has (dones entries) n
among_done [] number c n at = absurd cc
among_done (e ∷ entries) number c n at = here (is_eq (nat_cmp number e.0)) (among_done entries number c n) at where
  twice : (a b : Bool) → (a || (a || b)) ≡ (a || b)
  twice true b = refl
  twice false b = refl

  last : (b : Bool) → true ≡ (b || true)
  last true = refl
  last false = refl

  later : (a b d : Bool) → (a || d) ≡ d → (a || (b || d)) ≡ (b || d)
  later true b d h = rw (← h) (last b)
  later false b d h = refl

  here : (b : Bool) → (lookup (is_at (nat_cmp number)) entries ≡ Some c → (has c.done n || has (dones entries) n) ≡ has (dones entries) n) → cond b (Some e.1) (lookup (is_at (nat_cmp number)) entries) ≡ Some c → (has c.done n || has (e.1.done ++ dones entries) n) ≡ has (e.1.done ++ dones entries) n
  here true before k = let it : e.1 ≡ c = cc in rw (has_append e.1.done (dones entries) n, ← it) (twice (has e.1.done n) (has (dones entries) n))
  here false before k = rw (has_append e.1.done (dones entries) n) (later (has c.done n) (has e.1.done n) (has (dones entries) n) (before k))

-- what was done, and what is done once the collection of this number stands so
pub more_done : (entries : List (ℕ × Collection)) (number : ℕ) (c later : Collection) (n : List ℕ) (b : Bool) → lookup (is_at (nat_cmp number)) entries ≡ Some c → has later.done n ≡ (has c.done n || b)
    → has (dones (insert_entry nat_cmp entries number later)) n ≡ (has (dones entries) n || b)
more_done [] number c later n b at is = absurd cc
more_done (e ∷ entries) number c later n b at is = here (nat_cmp number e.0) (λ k. more_done entries number c later n b k is) at where
  first : (a b x d : Bool) → (a || d) ≡ d → ((a || b) || (x || d)) ≡ ((x || d) || b)
  first a b x d h = grind arith

  same : (a b d : Bool) → ((a || b) || d) ≡ ((a || d) || b)
  same a b d = grind arith

  other : (x y d b : Bool) → y ≡ (d || b) → (x || y) ≡ ((x || d) || b)
  other x y d b h = grind arith

  here : (r : Ordering) → (lookup (is_at (nat_cmp number)) entries ≡ Some c → has (dones (insert_entry nat_cmp entries number later)) n ≡ (has (dones entries) n || b)) → cond (is_eq r) (Some e.1) (lookup (is_at (nat_cmp number)) entries) ≡ Some c
      → has (dones (match_ordering r ((number, later) ∷ e ∷ entries) ((e.0, later) ∷ entries) (e ∷ insert_entry nat_cmp entries number later))) n ≡ (has (e.1.done ++ dones entries) n || b)
  here Less before k = rw (has_append later.done (e.1.done ++ dones entries) n, has_append e.1.done (dones entries) n, is) (first (has c.done n) b (has e.1.done n) (has (dones entries) n) (among_done entries number c n k))
  here Equal before k =
      let it : e.1 ≡ c = cc in
      rw (has_append later.done (dones entries) n, has_append e.1.done (dones entries) n, is, it) (same (has c.done n) b (has (dones entries) n))
  here Greater before k = rw (has_append e.1.done (dones (insert_entry nat_cmp entries number later)) n, has_append e.1.done (dones entries) n) (other (has e.1.done n) _ (has (dones entries) n) b (before k))

-- a collection that has done nothing was put, under a number that is free
pub none_done : (entries : List (ℕ × Collection)) (number : ℕ) (later : Collection) (n : List ℕ) → lookup (is_at (nat_cmp number)) entries ≡ None → later.done ≡ [] → has (dones (insert_entry nat_cmp entries number later)) n ≡ has (dones entries) n
none_done [] number later n at is = rw is refl
none_done (e ∷ entries) number later n at is = here (nat_cmp number e.0) (λ k. none_done entries number later n k is) at where
  here : (r : Ordering) → (lookup (is_at (nat_cmp number)) entries ≡ None → has (dones (insert_entry nat_cmp entries number later)) n ≡ has (dones entries) n) → cond (is_eq r) (Some e.1) (lookup (is_at (nat_cmp number)) entries) ≡ None
      → has (dones (match_ordering r ((number, later) ∷ e ∷ entries) ((e.0, later) ∷ entries) (e ∷ insert_entry nat_cmp entries number later))) n ≡ has (e.1.done ++ dones entries) n
  here Less before k = rw is refl
  here Equal before k = absurd cc
  here Greater before k = rw (has_append e.1.done (dones (insert_entry nat_cmp entries number later)) n, has_append e.1.done (dones entries) n, before k) refl

-- a collection was taken out: what was done, it has done, or it is done still
pub fewer_done : (entries : List (ℕ × Collection)) (number : ℕ) (c : Collection) (n : List ℕ) → lookup (is_at (nat_cmp number)) entries ≡ Some c → has (dones entries) n ≡ (has c.done n || has (dones (remove_entry (is_at (nat_cmp number)) entries)) n)
fewer_done [] number c n at = absurd cc
fewer_done (e ∷ entries) number c n at = here (is_eq (nat_cmp number e.0)) (fewer_done entries number c n) at where
  turn : (a b d x : Bool) → x ≡ (a || d) → (b || x) ≡ (a || (b || d))
  turn a b d x h = grind arith

  here : (b : Bool) → (lookup (is_at (nat_cmp number)) entries ≡ Some c → has (dones entries) n ≡ (has c.done n || has (dones (remove_entry (is_at (nat_cmp number)) entries)) n)) → cond b (Some e.1) (lookup (is_at (nat_cmp number)) entries) ≡ Some c
      → has (e.1.done ++ dones entries) n ≡ (has c.done n || has (dones (cond b entries (e ∷ remove_entry (is_at (nat_cmp number)) entries))) n)
  here true before k = let it : e.1 ≡ c = cc in rw (has_append e.1.done (dones entries) n, it) refl
  here false before k = rw (has_append e.1.done (dones entries) n, has_append e.1.done (dones (remove_entry (is_at (nat_cmp number)) entries)) n) (turn (has c.done n) (has e.1.done n) _ _ (before k))

-- writing the value of a number that is there is putting it
pub set_is_put : {X : Type 0} (entries : List (ℕ × X)) (number : ℕ) (c later : X) → IsStrictlySortedBy nat_cmp (keys_of entries) → lookup (is_at (nat_cmp number)) entries ≡ Some c
    → set_value (is_at (nat_cmp number)) entries later ≡ insert_entry nat_cmp entries number later
unfolding IsStrictlySortedBy
set_is_put [] number c later sorted at = absurd cc
set_is_put {X} (e ∷ entries) number c later sorted at = here (nat_cmp number e.0) refl (set_is_put entries number c later sorted.1) at where
  none : (es : List (ℕ × X)) → nat_cmp number e.0 ≡ Less → AllByRecursion (λ k. nat_cmp e.0 k ≡ Less) (keys_of es) → lookup (is_at (nat_cmp number)) es ≡ None
  none [] low h = refl
  none (x ∷ es) low h = rw (nat_cmp_total.trans number e.0 x.0 low h.0) (none es low h.1)

  here : (r : Ordering) → nat_cmp number e.0 ≡ r → (lookup (is_at (nat_cmp number)) entries ≡ Some c → set_value (is_at (nat_cmp number)) entries later ≡ insert_entry nat_cmp entries number later) → cond (is_eq r) (Some e.1) (lookup (is_at (nat_cmp number)) entries) ≡ Some c
      → cond (is_eq r) ((e.0, later) ∷ entries) (e ∷ set_value (is_at (nat_cmp number)) entries later) ≡ match_ordering r ((number, later) ∷ e ∷ entries) ((e.0, later) ∷ entries) (e ∷ insert_entry nat_cmp entries number later)
  here Less is before k = absurd (cc (none entries is sorted.0))
  here Equal is before k = refl
  here Greater is before k = ap (λ (es : List (ℕ × X)). e ∷ es) (before k)

-- a name that a collection holds
pub held_by : (entries : List (ℕ × Collection)) (n : List ℕ) → has (flat_map (λ e. taken e.1) entries) n ≡ list_any (λ c. has (taken c) n) (values_of entries)
held_by [] n = refl
held_by (e ∷ entries) n = has_append (taken e.1) (flat_map (λ e. taken e.1) entries) n ∙ ap (λ b. has (taken e.1) n || b) (held_by entries n)

-- what is done is held
pub done_held : (entries : List (ℕ × Collection)) (n : List ℕ) → has (flat_map (λ e. taken e.1) entries) n ≡ false → has (dones entries) n ≡ false
done_held [] n h = refl
done_held (e ∷ entries) n h = here (sym (has_append (taken e.1) (flat_map (λ e. taken e.1) entries) n) ∙ h) (done_held entries n) where
  none : (a b d x y : Bool) → (((a || b) || d) || x) ≡ false → (x ≡ false → y ≡ false) → (a || y) ≡ false
  none a b d x y h k = grind arith

  here : (has (taken e.1) n || has (flat_map (λ e. taken e.1) entries) n) ≡ false → (has (flat_map (λ e. taken e.1) entries) n ≡ false → has (dones entries) n ≡ false) → has (e.1.done ++ dones entries) n ≡ false
  here k more =
      has_append e.1.done (dones entries) n
      ∙ none (has e.1.done n) (has e.1.failed n) (has e.1.untried n) (has (flat_map (λ e. taken e.1) entries) n) (has (dones entries) n)
      (ap (λ b. b || has (flat_map (λ e. taken e.1) entries) n) (sym (has_append (e.1.done ++ e.1.failed) e.1.untried n ∙ ap (λ b. b || has e.1.untried n) (has_append e.1.done e.1.failed n))) ∙ k) more

-- what was put twice
pub put_twice : {X : Type 0} (entries : List (ℕ × X)) (number : ℕ) (c later : X) → insert_entry nat_cmp (insert_entry nat_cmp entries number c) number later ≡ insert_entry nat_cmp entries number later
put_twice [] number c later = rw (nat_cmp_same number) refl
put_twice {X} (e ∷ entries) number c later = here (nat_cmp number e.0) refl (put_twice entries number c later) where
  here : (r : Ordering) → nat_cmp number e.0 ≡ r → insert_entry nat_cmp (insert_entry nat_cmp entries number c) number later ≡ insert_entry nat_cmp entries number later
      → insert_entry nat_cmp (match_ordering r ((number, c) ∷ e ∷ entries) ((e.0, c) ∷ entries) (e ∷ insert_entry nat_cmp entries number c)) number later ≡ match_ordering r ((number, later) ∷ e ∷ entries) ((e.0, later) ∷ entries) (e ∷ insert_entry nat_cmp entries number later)
  here Less is h = rw (nat_cmp_same number) refl
  here Equal is h = rw is refl
  here Greater is h = rw is (ap (λ (es : List (ℕ × X)). e ∷ es) h)

-- what was put under a free number, and taken out again
pub put_and_out : {X : Type 0} (entries : List (ℕ × X)) (number : ℕ) (c : X) → lookup (is_at (nat_cmp number)) entries ≡ None → remove_entry (is_at (nat_cmp number)) (insert_entry nat_cmp entries number c) ≡ entries
put_and_out [] number c free = rw (nat_cmp_same number) refl
put_and_out {X} (e ∷ entries) number c free = here (nat_cmp number e.0) refl free (put_and_out entries number c) where
  here : (r : Ordering) → nat_cmp number e.0 ≡ r → cond (is_eq r) (Some e.1) (lookup (is_at (nat_cmp number)) entries) ≡ None → (lookup (is_at (nat_cmp number)) entries ≡ None → remove_entry (is_at (nat_cmp number)) (insert_entry nat_cmp entries number c) ≡ entries)
      → remove_entry (is_at (nat_cmp number)) (match_ordering r ((number, c) ∷ e ∷ entries) ((e.0, c) ∷ entries) (e ∷ insert_entry nat_cmp entries number c)) ≡ e ∷ entries
  here Less is k h = rw (nat_cmp_same number) refl
  here Equal is k h = absurd cc
  here Greater is k h = rw is (ap (λ (es : List (ℕ × X)). e ∷ es) (h k))
