-- Entries under their numbers, as a map by number keeps them.
use Rattle.std.proofs.Common.{◌≡◌, ℕ, Greater, suc, ◌<◌, ◌≤◌, Bool, true, false, cond, List, [], ◌∷◌, ◌++◌, Option, Some, None, All, find, map, nat_lt, refl, sym, ap, subst, ◌∙◌, eqb, arith}
use Rattle.std.proofs.lemmas.Bool.{or_parts}
use Rattle.std.proofs.lemmas.Bool.Decides.{nat_tests}
use Rattle.std.proofs.lemmas.List.Elements.{All-cons, AllZip-get_or, length_all_zip}
use Rattle.std.specs.BTreeMap.{insert_entry, is_at}
use Rattle.std.specs.List.{AllZip, list_any}
use Rattle.std.specs.Map.{lookup, remove_entry, set_value, values_of}
use Rattle.std.specs.Map.Calls.{RetainsPairs}
use Rattle.std.specs.Ordering.{nat_cmp}
use Rattle.tv_base.specs.declared.inventory.Entry.{Entry}
use Rattle.tv_base.specs.Entries.{InventoryState, is_full, is_last, is_numbered, one_fewer, one_more, released}
use Rattle.tv_base.specs.Keyed.{counted, keyed}
use Rattle.tv_base.specs.PlaceLaws.{stays}
use Rattle.tv_base.specs.Places.{change_at, take_out}
use Rattle.tv_base.specs.Visits.{IsVisited}

-- read back in their order
pub values_keyed : {T : Type 0} (es : List (Entry T)) → values_of (keyed es) ≡ es
values_keyed [] = refl
values_keyed {T} (e ∷ es) = ap (λ (l : List (Entry T)). e ∷ l) (values_keyed es)

-- what is keyed stays so
pub keyed_is : {T : Type 0} (ps : List (ℕ × Entry T)) (es : List (Entry T)) → ps ≡ keyed es → ps ≡ keyed (values_of ps)
keyed_is ps es is = rw (is, values_keyed es) refl

-- and its values are known
pub values_are : {T : Type 0} (ps : List (ℕ × Entry T)) (es : List (Entry T)) → ps ≡ keyed es → values_of ps ≡ es
values_are ps es is = rw is (values_keyed es)

-- what is keyed keeps the invariant of an inventory
pub kept : {T : Type 0} (n : ℕ) (ps : List (ℕ × Entry T)) (es : List (Entry T)) → ps ≡ keyed es → All (λ e. e.number < n) es
    → (ps ≡ keyed (values_of ps)) × All (λ e. e.number < n) (values_of ps)
kept {T} n ps es is below =
    (keyed_is ps es is, subst (λ (l : List (Entry T)). All (λ e. e.number < n) l) (sym (values_are ps es is)) below)

-- an inventory of which the entries were changed
pub entries_are : {T : Type 0} (h : List (Entry T) → List (Entry T)) (next : ℕ) (ps qs : List (ℕ × Entry T)) (state : InventoryState T)
    → record { next = next; entries = values_of ps } ≡ state → qs ≡ keyed (h (values_of ps))
    → record { next = next; entries = values_of qs } ≡ record state { entries = h state.entries }
entries_are h next ps qs state is new = rw (← is, values_are qs (h (values_of ps)) new) refl

test_is : (n k : ℕ) → is_at (nat_cmp n) k ≡ eqb k n
test_is n k = grind (arith, nat_tests)

-- a look-up
pub lookup_keyed : {T : Type 0} (n : ℕ) (es : List (Entry T)) → lookup (is_at (nat_cmp n)) (keyed es) ≡ find (is_numbered n) es
lookup_keyed n [] = refl
lookup_keyed n (e ∷ es) = rw (test_is n e.number, lookup_keyed n es) refl

-- a removal
pub removed_keyed : {T : Type 0} (n : ℕ) (es : List (Entry T)) → remove_entry (is_at (nat_cmp n)) (keyed es) ≡ keyed (take_out (is_numbered n) es)
removed_keyed n [] = refl
removed_keyed {T} n (e ∷ es) = rw (test_is n e.number, removed_keyed n es) (by (eqb e.number n)) where
  by : (b : Bool) → cond b (keyed es) ((e.number, e) ∷ keyed (take_out (is_numbered n) es)) ≡ keyed (cond b es (e ∷ take_out (is_numbered n) es))
  by true = refl
  by false = refl

-- what a look-up by number finds
pub looked : {T : Type 0} (n : ℕ) (ps : List (ℕ × Entry T)) (o : Option (Entry T)) → ps ≡ keyed (values_of ps)
    → o ≡ lookup (is_at (nat_cmp n)) ps → find (is_numbered n) (values_of ps) ≡ o
looked n ps o is there =
    sym (there ∙ ap (lookup (is_at (nat_cmp n))) is ∙ lookup_keyed n (values_of ps))

-- a change
module _ {T : Type 0} (f : Entry T → Entry T) (same : (e : Entry T) → (f e).number ≡ e.number) where
  pub written_keyed : (n : ℕ) (es : List (Entry T)) (d : Entry T) → find (is_numbered n) es ≡ Some d
      → set_value (is_at (nat_cmp n)) (keyed es) (f d) ≡ keyed (change_at (is_numbered n) f es)
  written_keyed n [] d is = refl
  written_keyed n (e ∷ es) d is = rw (test_is n e.number) (by (eqb e.number n) (written_keyed n es d) is) where
    by : (b : Bool)
        → (find (is_numbered n) es ≡ Some d → set_value (is_at (nat_cmp n)) (keyed es) (f d) ≡ keyed (change_at (is_numbered n) f es))
        → cond b (Some e) (find (is_numbered n) es) ≡ Some d
        → cond b ((e.number, f d) ∷ keyed es) ((e.number, e) ∷ set_value (is_at (nat_cmp n)) (keyed es) (f d))
        ≡ keyed (cond b (f e ∷ es) (e ∷ change_at (is_numbered n) f es))
    by true others here =
        let one : d ≡ e = cc in
        rw (one, same e) refl
    by false others there = ap (λ (l : List (ℕ × Entry T)). (e.number, e) ∷ l) (others there)

  -- numbers below one stay so
  pub below_changed : (p : Entry T → Bool) (n : ℕ) (es : List (Entry T)) → All (λ e. e.number < n) es
      → All (λ e. e.number < n) (change_at p f es)
  below_changed p n [] below = below
  below_changed p n (e ∷ es) below =
      let rest : All (λ e. e.number < n) es = λ k d lt. below (suc k) d (grind (arith, lt)) in
      by (p e) (below 0 e (grind arith)) rest (below_changed p n es rest) where
        P : Entry T → Type 0
        P = λ e. e.number < n

        by : (b : Bool) → P e → All P es → All P (change_at p f es) → All P (cond b (f e ∷ es) (e ∷ change_at p f es))
        by true first rest others = All-cons P (f e) es (rw (same e) first) rest
        by false first rest others = All-cons P e (change_at p f es) first others

-- numbers below one stay so where an entry is taken out
pub below_taken : {T : Type 0} (p : Entry T → Bool) (n : ℕ) (es : List (Entry T)) → All (λ e. e.number < n) es
    → All (λ e. e.number < n) (take_out p es)
below_taken p n [] below = below
below_taken {T} p n (e ∷ es) below =
    let rest : All (λ e. e.number < n) es = λ k d lt. below (suc k) d (grind (arith, lt)) in
    by (p e) (below 0 e (grind arith)) rest (below_taken p n es rest) where
      P : Entry T → Type 0
      P = λ e. e.number < n

      by : (b : Bool) → P e → All P es → All P (take_out p es) → All P (cond b es (e ∷ take_out p es))
      by true first rest others = rest
      by false first rest others = All-cons P e (take_out p es) first others

-- an entry that was looked up by its number is changed
module _ {T : Type 0} (f : Entry T → Entry T) (same : (e : Entry T) → (f e).number ≡ e.number) (n : ℕ)
    (ps qs : List (ℕ × Entry T)) (is : ps ≡ keyed (values_of ps)) where
  pub changed : (d : Entry T) → Some d ≡ lookup (is_at (nat_cmp n)) ps → qs ≡ set_value (is_at (nat_cmp n)) ps (f d)
      → qs ≡ keyed (change_at (is_numbered n) f (values_of ps))
  changed d there new =
      new ∙ ap (λ (l : List (ℕ × Entry T)). set_value (is_at (nat_cmp n)) l (f d)) is
      ∙ written_keyed f same n (values_of ps) d (looked n ps (Some d) is there)

  pub unchanged : None ≡ lookup (is_at (nat_cmp n)) ps → qs ≡ ps
      → qs ≡ keyed (change_at (is_numbered n) f (values_of ps))
  unchanged absent new =
      new ∙ is ∙ ap keyed (sym (stays (is_numbered n) f (values_of ps) (looked n ps None is absent)))

-- the last share of an entry is given back
pub taken : {T : Type 0} (n : ℕ) (ps qs : List (ℕ × Entry T)) → ps ≡ keyed (values_of ps)
    → is_last (find (is_numbered n) (values_of ps)) ≡ true → qs ≡ remove_entry (is_at (nat_cmp n)) ps
    → qs ≡ keyed (released n (values_of ps))
taken n ps qs is last new =
    rw last (new ∙ ap (remove_entry (is_at (nat_cmp n))) is ∙ removed_keyed n (values_of ps))

-- a share that isn't the last is given back
pub lessened : {T : Type 0} (n : ℕ) (ps qs : List (ℕ × Entry T)) → is_last (find (is_numbered n) (values_of ps)) ≡ false
    → qs ≡ keyed (change_at (is_numbered n) one_fewer (values_of ps)) → qs ≡ keyed (released n (values_of ps))
lessened n ps qs more new = rw more new

-- of an entry of which the last share isn't given back, two are out
pub twice : {T : Type 0} (o : Option (Entry T)) (d : Entry T) → o ≡ Some d → is_last o ≡ false → 2 ≤ d.count
twice {T} o d is more =
    let few : nat_lt d.count 2 ≡ false = subst (λ (p : Option (Entry T)). is_last p ≡ false) is more in
    grind (arith, nat_tests, few)

-- numbers below one stay so where a share is given back
pub below_released : {T : Type 0} (number n : ℕ) (es : List (Entry T)) → All (λ e. e.number < n) es
    → All (λ e. e.number < n) (released number es)
below_released {T} number n es below = by (is_last (find (is_numbered number) es)) where
  by : (b : Bool) → All (λ e. e.number < n) (cond b (take_out (is_numbered number) es) (change_at (is_numbered number) one_fewer es))
  by true = below_taken (is_numbered number) n es below
  by false = below_changed one_fewer (λ e. refl) (is_numbered number) n es below

above : (n k : ℕ) → k < n → nat_cmp n k ≡ Greater
above n k lt = grind (arith, nat_tests, lt)

-- an entry whose number is above all others
pub put_keyed : {T : Type 0} (e : Entry T) (es : List (Entry T)) → All (λ x. x.number < e.number) es
    → insert_entry nat_cmp (keyed es) e.number e ≡ keyed (es ++ e ∷ [])
put_keyed e [] below = refl
put_keyed {T} e (x ∷ es) below =
    rw (above e.number x.number (below 0 x (grind arith)))
    (ap (λ (l : List (ℕ × Entry T)). (x.number, x) ∷ l) (put_keyed e es (λ k d lt. below (suc k) d (grind (arith, lt)))))

-- one more share of each entry, where each can be counted
each_counted : {T : Type 0} (es : List (Entry T)) → list_any is_full es ≡ false
    → map (λ p. (p.0, counted p.1)) (keyed es) ≡ keyed (map one_more es)
each_counted [] none = refl
each_counted {T} (e ∷ es) none =
    let h = or_parts (is_full e) (list_any is_full es) none in
    rw h.0 (ap (λ (l : List (ℕ × Entry T)). (e.number, one_more e) ∷ l) (each_counted es h.1))

-- the same of what a map keeps
pub all_counted : {T : Type 0} (ps qs : List (ℕ × Entry T)) → ps ≡ keyed (values_of ps) → list_any is_full (values_of ps) ≡ false
    → qs ≡ map (λ p. (p.0, counted p.1)) ps → qs ≡ keyed (map one_more (values_of ps))
all_counted {T} ps qs is none new =
    new ∙ ap (λ (l : List (ℕ × Entry T)). map (λ p. (p.0, counted p.1)) l) is ∙ each_counted (values_of ps) none

-- entries of which each was visited and retained
module _ {F T : Type 0} (R : T → T → Type 0) (S : F → ℕ → Entry T → Bool → Entry T → F → Type 0)
    (each : (f : F) (k : ℕ) (v : Entry T) (b : Bool) (w : Entry T) (g : F) → S f k v b w g → (b ≡ true) × IsVisited R v w) where
  all_visited : (f : F) (es : List (Entry T)) (kept : List (ℕ × Entry T)) → RetainsPairs S f (keyed es) kept
      → (kept ≡ keyed (values_of kept)) × AllZip (IsVisited R) es (values_of kept)
  all_visited f [] kept none = rw none (refl, tt)
  all_visited f (e ∷ es) kept (b, w, g, rest, call, others, is) =
      let one = each f e.number e b w g call in
      let more = all_visited g es rest others in
      let there : kept ≡ (e.number, w) ∷ rest = rw (is, one.0) refl in
      rw there (ap (λ (k : ℕ). (k, w) ∷ rest) (sym one.1.same_number) ∙ ap (λ (l : List (ℕ × Entry T)). (w.number, w) ∷ l) more.0, (one.1, more.1))

  -- the same of what a map keeps
  pub visited_each : (f : F) (ps kept : List (ℕ × Entry T)) → RetainsPairs S f ps kept → ps ≡ keyed (values_of ps)
      → (kept ≡ keyed (values_of kept)) × AllZip (IsVisited R) (values_of ps) (values_of kept)
  visited_each f ps kept all is =
      all_visited f (values_of ps) kept (subst (λ (l : List (ℕ × Entry T)). RetainsPairs S f l kept) is all)

-- visits keep what holds of the numbers
pub numbers_stay : {T : Type 0} (R : T → T → Type 0) (next : ℕ) (es fs : List (Entry T)) → All (λ e. e.number < next) es → AllZip (IsVisited R) es fs → All (λ e. e.number < next) fs
numbers_stay R next es fs below so k d lt =
    let both = AllZip-get_or (IsVisited R) es fs k d d so (rw (length_all_zip (IsVisited R) es fs so) lt) in
    rw both.same_number (below k d (rw (length_all_zip (IsVisited R) es fs so) lt))
