-- Shares that are taken and given back, one after the other.
use Rattle.std.proofs.Common.{◌≡◌, ℕ, Bool, true, false, cond, List, [], ◌∷◌, ◌++◌, Option, Some, None, Result, Ok, Err, refl, ap, sym, subst, ◌∙◌, arith, find, map}
use Rattle.std.specs.Prelude.{option_and_then}
use Rattle.std.specs.Option.{IsSomeAnd}
use Rattle.std.specs.Result.{result_err}
use Rattle.tv_base.specs.declared.error.TantivyError.{TantivyError}
use Rattle.tv_base.specs.declared.error.TantivyError.TheVariants as errors
use Rattle.tv_base.specs.declared.inventory.Entry.{Entry}
use Rattle.tv_base.specs.Entries.{IsFull, is_full, is_numbered, one_more, released}
use Rattle.tv_base.specs.Places.{change_at}
use Rattle.tv_metas.specs.Tracked.{KeptMetas, Share}
use Rattle.tv_registers.specs.Registers.{Register, entries_in, metas_in, ticket_of, tickets_in}
use Rattle.tv_registers.specs.Sharing.{ShareCause, SharesEach, Undoes, is_spent, shared, taken_back}

-- first some, and then others
pub shared_append : (xs ys : List ℕ) (kept : KeptMetas) → shared (xs ++ ys) kept ≡ option_and_then (shared ys) (shared xs kept)
shared_append [] ys kept = refl
shared_append (x ∷ xs) ys kept =
    elim (is_spent (find (is_numbered x) kept)) as (λ b. cond b None (shared (xs ++ ys) (change_at (is_numbered x) one_more kept)) ≡ option_and_then (shared ys) (cond b None (shared xs (change_at (is_numbered x) one_more kept)))) [
      | true ↦ refl
      | false ↦ shared_append xs ys (change_at (is_numbered x) one_more kept)
    ]

-- the first one was taken
pub shared_next : (x : ℕ) (ys : List ℕ) (kept mid : KeptMetas) → shared (x ∷ []) kept ≡ Some mid → shared (x ∷ ys) kept ≡ shared ys mid
shared_next x ys kept mid is = shared_append (x ∷ []) ys kept ∙ ap (option_and_then (shared ys)) is

-- the first one can't be taken
pub shared_none : (x : ℕ) (ys : List ℕ) (kept : KeptMetas) → shared (x ∷ []) kept ≡ None → shared (x ∷ ys) kept ≡ None
shared_none x ys kept is = shared_append (x ∷ []) ys kept ∙ ap (option_and_then (shared ys)) is

-- the last one is given back first
pub taken_last : (xs : List ℕ) (x : ℕ) (kept : KeptMetas) → taken_back (xs ++ x ∷ []) kept ≡ taken_back xs (released x kept)
taken_last [] x kept = refl
taken_last (y ∷ xs) x kept = ap (released y) (taken_last xs x kept)

pub taken_append : (xs ys : List ℕ) (kept : KeptMetas) → taken_back (xs ++ ys) kept ≡ taken_back xs (taken_back ys kept)
taken_append [] ys kept = refl
taken_append (x ∷ xs) ys kept = ap (released x) (taken_append xs ys kept)

-- ---- what one share says

not_spent : {T : Type 0} (o : Option (Entry T)) → (IsSomeAnd o IsFull → ⊥) → is_spent o ≡ false
not_spent None few = refl
not_spent (Some e) few = by (is_full e) refl
  where
    by : (b : Bool) → is_full e ≡ b → b ≡ false
    by true full = absurd (few (grind (arith, full)))
    by false full = refl

-- a further share that was taken
pub one_shared : (number : ℕ) (old new : KeptMetas) → (IsSomeAnd (find (is_numbered number) old) IsFull → ⊥) → new ≡ change_at (is_numbered number) one_more old
    → shared (number ∷ []) old ≡ Some new
one_shared number old new few is = rw (not_spent (find (is_numbered number) old) few) (ap Some (sym is))

-- ---- the same said of another answer

module _ {A B : Type 0} (numbers : List ℕ) (old new : KeptMetas) where
  pub told_on : (r : Result A TantivyError) (s : Result B TantivyError) → result_err r ≡ result_err s → SharesEach numbers old new r → SharesEach numbers old new s
  told_on (Ok a) (Ok b) same h = record { ok = h.ok; undone = h.undone; err = tt; cause = tt }
  told_on (Ok a) (Err f) same h = absurd cc
  told_on (Err e) (Ok b) same h = absurd cc
  told_on (Err e) (Err f) same h =
      let one : e ≡ f = cc in
      record { ok = tt; undone = tt; err = h.err; cause = subst (ShareCause numbers old) one h.cause }

-- ---- two lists of shares

-- where the first ones aren't taken
pub cause_first : (xs ys : List ℕ) (kept : KeptMetas) (e : TantivyError) → ShareCause xs kept e → ShareCause (xs ++ ys) kept e
cause_first xs ys kept errors.Exhausted h = shared_append xs ys kept ∙ ap (option_and_then (shared ys)) h
cause_first xs ys kept errors.Memory h = tt
cause_first xs ys kept other h = absurd h

-- where the first ones are taken, and the others aren't
pub cause_then : (xs ys : List ℕ) (kept mid : KeptMetas) (e : TantivyError) → shared xs kept ≡ Some mid → ShareCause ys mid e → ShareCause (xs ++ ys) kept e
cause_then xs ys kept mid errors.Exhausted first h = shared_append xs ys kept ∙ ap (option_and_then (shared ys)) first ∙ h
cause_then xs ys kept mid errors.Memory first h = tt
cause_then xs ys kept mid other first h = absurd h

-- where both are
pub both_shared : (xs ys : List ℕ) (kept mid new : KeptMetas) → shared xs kept ≡ Some mid → shared ys mid ≡ Some new → shared (xs ++ ys) kept ≡ Some new
both_shared xs ys kept mid new first second = shared_append xs ys kept ∙ ap (option_and_then (shared ys)) first ∙ second

pub both_undone : (xs ys : List ℕ) (kept mid new : KeptMetas) → Undoes xs kept mid → Undoes ys mid new → Undoes (xs ++ ys) kept new
both_undone xs ys kept mid new first second = taken_append xs ys new ∙ ap (taken_back xs) second ∙ first

-- the numbers of shares, and of segments
pub tickets_of_metas : (register : Register) → map (λ (m : Share). m.0) (metas_in register) ≡ tickets_in register
tickets_of_metas [] = refl
tickets_of_metas (e ∷ register) = ap (λ (ns : List ℕ). ticket_of e.1 ∷ ns) (tickets_of_metas register)

pub tickets_of_entries : (register : Register) → map ticket_of (entries_in register) ≡ tickets_in register
tickets_of_entries [] = refl
tickets_of_entries (e ∷ register) = ap (λ (ns : List ℕ). ticket_of e.1 ∷ ns) (tickets_of_entries register)

pub tickets_of_both : (one other : Register) → map ticket_of (entries_in one ++ entries_in other) ≡ tickets_in one ++ tickets_in other
tickets_of_both [] other = tickets_of_entries other
tickets_of_both (e ∷ one) other = ap (λ (ns : List ℕ). ticket_of e.1 ∷ ns) (tickets_of_both one other)
