-- How a run of calls goes on, as far as it is seen by what a crash may leave.
use Rattle.std.specs.Prelude.{◌≤◌, ◌<◌}
use Rattle.std.proofs.Common.{◌≡◌, ◌≢◌, ℕ, List, refl, ◌∙◌, ⊎_elim, subst, arith}
use Rattle.std.proofs.lemmas.Bool.{cases_lt}
use Rattle.tv_formats.specs.Disk.{DiskState, Possible, Disk, possible_now, Within, SamePossible, MayAdd, Elapses, Throughout, OnlyTouches, OnlyMoves, TouchesOnly}
use Rattle.tv_formats.specs.Listed.{IsAlwaysListed, ListsEachFile}

-- the same states are possible
pub same : (possible : Possible) → SamePossible possible possible
same possible = record { no_more = record { each = λ n s is. is }; no_fewer = record { each = λ n s is. is } }

-- it holds of fewer possible states too
abbrev pub HoldsOfFewer : (Possible → Type 0) → Type 1
HoldsOfFewer P = (old new : Possible) → Within old new → P old → P new

-- one after the other
pub same_then : {old mid new : Possible} → SamePossible old mid → SamePossible mid new → SamePossible old new
same_then first second = record {
  no_more = record { each = λ n s is. first.no_more.each n s (second.no_more.each n s is) };
  no_fewer = record { each = λ n s is. second.no_fewer.each n s (first.no_fewer.each n s is) };
}

module _ (P : Possible → Type 0) (fewer : HoldsOfFewer P) where
  -- before the first call
  pub started : (old : Disk) → P (possible_now old) → Throughout P old old
  started old here = record {
    later = omega arith;
    past = λ x le. same (old.possible x);
    each = λ x from to. subst (λ y. P (old.possible y)) (omega arith) here;
  }

  -- one call more, after which it holds
  pub goes_on : {old mid new : Disk} → Throughout P old mid → Elapses mid new → P (possible_now new) → Throughout P old new
  goes_on {old} {mid} {new} so_far time here = record {
    later = omega (arith, so_far.later, time.later);
    past = λ x le. same_then (so_far.past x le) (time.past x (omega (arith, le, so_far.later)));
    each = λ x from to. ⊎_elim
        (λ (after : mid.moment < x). ⊎_elim
        (λ (before : SamePossible (possible_now mid) (new.possible x)). fewer (possible_now mid) (new.possible x) before.no_more (so_far.each mid.moment so_far.later (omega arith)))
        (λ (behind : SamePossible (possible_now new) (new.possible x)). fewer (possible_now new) (new.possible x) behind.no_more here)
        (time.inside x after to))
        (λ (upto : x ≤ mid.moment). fewer (mid.possible x) (new.possible x) (time.past x upto).no_more (so_far.each x from upto))
        (cases_lt mid.moment x);
  }

  -- a run of calls more
  pub goes_on_run : {old mid new : Disk} → Throughout P old mid → Throughout P mid new → Throughout P old new
  goes_on_run {old} {mid} {new} first second = record {
    later = omega (arith, first.later, second.later);
    past = λ x le. same_then (first.past x le) (second.past x (omega (arith, le, first.later)));
    each = λ x from to. ⊎_elim
        (λ (after : mid.moment < x). second.each x (omega (arith, after)) to)
        (λ (upto : x ≤ mid.moment). fewer (mid.possible x) (new.possible x) (second.past x upto).no_more (first.each x from upto))
        (cases_lt mid.moment x);
  }

-- no state is possible besides those that were
pub fewer_within : (possible : Possible) → HoldsOfFewer (Within possible)
fewer_within possible old new within was = record { each = λ n s is. was.each n s (within.each n s is) }

pub within_step : {old new : Disk} → Elapses old new → Within (possible_now old) (possible_now new) → Throughout (Within (possible_now old)) old new
within_step {old} time within = goes_on _ (fewer_within (possible_now old)) (started _ (fewer_within (possible_now old)) old (record { each = λ n s is. is })) time within

-- what is always listed stays so
always_listed : (old new : Possible) (name : List ℕ) → Within old new → IsAlwaysListed old name → IsAlwaysListed new name
always_listed old new name within was = (was.0, was.1, λ l is. was.2 l (within.each was.0 l is))

-- a list forgets no more files
pub fewer_listed : HoldsOfFewer ListsEachFile
fewer_listed old new within was = record {
  lists = λ file of_list l is. was.lists file of_list l (within.each file l is);
  each = λ n undotted s is there. always_listed old new n within (was.each n undotted s (within.each n s is) there);
}

-- what holds at each moment, and what follows from it
pub weaker : {P Q : Possible → Type 0} {old new : Disk} → Throughout P old new → ((possible : Possible) → P possible → Q possible) → Throughout Q old new
weaker run then = record { later = run.later; past = run.past; each = λ x from to. then _ (run.each x from to) }

-- the last moment is one of them
pub at_end : {P : Possible → Type 0} {old new : Disk} → Throughout P old new → P (possible_now new)
at_end {new = new} run = run.each new.moment run.later (omega arith)

-- ---- names that aren't touched

fewer_touched : (possible : Possible) (touched : List ℕ → Type 0) → HoldsOfFewer (OnlyTouches touched possible)
fewer_touched possible touched old new within was = record { each = λ n other s is. was.each n other s (within.each n s is) }

-- nothing is touched yet
pub touches_same : (disk : Disk) (touched : List ℕ → Type 0) → TouchesOnly touched disk disk
touches_same disk touched = record { moments = started _ (fewer_touched _ touched) disk (record { each = λ n other s is. is }); now = record { each = λ n other. refl } }

touches_step : {old new : Disk} {touched : List ℕ → Type 0} → Elapses old new → OnlyTouches touched (possible_now old) (possible_now new) → OnlyMoves touched old new → TouchesOnly touched old new
touches_step {old} {touched = touched} time states now = record { moments = goes_on _ (fewer_touched (possible_now old) touched) (touches_same old touched).moments time states; now = now }

-- one call gives a name one state more
pub touches_file : {old new : Disk} {name : List ℕ} {state : DiskState} → Elapses old new → MayAdd (possible_now old) (possible_now new) name state → ((n : List ℕ) → n ≢ name → new.now n ≡ old.now n) → TouchesOnly (λ n. n ≡ name) old new
touches_file time adds others =
    touches_step time (record { each = λ n other s is. ⊎_elim (λ before. before) (λ p. absurd (other p.0)) (adds.each n s is) }) (record { each = others })

-- one call after which no state is possible besides, and each name stands as it stood
pub touches_none : {old new : Disk} (touched : List ℕ → Type 0) → Elapses old new → Within (possible_now old) (possible_now new) → ((n : List ℕ) → new.now n ≡ old.now n) → TouchesOnly touched old new
touches_none touched time within stands = touches_step time (record { each = λ n other s is. within.each n s is }) (record { each = λ n other. stands n })

-- one run, and another
pub touches_then : {old mid new : Disk} {touched : List ℕ → Type 0} → TouchesOnly touched old mid → TouchesOnly touched mid new → TouchesOnly touched old new
touches_then {old} {mid} {new} {touched} first second = record {
  moments = goes_on_run _ (fewer_touched (possible_now old) touched) first.moments
      (weaker second.moments (λ p states. record { each = λ n other s is. (at_end first.moments).each n other s (states.each n other s is) }));
  now = record { each = λ n other. second.now.each n other ∙ first.now.each n other };
}

-- more names may be touched
pub touches_more : {old new : Disk} {touched more : List ℕ → Type 0} → ((n : List ℕ) → touched n → more n) → TouchesOnly touched old new → TouchesOnly more old new
touches_more among touches = record {
  moments = weaker touches.moments (λ p states. record { each = λ n other. states.each n (λ it. other (among n it)) });
  now = record { each = λ n other. touches.now.each n (λ it. other (among n it)) };
}
