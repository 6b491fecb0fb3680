-- A collection takes what nothing needs, and what failed stays.
use Rattle.std.proofs.Common.{◌≡◌, ℕ, ◌≤◌, Bool, true, false, true≢false, not, ◌&&◌, ◌||◌, cond, List, [], ◌∷◌, ◌++◌, length, Option, None, refl, sym, ap, ◌∙◌, arith}
use Rattle.std.specs.List.Sorted.{IsStrictlySortedBy}
use Rattle.std.proofs.lemmas.Bool.{false_from_ne_true, or_right}
use Rattle.std.proofs.lemmas.List.Kept.{IsStrictlySortedBy-filter}
use Rattle.tv_formats.specs.Names.{byte_cmp, is, has}
use Rattle.tv_formats.specs.Collections.{AreOnce, done_of, failed_of, held}
use Rattle.tv_machine.specs.Living.{is_busy, living}
use Rattle.tv_machine.specs.State.{State, StepResult, FileState, file_at}
use Rattle.tv_machine.specs.CollectionEvents.{collected, garbage, gc_step}
use Rattle.tv_machine.specs.Machine.{Turn, after, refused_in}
use Rattle.tv_machine.specs.Collecting.{Takes, Collects, CollectsIn}
use Rattle.tv_formats.proofs.Entries.{is_text}
use Rattle.tv_machine.proofs.ManagedStates.{sorted_after}
use Rattle.tv_formats.proofs.CollectedNames.{at_without, has_without, done_within}
use Rattle.tv_machine.proofs.CollectionStates.{garbage_is, gc_free}
use Rattle.tv_formats.proofs.HeldNames.{once_sorted}

-- what is managed, and neither living nor held
neither : (living held managed : Bool) → (not (living || held) && managed) ≡ (managed && not living && not held)
neither living held managed = grind arith

pub takes : (s : State) → Takes s (garbage s)
takes s n = garbage_is s n ∙ neither (has (living s.catalog) n) (has (held s.collections) n) (has s.managed n)

managed_of : (living held managed : Bool) → (managed && not living && not held) ≡ true → managed ≡ true
managed_of living held managed e = grind (arith, e)

-- each name is done or failed
told : (names : List (List ℕ)) (outcomes : List Bool) (n : List ℕ) → has names n ≡ (has (done_of names outcomes) n || has (failed_of names outcomes) n)
told [] outcomes n = refl
told (name ∷ names) [] n = grind arith
told (name ∷ names) (true ∷ outcomes) n = grind (arith, told names outcomes n)
told (name ∷ names) (false ∷ outcomes) n = grind (arith, told names outcomes n)

pub failed_within : (names : List (List ℕ)) (outcomes : List Bool) (n : List ℕ) → has (failed_of names outcomes) n ≡ true → has names n ≡ true
failed_within names outcomes n h = told names outcomes n ∙ or_right (has (done_of names outcomes) n) _ h

-- and not both, where names stand once
one_way : (names : List (List ℕ)) (outcomes : List Bool) (n : List ℕ) → AreOnce names → has (done_of names outcomes) n ≡ true → has (failed_of names outcomes) n ≡ false
one_way [] outcomes n once h = refl
one_way (name ∷ names) [] n once h = refl
one_way (name ∷ names) (true ∷ outcomes) n once h =
    elim (is name n) as (λ b. is name n ≡ b → (b || has (done_of names outcomes) n) ≡ true → has (failed_of names outcomes) n ≡ false) [
      | true ↦ λ e k.
          let absent : has names n ≡ false = rw (sym (is_text name n e)) once.0 in
          false_from_ne_true _ (λ f. true≢false (sym (failed_within names outcomes n f) ∙ absent))
      | false ↦ λ e k. one_way names outcomes n once.1 k
    ] refl h
one_way (name ∷ names) (false ∷ outcomes) n once h =
    elim (is name n) as (λ b. is name n ≡ b → (b || has (failed_of names outcomes) n) ≡ false) [
      | true ↦ λ e.
          let absent : has names n ≡ false = rw (sym (is_text name n e)) once.0 in
          absurd (true≢false (sym (done_within names outcomes n h) ∙ absent))
      | false ↦ λ e. one_way names outcomes n once.1 h
    ] refl

few_failed : (names : List (List ℕ)) (outcomes : List Bool) → length (failed_of names outcomes) ≤ refused_in outcomes
few_failed [] outcomes = omega arith
few_failed (name ∷ names) [] = omega arith
few_failed (name ∷ names) (true ∷ outcomes) = few_failed names outcomes
few_failed (name ∷ names) (false ∷ outcomes) = omega (arith, few_failed names outcomes)

gone_file : (gone : Bool) (file : Option FileState) → cond (not gone) file None ≡ cond gone None file
gone_file true file = refl
gone_file false file = refl

-- what a collection takes, tells and leaves
pub collects : (s : State) (outcomes : List Bool) → IsStrictlySortedBy byte_cmp s.managed → is_busy s.catalog ≡ false → Collects s outcomes
collects s outcomes sorted free = record {
  takes = takes s;
  each = told (garbage s) outcomes;
  apart = λ n h. one_way (garbage s) outcomes n once h;
  told = ap (λ (r : StepResult State). r.0) now;
  files = λ n. ap (λ (r : StepResult State). file_at r.1 n) now ∙ at_without (done_of (garbage s) outcomes) s.files n ∙ gone_file (has (done_of (garbage s) outcomes) n) (file_at s n);
  gone = λ n h. managed_then n ∙ (rw h refl);
  stay = λ n h.
      let managed : has s.managed n ≡ true = managed_of (has (living s.catalog) n) (has (held s.collections) n) (has s.managed n) (sym (takes s n) ∙ failed_within (garbage s) outcomes n h) in
      let spared : has (done_of (garbage s) outcomes) n ≡ false = false_from_ne_true _ (λ d. true≢false (sym h ∙ one_way (garbage s) outcomes n once d)) in
      managed_then n ∙ (rw spared managed);
  spared = λ n undone. managed_then n ∙ (rw undone refl);
  catalog = ap (λ (r : StepResult State). r.1.catalog) now;
  collections = ap (λ (r : StepResult State). r.1.collections) now;
  counted = few_failed (garbage s) outcomes;
}
  where
    now : gc_step s outcomes ≡ collected s outcomes
    now = gc_free s outcomes free

    managed_then : (n : List ℕ) → has (gc_step s outcomes).1.managed n ≡ (not (has (done_of (garbage s) outcomes) n) && has s.managed n)
    managed_then n = ap (λ (r : StepResult State). has r.1.managed n) now ∙ has_without (done_of (garbage s) outcomes) s.managed n

    once : AreOnce (garbage s)
    once = once_sorted (garbage s) (IsStrictlySortedBy-filter byte_cmp (λ name. not (has (living s.catalog ++ held s.collections) name)) s.managed sorted)

-- and so does each collection of a run
pub collects_in : (s : State) (turns : List Turn) → IsStrictlySortedBy byte_cmp s.managed → CollectsIn s turns
collects_in s turns sorted front rest outcomes e free = collects (after s front) outcomes (sorted_after s front sorted) free
