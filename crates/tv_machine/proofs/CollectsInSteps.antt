-- Collections in steps, and what a collection leaves of an index that was opened again.
use Rattle.std.proofs.Common.{◌≡◌, ◌≢◌, ℕ, ◌+◌, ◌==◌, ◌≤◌, ◌<◌, Bool, true, false, true≢false, not, ◌&&◌, ◌||◌, cond, List, [], ◌∷◌, ◌++◌, codes, Option, Some, None, refl, sym, ap, subst, ◌∙◌, arith, append_assoc, append-nil}
use Rattle.std.specs.Prelude.{IsSome, is_some}
use Rattle.std.specs.Ordering.{nat_cmp}
use Rattle.std.specs.List.{AllByRecursion}
use Rattle.std.specs.BTreeMap.{is_at}
use Rattle.std.proofs.lemmas.Bool.{false_from_ne_true}
use Rattle.std.proofs.lemmas.Bool.Decides.{nat_tests}
use Rattle.tv_events.specs.declared.event.Event.{Event}
use Rattle.tv_events.specs.declared.event.Event.TheVariants as events
use Rattle.tv_formats.specs.Names.{is, has}
use Rattle.tv_formats.specs.Collections.{Collection, AreOnce, begun, collection_at, done_of, having_tried, held, taken, without}
use Rattle.tv_machine.specs.Living.{is_busy, living}
use Rattle.tv_machine.specs.Lines.{given}
use Rattle.tv_machine.specs.State.{State, StepResult, FileState, file_at}
use Rattle.tv_machine.specs.CollectionEvents.{collection_begun, garbage, gc_end_step, gc_step_step, having_deleted, ended, is_done, tried_first}
use Rattle.tv_machine.specs.Machine.{Turn, NeverReopens, isnt_reopening, step, after, events_of, refused_in}
use Rattle.tv_events.specs.Script.{Fits}
use Rattle.tv_machine.specs.Collecting.{LeavesOthers, Begins, Tries, Ends, NeverEnds, isnt_ending, isnt_of, IsAtOnce, in_steps, CollectsInSteps, CollectsInStepsIn, CollectsAllElse}
use Rattle.tv_machine.specs.SoundStates.{CollectsSoundly, IsSoundState}
use Rattle.tv_machine.proofs.Changes.{OfEachChange, after_between, step_changes}
use Rattle.tv_formats.proofs.CollectedNames.{at_without, has_without}
use Rattle.tv_machine.proofs.CollectionStates.{garbage_is, gc_free, gc_begin_free}
use Rattle.tv_machine.proofs.Collects.{takes}
use Rattle.tv_formats.proofs.HeldNames.{times, times_append, some_times, no_times, has_times, once_times, times_once, taken_held, taken_times, tried_times}
use Rattle.tv_machine.proofs.HeldStates.{given_at}
use Rattle.tv_formats.proofs.Numbered.{found, gone_all, gone_none, gone_other, only, put_all, put_found, put_other, put_stays}
use Rattle.tv_machine.proofs.Serving.{front_fits, sound_after}

-- ---- what a collection keeps

-- names that stand equally often are the same
same_has : (xs ys : List (List ℕ)) (n : List ℕ) → times xs n ≡ times ys n → has xs n ≡ has ys n
same_has xs ys n e = either (has ys n) refl where
  either : (b : Bool) → has ys n ≡ b → has xs n ≡ has ys n
  either true there = has_times xs n (omega (arith, e, some_times ys n there)) ∙ sym there
  either false absent = false_from_ne_true (has xs n) (λ there. absurd (omega (arith, e, some_times xs n there, no_times ys n absent))) ∙ sym absent

-- a collection of this number has these names
abbrev HasNames : ℕ → Collection → ℕ × Collection → Type 0
HasNames number first e = e.0 ≡ number → (n : List ℕ) → times (taken e.1) n ≡ times (taken first) n

-- its number was given, and it has its names as long as it is there
record Keeps (s : State) (number : ℕ) (first : Collection) : Type 0 where
  given : number < s.collections.next
  each : AllByRecursion (HasNames number first) s.collections.unfinished

keeps_changes : (s : State) (event : Event) (number : ℕ) (first : Collection) → isnt_reopening event ≡ true → Keeps s number first → OfEachChange (λ t. Keeps t number first) s event
keeps_changes s event number first never h = record {
  same = h;
  lives = λ id segment move. record { given = h.given; each = h.each };
  reads = λ now move. record { given = h.given; each = h.each };
  opens = λ id segment component e there absent. record { given = h.given; each = h.each };
  puts = λ name body file e good. record { given = h.given; each = h.each };
  commits = λ payload ids last e. record { given = h.given; each = h.each };
  collects = λ outcomes free. record { given = h.given; each = h.each };
  releases = λ id segment. record { given = h.given; each = h.each };
  deletes = λ id n segment may. record { given = h.given; each = h.each };
  begins = λ free. record {
    given = omega (arith, h.given);
    each = put_all (HasNames number first) s.collections.unfinished s.collections.next (begun (garbage s)) h.each (λ same. absurd (omega (arith, same, h.given)));
  };
  tries = λ k c name left is_done step there e. record {
    given = h.given;
    each = put_all (HasNames number first) s.collections.unfinished k (having_tried c name left is_done) h.each
        (λ same n. tried_times c name left is_done n e ∙ found (HasNames number first) s.collections.unfinished k c h.each there same n);
  };
  finishes = λ k c e there. record { given = h.given; each = gone_all (HasNames number first) (is_at (nat_cmp k)) s.collections.unfinished h.each };
  reopens = λ e. absurd (true≢false (sym never ∙ ap isnt_reopening e));
}

-- what each event but a reopening keeps holds after a run without one
until_reopened : (P : State → Type 0) → ((t : State) (event : Event) → isnt_reopening event ≡ true → P t → OfEachChange P t event) → (s : State) (turns : List Turn) → NeverReopens turns → P s → P (after s turns)
until_reopened P changes s turns never h = after_between isnt_reopening P (λ t event outcomes once k. step_changes P t event outcomes (changes t event once k)) s turns never h

same_names : (first : Collection) (es : List (ℕ × Collection)) (number : ℕ) → AllByRecursion (λ e. e.0 ≡ number → e.1 ≡ first) es → AllByRecursion (HasNames number first) es
same_names first [] number h = tt
same_names first (e ∷ es) number h = (λ same n. ap (λ (c : Collection). times (taken c) n) (h.0 same), same_names first es number h.1)

keeps : (s : State) (turns : List Turn) (number : ℕ) (first later : Collection) → CollectsSoundly s → NeverReopens turns → collection_at s.collections number ≡ Some first
    → collection_at (after s turns).collections number ≡ Some later → (n : List ℕ) → has (taken later) n ≡ has (taken first) n
keeps s turns number first later h never there then n =
    let start : Keeps s number first = record { given = given_at s h number first there; each = same_names first s.collections.unfinished number (only s.collections.unfinished number first h.ordered there) } in
    let end = until_reopened (λ t. Keeps t number first) (λ t event once k. keeps_changes t event number first once k) s turns never start in
    same_has (taken later) (taken first) n (found (HasNames number first) (after s turns).collections.unfinished number later end.each then refl n)

-- ---- how long a collection is unfinished

-- a collection of this number is unfinished
abbrev IsUnfinished : State → ℕ → Type 0
IsUnfinished s number = IsSome (collection_at s.collections number)

different : (k number : ℕ) → not (k == number) ≡ true → number ≢ k
different k number e = grind (arith, nat_tests)

-- it isn't this one that the event finishes
ends_other : (event : Event) (number k : ℕ) → isnt_ending number event ≡ true → event ≡ events.GcEnd k → number ≢ k
ends_other event number k never e = different k number (sym (ap (isnt_ending number) e) ∙ never)

stays_changes : (s : State) (event : Event) (number : ℕ) → isnt_ending number event ≡ true → IsUnfinished s number → OfEachChange (λ t. IsUnfinished t number) s event
stays_changes s event number never h = record {
  same = h;
  lives = λ id segment move. h;
  reads = λ now move. h;
  opens = λ id segment component e there absent. h;
  puts = λ name body file e good. h;
  commits = λ payload ids last e. h;
  collects = λ outcomes free. h;
  releases = λ id segment. h;
  deletes = λ id n segment may. h;
  begins = λ free. put_stays s.collections.unfinished s.collections.next number (begun (garbage s)) h;
  tries = λ k c name left is_done step there e. put_stays s.collections.unfinished k number (having_tried c name left is_done) h;
  finishes = λ k c e there. ap is_some (gone_other s.collections.unfinished k number (ends_other event number k never e)) ∙ h;
  reopens = λ e. absurd (true≢false (sym never ∙ ap (isnt_ending number) e));
}

stays : (s : State) (turns : List Turn) (number : ℕ) → NeverEnds number turns → IsUnfinished s number → IsUnfinished (after s turns) number
stays s turns number never h =
    after_between (isnt_ending number) (λ t. IsUnfinished t number) (λ t event outcomes once k. step_changes (λ u. IsUnfinished u number) t event outcomes (stays_changes t event number once k)) s turns never h

-- it isn't the event's own
steps_other : (event : Event) (number k : ℕ) → isnt_of number event ≡ true → event ≡ events.GcStep k → number ≢ k
steps_other event number k never e = different k number (sym (ap (isnt_of number) e) ∙ never)

finishes_other : (event : Event) (number k : ℕ) → isnt_of number event ≡ true → event ≡ events.GcEnd k → number ≢ k
finishes_other event number k never e = different k number (sym (ap (isnt_of number) e) ∙ never)

alone_changes : (s : State) (event : Event) (number : ℕ) (c : Collection) → number < s.collections.next → isnt_of number event ≡ true → collection_at s.collections number ≡ Some c
    → OfEachChange (λ t. collection_at t.collections number ≡ Some c) s event
alone_changes s event number c given never h = record {
  same = h;
  lives = λ id segment move. h;
  reads = λ now move. h;
  opens = λ id segment component e there absent. h;
  puts = λ name body file e good. h;
  commits = λ payload ids last e. h;
  collects = λ outcomes free. h;
  releases = λ id segment. h;
  deletes = λ id n segment may. h;
  begins = λ free. put_other s.collections.unfinished s.collections.next number (begun (garbage s)) (λ same. absurd (omega (arith, same, given))) ∙ h;
  tries = λ k d name left is_done step there e. put_other s.collections.unfinished k number (having_tried d name left is_done) (steps_other event number k never step) ∙ h;
  finishes = λ k d e there. gone_other s.collections.unfinished k number (finishes_other event number k never e) ∙ h;
  reopens = λ e. absurd (true≢false (sym never ∙ ap (isnt_of number) e));
}

alone : (s : State) (event : Event) (outcomes : List Bool) (number : ℕ) (c : Collection) → CollectsSoundly s → isnt_of number event ≡ true → collection_at s.collections number ≡ Some c
    → collection_at (step s event outcomes).1.collections number ≡ Some c
alone s event outcomes number c h never there =
    step_changes (λ t. collection_at t.collections number ≡ Some c) s event outcomes (alone_changes s event number c (given_at s h number c there) never there)

-- a number was given, and no collection has it
record IsOver (s : State) (number : ℕ) : Type 0 where
  given : number < s.collections.next
  none : collection_at s.collections number ≡ None

-- it isn't that of an unfinished one
over_other : (s : State) (number k : ℕ) (c : Collection) → IsOver s number → collection_at s.collections k ≡ Some c → number ≢ k
over_other s number k c h there =
    let none : collection_at s.collections number ≡ None = h.none in
    λ same. let some : collection_at s.collections number ≡ Some c = subst (λ (m : ℕ). collection_at s.collections m ≡ Some c) (sym same) there in absurd cc

over_changes : (s : State) (event : Event) (number : ℕ) → isnt_reopening event ≡ true → IsOver s number → OfEachChange (λ t. IsOver t number) s event
over_changes s event number never h = record {
  same = h;
  lives = λ id segment move. record { given = h.given; none = h.none };
  reads = λ now move. record { given = h.given; none = h.none };
  opens = λ id segment component e there absent. record { given = h.given; none = h.none };
  puts = λ name body file e good. record { given = h.given; none = h.none };
  commits = λ payload ids last e. record { given = h.given; none = h.none };
  collects = λ outcomes free. record { given = h.given; none = h.none };
  releases = λ id segment. record { given = h.given; none = h.none };
  deletes = λ id n segment may. record { given = h.given; none = h.none };
  begins = λ free. record {
    given = omega (arith, h.given);
    none = put_other s.collections.unfinished s.collections.next number (begun (garbage s)) (λ same. absurd (omega (arith, same, h.given))) ∙ h.none;
  };
  tries = λ k c name left is_done step there e. record { given = h.given; none = put_other s.collections.unfinished k number (having_tried c name left is_done) (over_other s number k c h there) ∙ h.none };
  finishes = λ k c e there. record { given = h.given; none = gone_other s.collections.unfinished k number (over_other s number k c h there) ∙ h.none };
  reopens = λ e. absurd (true≢false (sym never ∙ ap isnt_reopening e));
}

once : (s : State) (turns : List Turn) (number : ℕ) → NeverReopens turns → IsOver s number → IsOver (after s turns) number
once s turns number never h = until_reopened (λ t. IsOver t number) (λ t event never_now k. over_changes t event number never_now k) s turns never h

-- ---- the beginning of a collection

begins : (s : State) → is_busy s.catalog ≡ false → Begins s
begins s free = let now = gc_begin_free s free in record {
  takes = takes s;
  told = ap (λ (r : StepResult State). r.0) now;
  starts = ap (λ (r : StepResult State). collection_at r.1.collections s.collections.next) now ∙ put_found s.collections.unfinished s.collections.next (begun (garbage s));
  next = ap (λ (r : StepResult State). r.1.collections.next) now;
  files = ap (λ (r : StepResult State). r.1.files) now;
  managed = ap (λ (r : StepResult State). r.1.managed) now;
  others = subst (λ (r : StepResult State). LeavesOthers s r.1 s.collections.next) (sym now) (record { catalog = refl; others = λ other differs. put_other s.collections.unfinished s.collections.next other (begun (garbage s)) differs });
}

-- ---- a step of a collection

-- a step of a collection that has these names left
step_of : (s : State) (number : ℕ) (c : Collection) (untried : List (List ℕ)) (outcomes : List Bool) → collection_at s.collections number ≡ Some c → c.untried ≡ untried
    → gc_step_step s number outcomes ≡ tried_first s number c untried outcomes
step_of s number c untried outcomes there e =
    ap (λ (x : Option Collection). given s x (codes "unknown-collection") (λ k. tried_first s number k k.untried outcomes)) there
    ∙ ap (λ (l : List (List ℕ)). tried_first s number c l outcomes) e

without_it : (b : Bool) (file : Option FileState) → cond (not (b || false)) file None ≡ cond b None file
without_it true file = refl
without_it false file = refl

tried_file : (s : State) (number : ℕ) (c : Collection) (name : List ℕ) (left : List (List ℕ)) (is_done : Bool) (n : List ℕ) → file_at (having_deleted s number c name left is_done).1 n ≡ cond (is_done && is name n) None (file_at s n)
tried_file s number c name left true n = at_without (name ∷ []) s.files n ∙ without_it (is name n) (file_at s n)
tried_file s number c name left false n = refl

tries : (s : State) (number : ℕ) (c : Collection) (name : List ℕ) (left : List (List ℕ)) (outcomes : List Bool) → collection_at s.collections number ≡ Some c → c.untried ≡ name ∷ left → Tries s number c name left outcomes
tries s number c name left outcomes there e =
    let now = step_of s number c (name ∷ left) outcomes there e in record {
      told = ap (λ (r : StepResult State). r.0) now;
      moved = ap (λ (r : StepResult State). collection_at r.1.collections number) now ∙ put_found s.collections.unfinished number (having_tried c name left (is_done outcomes));
      gone = λ n. ap (λ (r : StepResult State). file_at r.1 n) now ∙ tried_file s number c name left (is_done outcomes) n;
      managed = ap (λ (r : StepResult State). r.1.managed) now;
      next = ap (λ (r : StepResult State). r.1.collections.next) now;
      others = subst (λ (r : StepResult State). LeavesOthers s r.1 number) (sym now) (record {
        catalog = refl;
        others = λ other differs. put_other s.collections.unfinished number other (having_tried c name left (is_done outcomes)) differs;
      });
    }

-- ---- the end of a collection

-- the end of a collection that is there
end_of : (s : State) (number : ℕ) (c : Collection) → collection_at s.collections number ≡ Some c → gc_end_step s number ≡ ended s number c
end_of s number c there = ap (λ (x : Option Collection). given s x (codes "unknown-collection") (ended s number)) there

taken_once : (s : State) (number : ℕ) (c : Collection) → CollectsSoundly s → collection_at s.collections number ≡ Some c → AreOnce (taken c)
taken_once s number c h there = times_once (taken c) (λ n. omega (arith, taken_held s.collections.unfinished number c n there, once_times (held s.collections) n h.once))

-- the managed names after it
ended_managed : (s : State) (number : ℕ) (c : Collection) (n : List ℕ) → collection_at s.collections number ≡ Some c → has (gc_end_step s number).1.managed n ≡ (not (has c.done n) && has s.managed n)
ended_managed s number c n there = ap (λ (r : StepResult State). has r.1.managed n) (end_of s number c there) ∙ has_without c.done s.managed n

-- what failed or wasn't tried isn't done, and is held
rest_stays : (s : State) (number : ℕ) (c : Collection) (n : List ℕ) → CollectsSoundly s → collection_at s.collections number ≡ Some c → has (c.failed ++ c.untried) n ≡ true
    → (has c.done n ≡ false) × (has s.managed n ≡ true)
rest_stays s number c n h there rest =
    let some : 1 ≤ times c.failed n + times c.untried n = omega (arith, some_times (c.failed ++ c.untried) n rest, times_append c.failed c.untried n) in
    let few : times (taken c) n ≤ 1 = omega (arith, taken_held s.collections.unfinished number c n there, once_times (held s.collections) n h.once) in (
      false_from_ne_true (has c.done n) (λ done. absurd (omega (arith, some, few, taken_times c n, some_times c.done n done))),
      h.managed n (has_times (held s.collections) n (omega (arith, some, taken_times c n, taken_held s.collections.unfinished number c n there))),
    )

ends : (s : State) (number : ℕ) (c : Collection) → CollectsSoundly s → collection_at s.collections number ≡ Some c → Ends s number c
ends s number c h there =
    let now = end_of s number c there in record {
      told = ap (λ (r : StepResult State). r.0) now;
      apart = taken_once s number c h there;
      done = λ n is. (h.gone number c n there is, ended_managed s number c n there ∙ (rw is refl));
      stay = λ n rest. let t = rest_stays s number c n h there rest in ended_managed s number c n there ∙ (rw t.0 t.1);
      spared = λ n undone. ended_managed s number c n there ∙ (rw undone refl);
      finished = ap (λ (r : StepResult State). collection_at r.1.collections number) now ∙ gone_none s.collections.unfinished number h.ordered;
      files = ap (λ (r : StepResult State). r.1.files) now;
      next = ap (λ (r : StepResult State). r.1.collections.next) now;
      others = subst (λ (r : StepResult State). LeavesOthers s r.1 number) (sym now) (record { catalog = refl; others = λ other differs. gone_other s.collections.unfinished number other differs });
    }

-- ---- all steps of a collection

all_done : (names : List (List ℕ)) (outcomes : List Bool) → refused_in outcomes ≡ 0 → done_of names outcomes ≡ names
all_done [] outcomes h = refl
all_done (name ∷ names) [] h = refl
all_done (name ∷ names) (true ∷ outcomes) h = ap (λ (l : List (List ℕ)). name ∷ l) (all_done names outcomes h)
all_done (name ∷ names) (false ∷ outcomes) h = absurd (omega (arith, h))

-- a state after the rest of a collection, whose names that are yet to be done are these
record IsEnd (s : State) (c : Collection) (done : List (List ℕ)) (t : State) : Type 0 where
  files : (n : List ℕ) → file_at t n ≡ cond (not (has done n)) (file_at s n) None
  managed : t.managed ≡ without (c.done ++ done) s.managed
  catalog : t.catalog ≡ s.catalog

both_gone : (b h : Bool) (file : Option FileState) → cond (not h) (cond (not (b || false)) file None) None ≡ cond (not (b || h)) file None
both_gone true true file = refl
both_gone true false file = refl
both_gone false true file = refl
both_gone false false file = refl

-- the end from a step on is the end from before it
end_before : (s t : State) (number : ℕ) (c : Collection) (name : List ℕ) (left : List (List ℕ)) (is_done : Bool) (done : List (List ℕ)) → IsEnd (having_deleted s number c name left is_done).1 (having_tried c name left is_done) done t
    → IsEnd s c (cond is_done (name ∷ done) done) t
end_before s t number c name left true done h = record {
  files = λ n. h.files n ∙ ap (λ (f : Option FileState). cond (not (has done n)) f None) (at_without (name ∷ []) s.files n) ∙ both_gone (is name n) (has done n) (file_at s n);
  managed = h.managed ∙ ap (λ (l : List (List ℕ)). without l s.managed) (append_assoc c.done (name ∷ []) done);
  catalog = h.catalog;
}
end_before s t number c name left false done h = record { files = h.files; managed = h.managed; catalog = h.catalog }

-- a step, with the end that the steps after it come to
one_step : (s : State) (number : ℕ) (c : Collection) (name : List ℕ) (left : List (List ℕ)) (outcomes : List Bool) (done : List (List ℕ)) (turns : List Turn) → collection_at s.collections number ≡ Some c → c.untried ≡ name ∷ left
    → IsEnd (having_deleted s number c name left (is_done outcomes)).1 (having_tried c name left (is_done outcomes)) done (after (having_deleted s number c name left (is_done outcomes)).1 turns)
    → IsEnd s c (cond (is_done outcomes) (name ∷ done) done) (after (gc_step_step s number outcomes).1 turns)
one_step s number c name left outcomes done turns there e h =
    subst (λ (r : StepResult State). IsEnd s c (cond (is_done outcomes) (name ∷ done) done) (after r.1 turns)) (sym (step_of s number c (name ∷ left) outcomes there e))
    (end_before s (after (having_deleted s number c name left (is_done outcomes)).1 turns) number c name left (is_done outcomes) done h)

-- the collection after it
tried_at : (s : State) (number : ℕ) (c : Collection) (name : List ℕ) (left : List (List ℕ)) (is_done : Bool) → collection_at (having_deleted s number c name left is_done).1.collections number ≡ Some (having_tried c name left is_done)
tried_at s number c name left is_done = put_found s.collections.unfinished number (having_tried c name left is_done)

-- the steps that are left, and the end
steps_end : (s : State) (number : ℕ) (c : Collection) (names : List (List ℕ)) (outcomes : List Bool) → collection_at s.collections number ≡ Some c → c.untried ≡ names
    → IsEnd s c (done_of names outcomes) (after s (in_steps number names outcomes))
steps_end s number c [] outcomes there e =
    subst (λ (r : StepResult State). IsEnd s c [] r.1) (sym (end_of s number c there))
    (record { files = λ n. refl; managed = ap (λ (l : List (List ℕ)). without l s.managed) (sym (append-nil c.done)); catalog = refl })
steps_end s number c (name ∷ names) [] there e =
    subst (λ (l : List (List ℕ)). IsEnd s c (name ∷ l) (after s (in_steps number (name ∷ names) []))) (all_done names [] refl)
    (one_step s number c name names [] (done_of names []) (in_steps number names []) there e
    (steps_end (having_deleted s number c name names true).1 number (having_tried c name names true) names [] (tried_at s number c name names true) refl))
steps_end s number c (name ∷ names) (true ∷ outcomes) there e =
    one_step s number c name names (true ∷ []) (done_of names outcomes) (in_steps number names outcomes) there e
    (steps_end (having_deleted s number c name names true).1 number (having_tried c name names true) names outcomes (tried_at s number c name names true) refl)
steps_end s number c (name ∷ names) (false ∷ outcomes) there e =
    one_step s number c name names (false ∷ []) (done_of names outcomes) (in_steps number names outcomes) there e
    (steps_end (having_deleted s number c name names false).1 number (having_tried c name names false) names outcomes (tried_at s number c name names false) refl)

-- ---- the laws

few : (outcomes : List Bool) → is_done outcomes ≡ false → 1 ≤ refused_in outcomes
few [] h = absurd (true≢false h)
few (true ∷ outcomes) h = absurd (true≢false h)
few (false ∷ outcomes) h = omega arith

pub collects_in_steps : (s : State) → IsSoundState s → CollectsInSteps s
collects_in_steps s sound = let h = sound.whole.collecting in record {
  begins = begins s;
  stays = stays s;
  keeps = λ turns number first later never there then n. keeps s turns number first later h never there then n;
  alone = λ event outcomes number c never there. alone s event outcomes number c h never there;
  once = λ turns number never given none. (once s turns number never (record { given = given; none = none })).none;
  tries = λ number c name left outcomes there e. tries s number c name left outcomes there e;
  spent = λ number c outcomes there e. step_of s number c [] outcomes there e;
  counted = few;
  ends = λ number c there. ends s number c h there;
}

-- so does each state of a run
pub collects_in_steps_in : (s : State) (turns : List Turn) → IsSoundState s → AllByRecursion Fits (events_of turns) → CollectsInStepsIn s turns
collects_in_steps_in s turns h fits front rest e =
    collects_in_steps (after s front) (sound_after s front (front_fits front rest (subst (λ (l : List Turn). AllByRecursion Fits (events_of l)) e fits)) h)

-- a file that is there and managed is kept exactly where it is needed or held
kept_needed : (living held managed : Bool) (file : Option FileState) → (is_some file ≡ true → managed ≡ true)
    → is_some (cond (not (not (living || held) && managed)) file None) ≡ (is_some file && (living || held))
kept_needed true held managed None h = refl
kept_needed true held managed (Some file) h = refl
kept_needed false true managed None h = refl
kept_needed false true managed (Some file) h = refl
kept_needed false false true None h = refl
kept_needed false false true (Some file) h = refl
kept_needed false false false None h = refl
kept_needed false false false (Some file) h = absurd (true≢false (sym (h refl)))

pub collects_at_once : (s : State) (outcomes : List Bool) → is_busy s.catalog ≡ false → IsAtOnce s outcomes
collects_at_once s outcomes free =
    let end = steps_end (collection_begun s).1 s.collections.next (begun (garbage s)) (garbage s) outcomes (put_found s.collections.unfinished s.collections.next (begun (garbage s))) refl in
    let now = gc_free s outcomes free in
    let whole = ap (λ (r : StepResult State). after r.1 (in_steps s.collections.next (garbage s) outcomes)) (gc_begin_free s free) in record {
      files = λ n. ap (λ (r : StepResult State). file_at r.1 n) now ∙ at_without (done_of (garbage s) outcomes) s.files n ∙ sym (end.files n) ∙ ap (λ (t : State). file_at t n) (sym whole);
      managed = ap (λ (r : StepResult State). r.1.managed) now ∙ sym end.managed ∙ ap (λ (t : State). t.managed) (sym whole);
      catalog = ap (λ (r : StepResult State). r.1.catalog) now ∙ sym end.catalog ∙ ap (λ (t : State). t.catalog) (sym whole);
    }

pub collects_all_else : (s : State) → IsSoundState s → CollectsAllElse s
collects_all_else s sound free outcomes n none =
    let gone = done_of (garbage s) outcomes in
    let taken_now : has gone n ≡ (not (has (living s.catalog) n || has (held s.collections) n) && has s.managed n) = ap (λ (l : List (List ℕ)). has l n) (all_done (garbage s) outcomes none) ∙ garbage_is s n in
    ap (λ (r : StepResult State). is_some (file_at r.1 n)) (gc_free s outcomes free)
    ∙ ap is_some (at_without gone s.files n)
    ∙ ap (λ (b : Bool). is_some (cond (not b) (file_at s n) None)) taken_now
    ∙ kept_needed (has (living s.catalog) n) (has (held s.collections) n) (has s.managed n) (file_at s n) (sound.listed n)
