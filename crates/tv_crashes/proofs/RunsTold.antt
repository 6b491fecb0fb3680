-- How runs whose lines are told go on, and what a crash in them leaves.
use Rattle.std.specs.Prelude.{◌≡◌, ◌+◌, ◌<◌, ◌≤◌, ℕ, List, [], ◌∷◌, ◌++◌, length, take}
use Rattle.std.proofs.Common.{⊎_elim, sym, ◌∙◌, ap, subst, arith, append_assoc}
use Rattle.std.proofs.lemmas.Bool.{cases_lt}
use Rattle.std.proofs.lemmas.List.{take-append-le, length-append, append-nil, take_all}
use Rattle.std.proofs.Math.Seq.{take-append-add}
use Rattle.tv_formats.specs.Commits.{IndexForm}
use Rattle.tv_formats.specs.Disk.{MayLeave, Possible, SamePossible, Throughout, Within, possible_now}
use Rattle.tv_formats.specs.Files.{Reads}
use Rattle.tv_formats.specs.Listed.{ListsItsFiles}
use Rattle.tv_formats.proofs.DiskLaws.{same_then}
use Rattle.tv_machine.specs.Lines.{opening_line}
use Rattle.tv_machine.specs.Machine.{Turn, after, answers, report, step}
use Rattle.tv_machine.specs.State.{State}
use Rattle.tv_crashes.specs.Stored.{IsSafe, ShowsEither, ShowsWhole, Stored, stored_of}
use Rattle.tv_crashes.specs.Runs.{DoesSafely, HasDone, HearsNoLine, OnlyTellsLine, OpensUntold, OpensWhole, ReplaySurvives, RunsSafely, RunsWhole, Seen, Survives, stored_at}
use Rattle.tv_crashes.specs.Told.{count_told_by, whole_lines, with_feeds}
use Rattle.tv_crashes.proofs.StoredImages.{fewer_safe, or_safe, safe_or, shows}
use Rattle.tv_crashes.proofs.ToldLines.{after-append, at_most, bound, count-append, feeds-append, length_answers, line_of_one, none_by, not_yet, told_then, whole-append}

-- ---- what is stored at a place of the first part, and of the second

pub first_part : (form : IndexForm) (s : State) (first second : List Turn) (k : ℕ) → k ≤ length first → stored_at form s (first ++ second) k ≡ stored_at form s first k
first_part form s first second k le = ap (λ l. stored_of form (after s l)) (take-append-le k first second le)

pub second_part : (form : IndexForm) (s : State) (first second : List Turn) (k : ℕ) → stored_at form s (first ++ second) (length first + k) ≡ stored_at form (after s first) second k
second_part form s first second k = ap (λ l. stored_of form (after s l)) (take-append-add first second k) ∙ ap (stored_of form) (after-append s first (take k second))

-- safe at a place of the first part, and so at that place of the whole
pub safe_more : {possible : Possible} (form : IndexForm) (s : State) (first second : List Turn) (k : ℕ) → k ≤ length first
    → IsSafe (stored_at form s first k) (stored_at form s first (k + 1)) possible → IsSafe (stored_at form s (first ++ second) k) (stored_at form s (first ++ second) (k + 1)) possible
safe_more {possible} form s first second k le safe = ⊎_elim
    (λ (below : k < length first). rw (first_part form s first second k le, first_part form s first second (k + 1) (omega (arith, below))) safe)
    (λ (whole : length first ≤ k).
    let same_one : stored_at form s first (k + 1) ≡ stored_at form s first k = ap (λ l. stored_of form (after s l)) (take_all (k + 1) first (omega (arith, whole)) ∙ sym (take_all k first whole)) in
    let here : IsSafe (stored_at form s first k) (stored_at form s first k) possible = subst (λ c. IsSafe (stored_at form s first k) c possible) same_one safe in
    let next = after s (take (k + 1) (first ++ second)) in
    subst (λ c. IsSafe c (stored_of form next) possible) (sym (first_part form s first second k le)) (safe_or here))
    (cases_lt k (length first))

-- ---- one run and then another

-- by the end of a run all of whose answers were told, so many were told
pub told_by_end : {form : IndexForm} {old new : Seen} {s : State} {turns : List Turn} (run : RunsWhole form old new s turns) (x : ℕ) → new.disk.moment ≤ x → count_told_by x run.runs.lines ≡ length turns
told_by_end {s = s} {turns = turns} run x late = run.runs.all x late ∙ ap length run.whole ∙ length_answers s turns

abbrev pub and_runs : {form : IndexForm} {old mid new : Seen} {s : State} {first second : List Turn} → RunsWhole form old mid s first → RunsSafely form mid new (after s first) second
    → RunsSafely form old new s (first ++ second)
and_runs {form} {old} {mid} {new} {s} {first} {second} a b = record {
  lines = a.runs.lines ++ b.lines;
  heard = b.heard ∙ ap (λ l. l ++ b.lines) a.runs.heard ∙ append_assoc old.heard a.runs.lines b.lines;
  said = record {
    rest = b.said.rest;
    are = feeds-append s first second ∙ ap (λ l. l ++ with_feeds (answers (after s first) second)) (sym a.whole) ∙ ap (λ l. whole_lines a.runs.lines ++ l) b.said.are
        ∙ sym (append_assoc (whole_lines a.runs.lines) (whole_lines b.lines) b.said.rest) ∙ ap (λ l. l ++ b.said.rest) (sym (whole-append a.runs.lines b.lines));
  };
  none_before = λ x before. let e = count-append x a.runs.lines b.lines in let f = a.runs.none_before x before in let g = b.none_before x (omega (arith, before, a.runs.later)) in omega (arith, e, f, g);
  all = λ x late.
      let e = count-append x a.runs.lines b.lines in
      let f = a.runs.all x (omega (arith, late, b.later)) in
      let g = b.all x late in
      let h = ap length (whole-append a.runs.lines b.lines) ∙ length-append (whole_lines a.runs.lines) (whole_lines b.lines) in
      omega (arith, e, f, g, h);
  later = omega (arith, a.runs.later, b.later);
  past = λ x le. same_then (a.runs.past x le) (b.past x (omega (arith, le, a.runs.later)));
  each = λ x from to. ⊎_elim
      (λ (early : x < mid.disk.moment).
      let e : count_told_by x (a.runs.lines ++ b.lines) ≡ count_told_by x a.runs.lines = count-append x a.runs.lines b.lines ∙ (let g = b.none_before x early in omega (arith, g)) in
      let was = a.runs.each x from (omega (arith, early)) in
      let now = fewer_safe _ _ (mid.disk.possible x) (new.disk.possible x) (b.past x (omega (arith, early))).no_more was in
      rw e (safe_more form s first second (count_told_by x a.runs.lines) (bound s first a.runs.lines a.runs.said x) now))
      (λ (late : mid.disk.moment ≤ x).
      let e : count_told_by x (a.runs.lines ++ b.lines) ≡ length first + count_told_by x b.lines = count-append x a.runs.lines b.lines ∙ ap (λ k. k + count_told_by x b.lines) (told_by_end a x late) in
      let one : length first + count_told_by x b.lines + 1 ≡ length first + (count_told_by x b.lines + 1) = omega arith in
      rw (e, one, second_part form s first second (count_told_by x b.lines), second_part form s first second (count_told_by x b.lines + 1)) (b.each x late to))
      (cases_lt x mid.disk.moment);
}

pub and_runs_whole : {form : IndexForm} {old mid new : Seen} {s : State} {first second : List Turn} → RunsWhole form old mid s first → RunsWhole form mid new (after s first) second
    → RunsWhole form old new s (first ++ second)
and_runs_whole {s = s} {first = first} {second = second} a b = record {
  runs = and_runs a b.runs;
  whole = whole-append a.runs.lines b.runs.lines ∙ ap (λ l. l ++ whole_lines b.runs.lines) a.whole ∙ ap (λ l. with_feeds (answers s first) ++ l) b.whole ∙ sym (feeds-append s first second);
}

-- a run of no event
pub no_turn : {form : IndexForm} {old new : Seen} (s : State) → Throughout (IsSafe (stored_of form s) (stored_of form s)) old.disk new.disk → HearsNoLine old new → RunsWhole form old new s []
no_turn s safe silent = record {
  runs = record {
    lines = silent.pieces;
    heard = silent.heard;
    said = record { rest = []; are = ap (λ l. l ++ []) (sym silent.none) };
    none_before = λ x before. none_by x silent.pieces silent.none;
    all = λ x late. none_by x silent.pieces silent.none ∙ ap length (sym silent.none);
    later = safe.later;
    past = safe.past;
    each = λ x from to. rw (none_by x silent.pieces silent.none) (safe.each x from to);
  };
  whole = silent.none;
}

-- a run, told or not, and then no line
pub stopped_then : {form : IndexForm} {old mid new : Seen} {s : State} {turns : List Turn} → RunsSafely form old mid s turns
    → Throughout (Within (possible_now mid.disk)) mid.disk new.disk → HearsNoLine mid new → RunsSafely form old new s turns
stopped_then {form} {old} {mid} {new} {s} {turns} run within silent = record {
  lines = run.lines ++ silent.pieces;
  heard = silent.heard ∙ ap (λ l. l ++ silent.pieces) run.heard ∙ append_assoc old.heard run.lines silent.pieces;
  said = record { rest = run.said.rest; are = run.said.are ∙ ap (λ l. l ++ run.said.rest) (sym same_lines) };
  none_before = λ x before. same_count x ∙ run.none_before x before;
  all = λ x late. same_count x ∙ run.all x (omega (arith, late, within.later)) ∙ ap length (sym same_lines);
  later = omega (arith, run.later, within.later);
  past = λ x le. same_then (run.past x le) (within.past x (omega (arith, le, run.later)));
  each = λ x from to. rw (same_count x) (⊎_elim
      (λ (then : mid.disk.moment < x).
      let by_then = run.all x (omega (arith, then)) ∙ sym (run.all mid.disk.moment (omega arith)) in
      rw by_then (fewer_safe _ _ (possible_now mid.disk) (new.disk.possible x) (within.each x (omega (arith, then)) to) (run.each mid.disk.moment run.later (omega arith))))
      (λ (upto : x ≤ mid.disk.moment). fewer_safe _ _ (mid.disk.possible x) (new.disk.possible x) (within.past x upto).no_more (run.each x from upto))
      (cases_lt mid.disk.moment x));
}
  where
    same_lines : whole_lines (run.lines ++ silent.pieces) ≡ whole_lines run.lines
    same_lines = whole-append run.lines silent.pieces ∙ ap (λ l. whole_lines run.lines ++ l) silent.none ∙ append-nil (whole_lines run.lines)

    same_count : (x : ℕ) → count_told_by x (run.lines ++ silent.pieces) ≡ count_told_by x run.lines
    same_count x = let e = count-append x run.lines silent.pieces in let f = none_by x silent.pieces silent.none in omega (arith, e, f)

-- ---- one event

-- whose line wasn't told
pub stopped : {form : IndexForm} {old new : Seen} {s : State} {turn : Turn} → DoesSafely form old new s turn → HearsNoLine old new → RunsSafely form old new s (turn ∷ [])
stopped {s = s} {turn = turn} safe silent = record {
  lines = silent.pieces;
  heard = silent.heard;
  said = record { rest = with_feeds (answers s (turn ∷ [])); are = ap (λ l. l ++ with_feeds (answers s (turn ∷ []))) (sym silent.none) };
  none_before = λ x before. none_by x silent.pieces silent.none;
  all = λ x late. none_by x silent.pieces silent.none ∙ ap length (sym silent.none);
  later = safe.later;
  past = safe.past;
  each = λ x from to. rw (none_by x silent.pieces silent.none) (safe.each x from to);
}

-- whose line was told then
pub told_turn : {form : IndexForm} {old mid new : Seen} {s : State} {turn : Turn} → HasDone form old mid s turn → OnlyTellsLine mid new (step s turn.0 turn.1).0 → RunsWhole form old new s (turn ∷ [])
told_turn {form} {old} {mid} {new} {s} {turn} did tells = record {
  runs = record {
    lines = (tells.moment, line ++ 10 ∷ []) ∷ [];
    heard = tells.heard ∙ ap (λ l. l ++ (tells.moment, line ++ 10 ∷ []) ∷ []) did.heard;
    said = record { rest = []; are = sym whole ∙ sym (append-nil (whole_lines ((tells.moment, line ++ 10 ∷ []) ∷ []))) };
    none_before = λ x before. not_yet x tells.moment line (omega (arith, before, did.does.later, tells.later));
    all = λ x late. told_then x tells.moment line (omega (arith, late, tells.sooner)) ∙ ap length (sym (line_of_one tells.moment line));
    later = omega (arith, did.does.later, tells.time.later);
    past = λ x le. same_then (did.does.past x le) (tells.time.past x (omega (arith, le, did.does.later)));
    each = λ x from to. ⊎_elim
        (λ (early : x < tells.moment). rw (not_yet x tells.moment line early) (⊎_elim
        (λ (doing : x < mid.disk.moment). fewer_safe _ _ (mid.disk.possible x) (new.disk.possible x) (tells.time.past x (omega (arith, doing))).no_more (did.does.each x from (omega (arith, doing))))
        (λ (telling : mid.disk.moment ≤ x). or_safe (after_it x telling to))
        (cases_lt x mid.disk.moment)))
        (λ (late : tells.moment ≤ x). rw (told_then x tells.moment line late) (after_it x (omega (arith, tells.later, late)) to))
        (cases_lt x tells.moment);
  };
  whole = whole;
}
  where
    line : List ℕ
    line = (step s turn.0 turn.1).0

    whole : whole_lines ((tells.moment, line ++ 10 ∷ []) ∷ []) ≡ with_feeds (answers s (turn ∷ []))
    whole = line_of_one tells.moment line

    c : Stored
    c = stored_of form (step s turn.0 turn.1).1

    after_it : (x : ℕ) → mid.disk.moment ≤ x → x ≤ new.disk.moment → IsSafe c c (new.disk.possible x)
    after_it x late to = ⊎_elim
        (λ (then : mid.disk.moment < x). ⊎_elim
        (λ (before : SamePossible (possible_now mid.disk) (new.disk.possible x)). fewer_safe c c (possible_now mid.disk) (new.disk.possible x) before.no_more did.done)
        (λ (behind : SamePossible (possible_now new.disk) (new.disk.possible x)). fewer_safe c c (possible_now new.disk) (new.disk.possible x) behind.no_more (fewer_safe c c (possible_now mid.disk) (possible_now new.disk) tells.within did.done))
        (tells.time.inside x then to))
        (λ (upto : x ≤ mid.disk.moment). let here : mid.disk.moment ≡ x = omega (arith, late, upto) in
        fewer_safe c c (mid.disk.possible x) (new.disk.possible x) (tells.time.past x upto).no_more (subst (λ y. IsSafe c c (mid.disk.possible y)) here did.done))
        (cases_lt mid.disk.moment x)

-- ---- what the images show

pub survives : {form : IndexForm} {old new : Seen} {s : State} {turns : List Turn} → RunsSafely form old new s turns → Survives form old new s turns
survives {form} {new = new} {s = s} {turns = turns} run = record {
  lines = run.lines;
  heard = run.heard;
  said = run.said;
  each = λ x k from to told image is. subst (λ j. ShowsEither image (stored_at form s turns j) (stored_at form s turns (j + 1))) told (shows (run.each x from to) is);
}

-- behind the last event nothing more comes
at_last : (form : IndexForm) (s : State) (turns : List Turn) {image : Reads} → ShowsEither image (stored_at form s turns (length turns)) (stored_at form s turns (length turns + 1))
    → ShowsWhole image (stored_of form (after s turns)) × ListsItsFiles image
at_last form s turns {image} shown =
    let here : stored_at form s turns (length turns) ≡ stored_of form (after s turns) = ap (λ l. stored_of form (after s l)) (take_all (length turns) turns (omega arith)) in
    let more : stored_at form s turns (length turns + 1) ≡ stored_of form (after s turns) = ap (λ l. stored_of form (after s l)) (take_all (length turns + 1) turns (omega arith)) in
    (⊎_elim (subst (ShowsWhole image) here) (subst (ShowsWhole image) more) shown.whole, shown.listed)

-- where all answers were told, nothing of them is lost
pub told_kept : {form : IndexForm} {old new : Seen} {s : State} {turns : List Turn} (run : Survives form old new s turns) (x : ℕ) (image : Reads) → old.disk.moment ≤ x → x ≤ new.disk.moment
    → count_told_by x run.lines ≡ length turns → MayLeave new.disk x image → ShowsWhole image (stored_of form (after s turns)) × ListsItsFiles image
told_kept {form} {s = s} {turns = turns} run x image from to told is = at_last form s turns (run.each x (length turns) from to told image is)

pub report_kept : {form : IndexForm} {old new : Seen} {s : State} {turns : List Turn} (run : ReplaySurvives form old new s turns) (x : ℕ) (image : Reads) → old.disk.moment ≤ x → x ≤ new.disk.moment
    → count_told_by x run.lines ≡ length turns + 1 → MayLeave new.disk x image → ShowsWhole image (stored_of form (after s turns)) × ListsItsFiles image
report_kept {form} {s = s} {turns = turns} run x image from to told is = at_last form s turns (run.each x (length turns) from to told image is)

-- ---- an opening first

-- an opening whose line wasn't told, and so no run
pub opens_untold : {form : IndexForm} {old new : Seen} (s : State) (turns : List Turn) → OpensUntold form.schema old new → ReplaySurvives form old new s turns
opens_untold {form} {old} {new} s turns opens = record {
  lines = opens.silent.pieces;
  heard = opens.silent.heard;
  said = record { rest = with_feeds (report s turns); are = ap (λ l. l ++ with_feeds (report s turns)) (sym opens.silent.none) };
  opening = λ x from to none image is. opens.before x from to image is;
  each = λ x k from to told image is. absurd (let none = none_by x opens.silent.pieces opens.silent.none in omega (arith, told, none));
}

-- an opening, and then a run
pub opens_then : {form : IndexForm} {old mid new : Seen} {s : State} {turns : List Turn} → OpensWhole form old mid s → RunsSafely form mid new s turns → ReplaySurvives form old new s turns
opens_then {form} {old} {mid} {new} {s} {turns} a b = record {
  lines = a.lines ++ b.lines;
  heard = b.heard ∙ ap (λ l. l ++ b.lines) a.heard ∙ append_assoc old.heard a.lines b.lines;
  said = record {
    rest = b.said.rest;
    are = ap (λ l. (opening_line s ++ 10 ∷ []) ∷ l) b.said.are ∙ ap (λ l. l ++ (whole_lines b.lines ++ b.said.rest)) (sym a.whole)
        ∙ sym (append_assoc (whole_lines a.lines) (whole_lines b.lines) b.said.rest) ∙ ap (λ l. l ++ b.said.rest) (sym (whole-append a.lines b.lines));
  };
  opening = λ x from to none image is.
      let e = count-append x a.lines b.lines in
      let early : x < mid.disk.moment = ⊎_elim (λ (y : x < mid.disk.moment). y) (λ (n : mid.disk.moment ≤ x). absurd (let f = a.all x n in omega (arith, e, f, none))) (cases_lt x mid.disk.moment) in
      a.before x from (omega (arith, early)) (omega (arith, e, none)) image (old_image x early image is);
  each = λ x k from to told image is.
      let e = count-append x a.lines b.lines in
      ⊎_elim
      (λ (early : x < mid.disk.moment).
      let g = b.none_before x early in
      let f = at_most x a.lines in
      let l : length (whole_lines a.lines) ≡ 1 = ap length a.whole in
      let first : k ≡ 0 = omega (arith, e, f, l, g, told) in
      let one : count_told_by x a.lines ≡ 1 = omega (arith, e, g, told, first) in
      let safe : IsSafe (stored_of form s) (stored_at form s turns 1) (mid.disk.possible x) = safe_or (a.now x from (omega (arith, early)) one) in
      subst (λ j. ShowsEither image (stored_at form s turns j) (stored_at form s turns (j + 1))) (sym first) (shows safe (old_image x early image is)))
      (λ (late : mid.disk.moment ≤ x).
      let f = a.all x late in
      let same_k : count_told_by x b.lines ≡ k = omega (arith, e, f, told) in
      subst (λ j. ShowsEither image (stored_at form s turns j) (stored_at form s turns (j + 1))) same_k (shows (b.each x late to) is))
      (cases_lt x mid.disk.moment);
}
  where
    old_image : (x : ℕ) → x < mid.disk.moment → (image : Reads) → MayLeave new.disk x image → MayLeave mid.disk x image
    old_image x early image is = record { each = λ n. let here = is.each n in (here.0, (b.past x (omega (arith, early))).no_more.each n here.0 here.1, here.2) }
