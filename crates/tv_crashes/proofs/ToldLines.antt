-- Whole lines that are told, and how many of them by a moment.
use Rattle.std.specs.Prelude.{◌≡◌, ◌+◌, ◌<◌, ◌≤◌, ℕ, Bool, true, false, List, [], ◌∷◌, ◌++◌, length, map, ◌&&◌, ◌==◌, not, nat_le}
use Rattle.std.specs.List.{filter}
use Rattle.std.proofs.Common.{⊎_elim, cond, suc, refl, ◌∙◌, ap, arith}
use Rattle.std.proofs.lemmas.Bool.{and_parts}
use Rattle.std.proofs.lemmas.Bool.Decides.{leb_tells}
use Rattle.std.proofs.lemmas.List.{length-append, map-append}
use Rattle.std.proofs.lemmas.List.Elements.{filter-append}
use Rattle.tv_formats.specs.Files.{Heard, has_no_feed}
use Rattle.tv_machine.specs.Machine.{Turn, after, answers, step}
use Rattle.tv_machine.specs.State.{State}
use Rattle.tv_crashes.specs.Told.{AreFirst, count_told_by, is_told_by, is_whole_line, whole_lines, with_feeds}

-- ---- one part and another

pub after-append : (s : State) (first second : List Turn) → after s (first ++ second) ≡ after (after s first) second
after-append s [] second = refl
after-append s (turn ∷ first) second = after-append (step s turn.0 turn.1).1 first second

answers-append : (s : State) (first second : List Turn) → answers s (first ++ second) ≡ answers s first ++ answers (after s first) second
answers-append s [] second = refl
answers-append s (turn ∷ first) second = ap (λ l. (step s turn.0 turn.1).0 ∷ l) (answers-append (step s turn.0 turn.1).1 first second)

pub feeds-append : (s : State) (first second : List Turn) → with_feeds (answers s (first ++ second)) ≡ with_feeds (answers s first) ++ with_feeds (answers (after s first) second)
feeds-append s first second = ap with_feeds (answers-append s first second) ∙ map-append (λ (line : List ℕ). line ++ 10 ∷ []) (answers s first) (answers (after s first) second)

pub whole-append : (first second : Heard) → whole_lines (first ++ second) ≡ whole_lines first ++ whole_lines second
whole-append first second = ap (map (λ (e : ℕ × List ℕ). e.1)) (filter-append (λ (e : ℕ × List ℕ). is_whole_line e.1) first second)
    ∙ map-append (λ (e : ℕ × List ℕ). e.1) (filter (λ (e : ℕ × List ℕ). is_whole_line e.1) first) (filter (λ (e : ℕ × List ℕ). is_whole_line e.1) second)

pub count-append : (x : ℕ) (first second : Heard) → count_told_by x (first ++ second) ≡ count_told_by x first + count_told_by x second
count-append x first second = ap length (filter-append (is_told_by x) first second) ∙ length-append (filter (is_told_by x) first) (filter (is_told_by x) second)

-- ---- no more are told by a moment than are told

suc_both : (a b : ℕ) → a ≤ b → suc a ≤ suc b
suc_both a b le = omega (arith, le)

suc_right : (a b : ℕ) → a ≤ b → a ≤ suc b
suc_right a b le = omega (arith, le)

-- one piece more, which is a whole line or not, and was told by then or not
at_most_more : (whole by : Bool) (piece : ℕ × List ℕ) (told lines : Heard) → length told ≤ length (map (λ (e : ℕ × List ℕ). e.1) lines)
    → length (cond (whole && by) (piece ∷ told) told) ≤ length (map (λ (e : ℕ × List ℕ). e.1) (cond whole (piece ∷ lines) lines))
at_most_more true true piece told lines le = suc_both (length told) (length (map (λ (e : ℕ × List ℕ). e.1) lines)) le
at_most_more true false piece told lines le = suc_right (length told) (length (map (λ (e : ℕ × List ℕ). e.1) lines)) le
at_most_more false by piece told lines le = le

pub at_most : (x : ℕ) (heard : Heard) → count_told_by x heard ≤ length (whole_lines heard)
at_most x [] = omega arith
at_most x (piece ∷ heard) =
    at_most_more (is_whole_line piece.1) (nat_le piece.0 x) piece (filter (is_told_by x) heard) (filter (λ (e : ℕ × List ℕ). is_whole_line e.1) heard) (at_most x heard)

pub none_by : (x : ℕ) (heard : Heard) → whole_lines heard ≡ [] → count_told_by x heard ≡ 0
none_by x heard none = let most = at_most x heard in let e : length (whole_lines heard) ≡ 0 = ap length none in omega (arith, most, e)

-- a run has an answer for each event
pub length_answers : (s : State) (turns : List Turn) → length (with_feeds (answers s turns)) ≡ length turns
length_answers s [] = refl
length_answers s (turn ∷ turns) = ap suc (length_answers (step s turn.0 turn.1).1 turns)

-- nor than a run answers
pub bound : (s : State) (turns : List Turn) (lines : Heard) → AreFirst (whole_lines lines) (with_feeds (answers s turns)) → (x : ℕ) → count_told_by x lines ≤ length turns
bound s turns lines said x =
    let most = at_most x lines in
    let all = length_answers s turns in
    let parts = ap length said.are ∙ length-append (whole_lines lines) said.rest in
    omega (arith, most, all, parts)

-- ---- one line

ends : (line : List ℕ) → is_whole_line (line ++ 10 ∷ []) ≡ true
ends [] = refl
ends (b ∷ []) = refl
ends (b ∷ c ∷ line) = ends (c ∷ line)

pub told_then : (x t : ℕ) (line : List ℕ) → t ≤ x → count_told_by x ((t, line ++ 10 ∷ []) ∷ []) ≡ 1
told_then x t line after = ⊎_elim (λ y. rw (ends line, y.0) refl) (λ n. absurd (omega (arith, after, n.1))) (leb_tells t x)

pub not_yet : (x t : ℕ) (line : List ℕ) → x < t → count_told_by x ((t, line ++ 10 ∷ []) ∷ []) ≡ 0
not_yet x t line before = ⊎_elim (λ y. absurd (omega (arith, before, y.1))) (λ n. rw (ends line, n.0) refl) (leb_tells t x)

pub line_of_one : (t : ℕ) (line : List ℕ) → whole_lines ((t, line ++ 10 ∷ []) ∷ []) ≡ (line ++ 10 ∷ []) ∷ []
line_of_one t line = rw (ends line) refl

-- a piece without a line feed is no whole line
pub no_feed_no_line : (t : ℕ) (part : List ℕ) → has_no_feed part ≡ true → whole_lines ((t, part) ∷ []) ≡ []
no_feed_no_line t part none = rw (isnt_line part none) refl where
  isnt_line : (part : List ℕ) → has_no_feed part ≡ true → is_whole_line part ≡ false
  isnt_line [] none = refl
  isnt_line (b ∷ []) none = isnt (b == 10) (and_parts _ _ none).0 where
    isnt : (is : Bool) → not is ≡ true → is ≡ false
    isnt true none = absurd (cc none)
    isnt false none = refl
  isnt_line (b ∷ c ∷ rest) none = isnt_line (c ∷ rest) (and_parts _ _ none).1
