-- How long the line of a collection is, and how many names it has.
use Rattle.std.proofs.Common.{◌≡◌, ◌≤◌, ◌+◌, ℕ, Bool, true, false, true≢false, not, ◌||◌, cond, List, [], ◌∷◌, ◌++◌, length, codes, refl, sym, ap, ◌∙◌, arith, append_assoc, length-append}
use Rattle.std.specs.Cmp.Lexicographic.{texts_ties}
use Rattle.tv_formats.specs.Collections.{collectable, done_of, failed_of, without}
use Rattle.tv_machine.specs.CollectionEvents.{collected_line}
use Rattle.tv_events.specs.AnswerLines.{line}
use Rattle.tv_formats.specs.Names.{has, is}
use Rattle.tv_formats.specs.Files.{has_no_feed}
use Rattle.tv_formats.proofs.NoFeeds.{no_feed_append}
use Rattle.tv_formats.proofs.Entries.{is_by_order, is_text}
use Rattle.tv_catalog.proofs.SharedLaws.{line_len, words_len}

-- what a line begins with is no longer than the line
pub begun_fits : (text : List ℕ) (words : List (List ℕ)) → length text ≤ length (line text words)
begun_fits text words = omega (arith, line_len text words)

line_behind : (front text : List ℕ) (words : List (List ℕ)) → line (front ++ text) words ≡ front ++ line text words
line_behind front text [] = refl
line_behind front text (word ∷ words) = ap (λ (t : List ℕ). line t words) (append_assoc front text (32 ∷ word)) ∙ line_behind front (text ++ 32 ∷ word) words

-- the line of a collection, as it is written
pub written_line : (done failed : List (List ℕ)) → line (line (codes "gc deleted") done ++ 32 ∷ codes "failed") failed ≡ collected_line done failed
written_line done failed =
    line_behind (line (codes "gc deleted") done) (32 ∷ codes "failed") failed
    ∙ ap (λ (t : List ℕ). line (codes "gc deleted") done ++ t) (line_behind (32 ∷ []) (codes "failed") failed)

-- so each part of it is no longer than the whole
pub parts_fit : (done failed : List (List ℕ)) → (length (line (codes "gc deleted") done ++ 32 ∷ codes "failed") ≤ length (collected_line done failed)) × (length (line (codes "gc deleted") done) ≤ length (collected_line done failed))
parts_fit done failed =
    let first = line (codes "gc deleted") done in
    let both : length (first ++ 32 ∷ codes "failed") ≤ length (collected_line done failed) =
    omega (arith, begun_fits (first ++ 32 ∷ codes "failed") failed, ap (λ (t : List ℕ). length t) (written_line done failed)) in
    (both, omega (arith, both, length-append first (32 ∷ codes "failed")))

-- no line feed comes with one more word
pub word_feeds : (text word : List ℕ) → has_no_feed text ≡ true → has_no_feed word ≡ true → has_no_feed (text ++ 32 ∷ word) ≡ true
word_feeds text word h k = no_feed_append text (32 ∷ word) h k

-- each name is told once, as done or as failed
tried_len : (names : List (List ℕ)) (outcomes : List Bool) → words_len (done_of names outcomes) + words_len (failed_of names outcomes) ≡ words_len names
tried_len [] outcomes = omega arith
tried_len (name ∷ names) [] = omega arith
tried_len (name ∷ names) (true ∷ outcomes) = omega (arith, tried_len names outcomes)
tried_len (name ∷ names) (false ∷ outcomes) = omega (arith, tried_len names outcomes)

-- and those that are taken are among the managed ones
taken_len : (needed managed : List (List ℕ)) → words_len (collectable needed managed) ≤ words_len managed
taken_len needed [] = omega arith
taken_len needed (name ∷ managed) = taken (has needed name) (taken_len needed managed) where
  taken : (b : Bool) → words_len (collectable needed managed) ≤ words_len managed → words_len (cond (not b) (name ∷ collectable needed managed) (collectable needed managed)) ≤ (length name + 1) + words_len managed
  taken true h = omega (arith, h)
  taken false h = omega (arith, h)

-- so the line is no longer than one of its words and all managed names
pub collected_fits : (needed managed : List (List ℕ)) (outcomes : List Bool)
    → length (collected_line (done_of (collectable needed managed) outcomes) (failed_of (collectable needed managed) outcomes)) ≤ length (line (codes "gc deleted failed") managed)
collected_fits needed managed outcomes =
    let names = collectable needed managed in
    let done = done_of names outcomes in
    let failed = failed_of names outcomes in
    let first : length (codes "gc deleted") ≡ 10 = refl in
    let second : length (codes "failed") ≡ 6 = refl in
    let words : length (codes "gc deleted failed") ≡ 17 = refl in
    omega (
      arith,
      length-append (line (codes "gc deleted") done) (32 ∷ line (codes "failed") failed),
      line_len (codes "gc deleted") done,
      line_len (codes "failed") failed,
      line_len (codes "gc deleted failed") managed,
      tried_len names outcomes,
      taken_len needed managed,
    )

-- ---- the line of a collection that began

-- what is left of names without one of them is shorter by that
pub one_less : (x : List ℕ) (names : List (List ℕ)) → has names x ≡ true → (length x + 1) + words_len (without (x ∷ []) names) ≤ words_len names
one_less x [] h = absurd (true≢false (sym h))
one_less x (y ∷ names) h =
    elim (is x y) as (λ b. is x y ≡ b → (length x + 1) + words_len (cond (not (b || false)) (y ∷ without (x ∷ []) names) (without (x ∷ []) names)) ≤ (length y + 1) + words_len names) [
      | true ↦ λ e.
          let fewer : words_len (without (x ∷ []) names) ≤ words_len names = taken_len (x ∷ []) names in
          omega (arith, ap (λ (t : List ℕ). length t) (is_text x y e), fewer)
      | false ↦ λ e.
          let other : is y x ≡ false = is_by_order x y ∙ sym (texts_ties x y) ∙ e in
          let later : has names x ≡ true = ap (λ (b : Bool). b || has names x) (sym other) ∙ h in
          omega (arith, one_less x names later)
    ] refl

-- ---- how many names there are

-- a line with those that are taken is no longer than one with all
pub taken_fits : (text : List ℕ) (needed managed : List (List ℕ)) → length (line text (collectable needed managed)) ≤ length (line text managed)
taken_fits text needed managed = omega (arith, line_len text (collectable needed managed), line_len text managed, taken_len needed managed)
