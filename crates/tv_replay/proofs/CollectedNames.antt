-- How many names the lines of a text say were deleted: no more than the text has bytes.
use Rattle.std.proofs.Common.{◌≡◌, ℕ, ◌+◌, ◌<◌, ◌≤◌, ◌==◌, ◌&&◌, Bool, true, false, cond, List, [], ◌∷◌, length, map, take, get_or, codes, refl, ap, ◌∙◌, arith}
use Rattle.std.specs.Borrow.{Bor}
use Rattle.std.specs.List.{slice_split, onto_first, sum_by}
use Rattle.std.proofs.lemmas.List.{take_all}
use Rattle.std.proofs.lemmas.List.Splits.{length-slice_split}
use Rattle.std.proofs.lemmas.List.Sums.{count_by-le-length, sum_by-le-sum_by, sum_by_more_le, sum_by-cons}
use Rattle.tv_formats.specs.Names.{is}
use Rattle.tv_replay.specs.Summaries.{before_failed, deleted_in, collected_in}

within : (b : Bool) (n m : ℕ) → n ≤ m → cond b n 0 ≤ m
within true n m le = le
within false n m le = omega arith

before_within : (words : List (List ℕ)) → before_failed words ≤ length words
before_within [] = omega arith
before_within (word ∷ words) = step (is word (codes "failed")) (before_within words) where
  step : (b : Bool) → before_failed words ≤ length words → cond b 0 (before_failed words + 1) ≤ length (word ∷ words)
  step true le = omega arith
  step false le = omega (arith, le)

words_within : (words : List (List ℕ)) (n : ℕ) → length words ≤ n + 1 → deleted_in words ≤ n
words_within [] n le = omega arith
words_within (a ∷ []) n le = omega arith
words_within (a ∷ b ∷ names) n le = within (is a (codes "gc") && is b (codes "deleted")) (before_failed names) n (omega (arith, before_within names, le))

deleted_within : (line : List ℕ) → deleted_in (slice_split (λ b. b == 32) line) ≤ length line
deleted_within line =
    words_within (slice_split (λ b. b == 32) line) (length line) (omega (arith, length-slice_split (λ b. b == 32) line, count_by-le-length (λ b. b == 32) line))

onto_sum : (x : ℕ) (parts : List (List ℕ)) → sum_by length (onto_first x parts) ≡ sum_by length parts + 1
onto_sum x [] = refl
onto_sum x (part ∷ parts) = omega (arith, sum_by-cons length (x ∷ part) parts, sum_by-cons length part parts)

parts_within : (p : ℕ → Bool) (text : List ℕ) → sum_by length (slice_split p text) ≤ length text
parts_within p [] = omega arith
parts_within p (x ∷ text) = step (p x) (parts_within p text) where
  step : (b : Bool) → sum_by length (slice_split p text) ≤ length text → sum_by length (cond b ([] ∷ slice_split p text) (onto_first x (slice_split p text))) ≤ length (x ∷ text)
  step true le = omega (arith, le)
  step false le = omega (arith, le, onto_sum x (slice_split p text))

pub collected_within : (text : List ℕ) → collected_in text ≤ length text
collected_within text =
    omega (arith, sum_by-le-sum_by (λ (line : List ℕ). deleted_in (slice_split (λ b. b == 32) line)) length (slice_split (λ b. b == 10) text) deleted_within, parts_within (λ b. b == 10) text)

-- how many the lines before a place say
abbrev pub deleted_by : Bor (List ℕ) → ℕ
deleted_by line = deleted_in (slice_split (λ b. b == 32) line.now)

of_all : (lines : List (Bor (List ℕ))) → sum_by deleted_by lines ≡ sum_by (λ (line : List ℕ). deleted_in (slice_split (λ b. b == 32) line)) (map (λ l. l.now) lines)
of_all [] = refl
of_all (line ∷ lines) = omega (arith, of_all lines, sum_by-cons deleted_by line lines, sum_by-cons (λ (line : List ℕ). deleted_in (slice_split (λ b. b == 32) line)) line.now (map (λ l. l.now) lines))

-- all lines of the text
pub sum_all : (text : List ℕ) (lines : List (Bor (List ℕ))) (i : ℕ) → map (λ l. l.now) lines ≡ slice_split (λ b. b == 10) text → length lines ≤ i → sum_by deleted_by (take i lines) ≡ collected_in text
sum_all text lines i are le =
    ap (λ (l : List (Bor (List ℕ))). sum_by deleted_by l) (take_all i lines le) ∙ of_all lines ∙ ap (λ (l : List (List ℕ)). sum_by (λ (line : List ℕ). deleted_in (slice_split (λ b. b == 32) line)) l) are

-- those before a place and the line there
pub sum_more : (text : List ℕ) (lines : List (Bor (List ℕ))) (i : ℕ) (d : Bor (List ℕ)) → map (λ l. l.now) lines ≡ slice_split (λ b. b == 10) text → i < length lines
    → sum_by deleted_by (take i lines) + deleted_by (get_or lines i d) ≤ length text
sum_more text lines i d are lt =
    let whole : sum_by deleted_by lines ≡ collected_in text = of_all lines ∙ ap (λ (l : List (List ℕ)). sum_by (λ (line : List ℕ). deleted_in (slice_split (λ b. b == 32) line)) l) are in
    omega (arith, sum_by_more_le deleted_by lines i d lt, whole, collected_within text)
