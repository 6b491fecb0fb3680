-- Facts on numbers in groups of seven bits.
use Rattle.std.proofs.Common.{◌≡◌, ℕ, zero, suc, ◌+◌, ◌*◌, ◌-◌, ◌/◌, ◌%◌, ◌<◌, ◌≤◌, true, false, cond, Some, None, List, [], ◌∷◌, ◌++◌, length, take, drop, reverse, get_or, position, nat_le, nat_lt, length-append, length-take-le, drop-cons, ⊎_elim, refl, sym, ap, subst, ◌∙◌, arith, append_assoc}
use Rattle.std.proofs.Math.Seq.{take-suc}
use Rattle.std.proofs.lemmas.Bool.{cases_lt}
use Rattle.std.proofs.lemmas.List.{reverse-append, take-append-drop, take-append-le, length-take}
use Rattle.std.proofs.lemmas.Option.{same_Some}
use Rattle.std.proofs.lemmas.List.Quantifiers.{position-Some}
use Rattle.std.specs.Int.Digits.{digits_of, number_from_digits, number_from_digits_after, AllBelowBase}
use Rattle.std.proofs.lemmas.Int.Digits.{digits_of_step, number_push, number_after_ge, first_digits_of}
use Rattle.tv_formats.specs.VInt.{groups, marked, vint}
use Rattle.tv_base.specs.Bytes.{is_last_byte, of_groups}

-- what comes next from the groups below is in the number
pub at_least : (n : ℕ) (xs : List ℕ) (k : ℕ) → k < length xs → n * 128 + get_or xs k 0 ≤ number_from_digits_after 128 n (reverse (take (suc k) xs))
at_least n xs k lt =
    let next : reverse (take (suc k) xs) ≡ get_or xs k 0 ∷ reverse (take k xs) = ap reverse (take-suc xs k 0 lt) ∙ reverse-append (take k xs) (get_or xs k 0 ∷ []) in
    rw next (number_after_ge 128 (n * 128 + get_or xs k 0) (reverse (take k xs)) (omega arith))

pub at_least_before : (n : ℕ) (xs : List ℕ) (i total : ℕ) → 0 < i → i ≤ length xs → number_from_digits_after 128 n (reverse (take i xs)) ≡ total → n * 128 + get_or xs (i - 1) 0 ≤ total
at_least_before n xs zero total positive le is = absurd (omega arith)
at_least_before n xs (suc k) total positive le is =
    let e : suc k - 1 ≡ k = omega arith in
    rw (e, ← is) (at_least n xs k (omega arith))

-- a number of one group
pub digits_small : (n : ℕ) → 0 < n → n < 128 → digits_of 128 n ≡ n ∷ []
digits_small n positive lt =
    let low : n / 128 ≡ 0 = omega arith in
    let same : n % 128 ≡ n = omega arith in
    digits_of_step 128 n (omega arith) positive ∙ rw (low, same) refl

pub spelled_small : (n : ℕ) → n < 128 → vint n ≡ (n + 128) ∷ []
spelled_small zero lt = refl
spelled_small (suc m) lt = ap marked (digits_small (suc m) (omega arith) lt)

pub groups_positive : (n : ℕ) → 0 < n → groups n ≡ digits_of 128 n
groups_positive zero positive = absurd (omega arith)
groups_positive (suc m) positive = refl

pub marked_push : (ds : List ℕ) (d : ℕ) → 0 < get_or ds 0 0 → marked (ds ++ d ∷ []) ≡ d ∷ marked ds
marked_push [] d positive = absurd (omega arith)
marked_push (h ∷ ds) d positive = ap (λ r. r ++ (h + 128) ∷ []) (reverse-append ds (d ∷ []))

-- a number of more groups
pub spelled_large : (n : ℕ) → 128 ≤ n → vint n ≡ n % 128 ∷ vint (n / 128)
spelled_large n le =
    let high : 0 < n / 128 = omega arith in
    ap marked (groups_positive n (omega arith) ∙ digits_of_step 128 n (omega arith) (omega arith))
    ∙ marked_push (digits_of 128 (n / 128)) (n % 128) (first_digits_of 128 (n / 128) (omega arith) high)
    ∙ ap (λ ds. n % 128 ∷ marked ds) (sym (groups_positive (n / 128) high))

pub one_more_group : (h g : ℕ) (gs : List ℕ) → of_groups h (g ∷ gs) ≡ of_groups h gs * 128 + g
one_more_group h g gs =
    ap (λ ds. number_from_digits 128 (h ∷ ds)) (reverse-append (g ∷ []) gs) ∙ number_push 128 (h ∷ reverse gs) g

-- the spelling of the number of these groups
pub spelled_back : (h : ℕ) (gs : List ℕ) → h < 128 → AllBelowBase 128 gs → (h ≡ 0 → gs ≡ []) → vint (of_groups h gs) ≡ gs ++ (h + 128) ∷ []
spelled_back h [] lt below alone = let same : 0 + h ≡ h = omega arith in ap vint same ∙ spelled_small h lt
spelled_back h (g ∷ gs) lt below alone =
    let some : (h ≡ 0 → ⊥) = λ none. not_empty g gs (alone none) in
    let large : 1 ≤ of_groups h gs = above h gs some in
    let n = of_groups h gs in
    let quotient : (n * 128 + g) / 128 ≡ n = omega (arith, below.0) in
    let remainder : (n * 128 + g) % 128 ≡ g = omega (arith, below.0) in
    ap vint (one_more_group h g gs)
    ∙ spelled_large (n * 128 + g) (omega (arith, large))
    ∙ rw (quotient, remainder) (ap (λ r. g ∷ r) (spelled_back h gs lt below.1 (λ none. absurd (some none))))
  where
    not_empty : (g : ℕ) (gs : List ℕ) → g ∷ gs ≡ [] → ⊥
    not_empty g gs is = cc

    above : (h : ℕ) (gs : List ℕ) → (h ≡ 0 → ⊥) → 1 ≤ of_groups h gs
    above zero gs some = absurd (some refl)
    above (suc k) gs some =
        let more : 0 * 128 + suc k ≤ of_groups (suc k) gs = number_after_ge 128 (0 * 128 + suc k) (reverse gs) (omega arith) in omega (arith, more)

-- how the spelling of a number is found at the front of some bytes
pub record Found (n last : ℕ) (bytes : List ℕ) : Type 0 where
  pub is : position is_last_byte bytes ≡ Some last
  pub number : of_groups (get_or bytes last 0 - 128) (take last bytes) ≡ n
  pub alone : get_or bytes last 0 - 128 ≡ 0 → last ≡ 0
  pub size : last + 1 ≡ length (vint n)

found_small : (n : ℕ) (rest : List ℕ) → n < 128 → Found n 0 (vint n ++ rest)
found_small n rest lt =
    let e = spelled_small n lt in
    let back : n + 128 - 128 ≡ n = omega arith in
    let yes : nat_le 128 (n + 128) ≡ true = grind arith in
    let some : nat_lt 0 (suc (length rest)) ≡ true = grind arith in
    rw e (record { is = rw (yes, some) refl; number = rw back (omega arith); alone = λ none. refl; size = rw e refl })

next_end : (a n i : ℕ) → cond (nat_lt a n) (Some a) None ≡ Some i → cond (nat_lt (1 + a) (suc n)) (Some (1 + a)) None ≡ Some (suc i)
next_end a n i is = grind (arith, is)

found_large : (n last : ℕ) (bytes : List ℕ) → 128 ≤ n → Found (n / 128) last bytes → Found n (suc last) (n % 128 ∷ bytes)
found_large n last bytes large f =
    let whole : n / 128 * 128 + n % 128 ≡ n = omega arith in
    let no : nat_le 128 (n % 128) ≡ false = grind arith in
    let zero_of : get_or bytes last 0 - 128 ≡ 0 → of_groups (get_or bytes last 0 - 128) (take last bytes) ≡ 0 = λ none. rw (none, f.alone none) refl in
    record {
      is = rw no (next_end _ _ last f.is);
      number = one_more_group (get_or bytes last 0 - 128) (n % 128) (take last bytes) ∙ rw f.number whole;
      alone = λ none. absurd (omega (arith, large, zero_of none, f.number));
      size = omega (arith, f.size, ap length (spelled_large n large));
    }

found_more : (n : ℕ) (rest : List ℕ) → 128 ≤ n → (last : ℕ) × Found (n / 128) last (vint (n / 128) ++ rest) → (last : ℕ) × Found n last (vint n ++ rest)
found_more n rest large f = (suc f.0, rw (spelled_large n large) (found_large n f.0 (vint (n / 128) ++ rest) large f.1))

found_by : (bound n : ℕ) (rest : List ℕ) → n ≤ bound → (last : ℕ) × Found n last (vint n ++ rest)
found_by zero n rest le = (0, found_small n rest (omega arith))
found_by (suc bound) n rest le =
    ⊎_elim (λ lt. (0, found_small n rest lt)) (λ large. found_more n rest large (found_by bound (n / 128) rest (omega arith))) (cases_lt n 128)

pub found_in : (n : ℕ) (rest bytes : List ℕ) → bytes ≡ vint n ++ rest → (last : ℕ) × Found n last bytes
found_in n rest bytes is = let f = found_by n n rest (omega arith) in (f.0, subst (Found n f.0) (sym is) f.1)

pub found_at : (n i : ℕ) (rest bytes : List ℕ) → bytes ≡ vint n ++ rest → position is_last_byte bytes ≡ Some i → Found n i bytes
found_at n i rest bytes is at = let f = found_in n rest bytes is in subst (λ k. Found n k bytes) (same_Some f.0 i (sym f.1.is ∙ at)) f.1

below_all : (xs : List ℕ) (i : ℕ) → ((k : ℕ) → k < i → nat_le 128 (get_or xs k 0) ≡ false) → AllBelowBase 128 (take i xs)
below_all xs zero each = tt
below_all [] (suc i) each = tt
below_all (x ∷ xs) (suc i) each =
    (grind (arith, each 0 (omega arith)), below_all xs i (λ k lt. each (suc k) (omega arith)))

-- the number that is read is spelled at the front of the bytes
pub record Read (n : ℕ) (last : ℕ) (bytes : List ℕ) : Type 0 where
  pub rest : List ℕ
  pub whole : bytes ≡ vint n ++ rest
  pub size : last + 1 ≡ length (vint n)

pub read_only : (bytes : List ℕ) (i n : ℕ) → position is_last_byte bytes ≡ Some i → get_or bytes i 0 < 256 → (get_or bytes i 0 - 128 ≡ 0 → i ≡ 0) → n ≡ of_groups (get_or bytes i 0 - 128) (take i bytes) → Read n i bytes
read_only bytes i n is byte alone number =
    let p = position-Some is_last_byte bytes i 0 is in
    let b = get_or bytes i 0 in
    let le : 128 ≤ b = grind (arith, p.1) in
    let back : b - 128 + 128 ≡ b = omega (arith, le) in
    let low = take i bytes in
    let spelled : vint n ≡ low ++ b ∷ [] =
    ap vint number
    ∙ spelled_back (b - 128) low (omega (arith, byte)) (below_all bytes i p.2) (λ none. ap (λ k. take k bytes) (alone none))
    ∙ ap (λ x. low ++ x ∷ []) back in
    let cut : low ++ b ∷ drop (suc i) bytes ≡ bytes = ap (λ r. low ++ r) (sym (drop-cons bytes i 0 p.0)) ∙ take-append-drop i bytes in
    let size : length low ≡ i = length-take-le i bytes (omega (arith, p.0)) in
    record {
      rest = drop (suc i) bytes;
      whole = sym (ap (λ v. v ++ drop (suc i) bytes) spelled ∙ append_assoc low (b ∷ []) (drop (suc i) bytes) ∙ cut);
      size = sym (ap length spelled ∙ length-append low (b ∷ []) ∙ ap (λ k. k + 1) size);
    }

-- where the code looks

pub last_large : (bytes : List ℕ) (i : ℕ) → position is_last_byte bytes ≡ Some i → 128 ≤ get_or bytes i 0
last_large bytes i is = let p = position-Some is_last_byte bytes i 0 is in grind (arith, p.1)

-- where the code writes

pub step_whole : (out all : List ℕ) (rest d q : ℕ) → 128 ≤ rest → d ≡ rest % 128 → q ≡ rest / 128 → out ++ vint rest ≡ all → (out ++ d ∷ []) ++ vint q ≡ all
step_whole out all rest d q le low high whole =
    append_assoc out (d ∷ []) (vint q) ∙ ap (λ v. out ++ v) (rw (low, high) (sym (spelled_large rest le))) ∙ whole

pub kept_more : (first out more : List ℕ) → take (length first) out ≡ first → take (length first) (out ++ more) ≡ first
kept_more first out more is =
    let le : length first ≤ length out = omega (arith, ap length is, length-take (length first) out) in
    take-append-le (length first) out more le ∙ is
