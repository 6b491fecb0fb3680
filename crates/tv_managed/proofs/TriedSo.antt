-- What a collection's outcomes say of its names.
use Rattle.std.proofs.Common.{◌≡◌, ◌≢◌, ℕ, ◌<◌, ◌≤◌, ◌+◌, suc, Bool, true, false, true≢false, ◌||◌, ⊎_elim, List, [], ◌∷◌, ◌++◌, length, drop, take, get_or, drop-cons, length-drop, set, string_bytes, String, Global, refl, sym, ap, ◌∙◌, arith}
use Rattle.std.proofs.lemmas.Bool.{both_ways, false_from_ne_true, or_cases, or_left, or_right, true_from_ne_false}
use Rattle.std.proofs.lemmas.List.Folds.{list_all_at}
use Rattle.std.proofs.lemmas.List.{length-take-le, map-append, take_more, take_more_set}
use Rattle.std.specs.Prelude.{if◌then◌else◌}
use Rattle.std.specs.List.{list_all, list_any}
use Rattle.tv_formats.specs.Names.{has, is, is_plain}
use Rattle.tv_formats.proofs.CollectedNames.{has_append}
use Rattle.tv_formats.proofs.Entries.{is_text}
use Rattle.tv_formats.specs.Collections.{AreOnce, Collection, having_tried, taken}
use Rattle.tv_managed.specs.Collecting.{names_of}
use Rattle.tv_managed.specs.Names.{IsCollection, tried_so, trying_first}

-- the names that weren't tried are left
pub left_is : (names : List (List ℕ)) (outcomes : List Bool) → (tried_so names outcomes).untried ≡ drop (length outcomes) names
left_is names [] = refl
left_is [] (o ∷ outcomes) = refl
left_is (name ∷ names) (true ∷ outcomes) = left_is names outcomes
left_is (name ∷ names) (false ∷ outcomes) = left_is names outcomes

-- each name stands in one of the three lists
pub has_taken : (names : List (List ℕ)) (outcomes : List Bool) (n : List ℕ) → length outcomes ≤ length names → has (taken (tried_so names outcomes)) n ≡ has names n
has_taken names [] n le = refl
has_taken [] (o ∷ outcomes) n le = absurd (omega arith)
has_taken (name ∷ names) (true ∷ outcomes) n le = ap (λ b. is name n || b) (has_taken names outcomes n (omega arith))
has_taken (name ∷ names) (false ∷ outcomes) n le =
    let c = tried_so names outcomes in
    has_append (c.done ++ name ∷ c.failed) c.untried n
    ∙ ap (λ b. b || has c.untried n) (has_append c.done (name ∷ c.failed) n)
    ∙ turn (has c.done n) (is name n) (has c.failed n) (has c.untried n) (has names n) (ap (λ b. b || has c.untried n) (sym (has_append c.done c.failed n)) ∙ sym (has_append (c.done ++ c.failed) c.untried n) ∙ has_taken names outcomes n (omega arith)) where
      turn : (a b d e x : Bool) → ((a || d) || e) ≡ x → ((a || (b || d)) || e) ≡ (b || x)
      turn a b d e x h = grind arith

-- one name more was tried
pub tried_more : (names : List (List ℕ)) (outcomes : List Bool) (o : Bool) (name : List ℕ) (left : List (List ℕ)) → (tried_so names outcomes).untried ≡ name ∷ left → tried_so names (outcomes ++ o ∷ []) ≡ having_tried (tried_so names outcomes) name left o
tried_more [] [] o name left e = absurd cc
tried_more (first ∷ names) [] o name left e = once o where
  once : (b : Bool) → tried_so (first ∷ names) (b ∷ []) ≡ having_tried (record { untried = first ∷ names; done = []; failed = [] }) name left b
  once true = cc e
  once false = cc e
tried_more [] (p ∷ outcomes) o name left e = absurd cc
tried_more (first ∷ names) (true ∷ outcomes) o name left e = rw (tried_more names outcomes o name left e) (once o) where
  once : (b : Bool) → trying_first first true (having_tried (tried_so names outcomes) name left b) ≡ having_tried (trying_first first true (tried_so names outcomes)) name left b
  once true = refl
  once false = refl
tried_more (first ∷ names) (false ∷ outcomes) o name left e = rw (tried_more names outcomes o name left e) (once o) where
  once : (b : Bool) → trying_first first false (having_tried (tried_so names outcomes) name left b) ≡ having_tried (trying_first first false (tried_so names outcomes)) name left b
  once true = refl
  once false = refl

-- the name that is tried next
pub next_is : (names : List (List ℕ)) (outcomes : List Bool) (tried : ℕ) (d : List ℕ) → tried < length names → tried ≤ length outcomes → (tried_so names (take tried outcomes)).untried ≡ get_or names tried d ∷ drop (suc tried) names
next_is names outcomes tried d lt le = left_is names (take tried outcomes) ∙ ap (λ n. drop n names) (length-take-le tried outcomes le) ∙ drop-cons names tried d lt

-- how many names are left
pub left_count : (names : List (List ℕ)) (outcomes : List Bool) (tried : ℕ) → IsCollection names outcomes tried → length (tried_so names (take tried outcomes)).untried + tried ≡ length names
left_count names outcomes tried is =
    let all : tried ≤ length outcomes = omega (arith, is.each, is.within) in
    let count : length (tried_so names (take tried outcomes)).untried ≡ length (drop tried names) = ap length (left_is names (take tried outcomes)) ∙ ap (λ n. length (drop n names)) (length-take-le tried outcomes all) in
    omega (arith, count, length-drop tried names, is.within)

-- one name more was tried, and its outcome noted
pub marked : (names : List (List ℕ)) (outcomes : List Bool) (tried : ℕ) (o : Bool) (name : List ℕ) (left : List (List ℕ)) → IsCollection names outcomes tried → (tried_so names (take tried outcomes)).untried ≡ name ∷ left
    → tried_so names (take (tried + 1) (set outcomes tried o)) ≡ having_tried (tried_so names (take tried outcomes)) name left o
marked names outcomes tried o name left is next =
    let some : length (tried_so names (take tried outcomes)).untried ≡ suc (length left) = ap length next in
    let lt : tried < length outcomes = omega (arith, left_count names outcomes tried is, is.each, some) in
    ap (tried_so names) (take_more_set outcomes tried o lt) ∙ tried_more names (take tried outcomes) o name left next

-- none is done where no outcome says so, and some are where one does
pub none_done : (names : List (List ℕ)) (outcomes : List Bool) → list_any (λ b. b) outcomes ≡ false → (tried_so names outcomes).done ≡ []
none_done names [] h = refl
none_done [] (o ∷ outcomes) h = refl
none_done (name ∷ names) (true ∷ outcomes) h = absurd (true≢false h)
none_done (name ∷ names) (false ∷ outcomes) h = none_done names outcomes h

pub some_done : (names : List (List ℕ)) (outcomes : List Bool) → length outcomes ≤ length names → list_any (λ b. b) outcomes ≡ true → (tried_so names outcomes).done ≢ []
some_done names [] le h none = absurd (true≢false (sym h))
some_done [] (o ∷ outcomes) le h none = absurd (omega arith)
some_done (name ∷ names) (true ∷ outcomes) le h none = absurd cc
some_done (name ∷ names) (false ∷ outcomes) le h none = some_done names outcomes (omega arith) h none

-- the texts of what was told, to which one was added or not
pub told_done : (gone : Bool) (c : Collection) (name : List ℕ) (left : List (List ℕ)) (texts more : List (String Global)) (text : String Global) → more ≡ (if gone then texts ++ text ∷ [] else texts) → names_of texts ≡ c.done → string_bytes text ≡ name
    → names_of more ≡ (having_tried c name left gone).done
told_done true c name left texts more text is so same = ap names_of is ∙ map-append string_bytes texts (text ∷ []) ∙ rw (so, same) refl
told_done false c name left texts more text is so same = ap names_of is ∙ so

pub told_failed : (gone : Bool) (c : Collection) (name : List ℕ) (left : List (List ℕ)) (texts more : List (String Global)) (text : String Global) → more ≡ (if gone then texts else texts ++ text ∷ []) → names_of texts ≡ c.failed → string_bytes text ≡ name
    → names_of more ≡ (having_tried c name left gone).failed
told_failed true c name left texts more text is so same = ap names_of is ∙ so
told_failed false c name left texts more text is so same = ap names_of is ∙ map-append string_bytes texts (text ∷ []) ∙ rw (so, same) refl

-- so after one outcome more
pub outcome_more : (names : List (List ℕ)) (outcomes : List Bool) (i : ℕ) (d : List ℕ) (b : Bool) → i < length outcomes → length outcomes ≤ length names
    → tried_so names (take (i + 1) outcomes) ≡ having_tried (tried_so names (take i outcomes)) (get_or names i d) (drop (suc i) names) (get_or outcomes i b)
outcome_more names outcomes i d b lt le = ap (tried_so names) (take_more outcomes i b lt) ∙ tried_more names (take i outcomes) (get_or outcomes i b) (get_or names i d) (drop (suc i) names) (next_is names outcomes i d (omega arith) (omega arith))

-- a managed name is plain
pub plain_at : (names : List (List ℕ)) (i : ℕ) (d : List ℕ) → i < length names → list_all is_plain names ≡ true → is_plain (get_or names i d) ≡ true
plain_at names i d lt h = true_from_ne_false _ (λ e. both_ways _ (list_all_at is_plain names i d lt e) h)

-- ---- none is told as both

-- what is done was taken
done_among : (names : List (List ℕ)) (outcomes : List Bool) (n : List ℕ) → has (tried_so names outcomes).done n ≡ true → has names n ≡ true
done_among names [] n h = absurd (true≢false (sym h))
done_among [] (o ∷ outcomes) n h = absurd (true≢false (sym h))
done_among (name ∷ names) (true ∷ outcomes) n h = ⊎_elim (λ it. or_left _ _ it) (λ later. or_right _ _ (done_among names outcomes n later)) (or_cases _ _ h)
done_among (name ∷ names) (false ∷ outcomes) n h = or_right _ _ (done_among names outcomes n h)

-- and so was what failed
failed_among : (names : List (List ℕ)) (outcomes : List Bool) (n : List ℕ) → has (tried_so names outcomes).failed n ≡ true → has names n ≡ true
failed_among names [] n h = absurd (true≢false (sym h))
failed_among [] (o ∷ outcomes) n h = absurd (true≢false (sym h))
failed_among (name ∷ names) (true ∷ outcomes) n h = or_right _ _ (failed_among names outcomes n h)
failed_among (name ∷ names) (false ∷ outcomes) n h = ⊎_elim (λ it. or_left _ _ it) (λ later. or_right _ _ (failed_among names outcomes n later)) (or_cases _ _ h)

-- where names stand once, what failed isn't done
pub tried_apart : (names : List (List ℕ)) (outcomes : List Bool) (n : List ℕ) → AreOnce names → has (tried_so names outcomes).failed n ≡ true → has (tried_so names outcomes).done n ≡ false
tried_apart names [] n once h = refl
tried_apart [] (o ∷ outcomes) n once h = refl
tried_apart (name ∷ names) (true ∷ outcomes) n once h =
    elim (is name n) as (λ b. is name n ≡ b → (b || has (tried_so names outcomes).done n) ≡ false) [
      | true ↦ λ e. let absent : has names n ≡ false = rw (sym (is_text name n e)) once.0 in absurd (true≢false (sym (failed_among names outcomes n h) ∙ absent))
      | false ↦ λ e. tried_apart names outcomes n once.1 h
    ] refl
tried_apart (name ∷ names) (false ∷ outcomes) n once h =
    elim (is name n) as (λ b. is name n ≡ b → (b || has (tried_so names outcomes).failed n) ≡ true → has (tried_so names outcomes).done n ≡ false) [
      | true ↦ λ e k. let absent : has names n ≡ false = rw (sym (is_text name n e)) once.0 in false_from_ne_true _ (λ d. true≢false (sym (done_among names outcomes n d) ∙ absent))
      | false ↦ λ e k. tried_apart names outcomes n once.1 k
    ] refl h
