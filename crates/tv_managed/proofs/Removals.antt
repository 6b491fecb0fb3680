-- Names that are taken out of a list, and names that are tried.
use Rattle.std.proofs.Common.{◌≡◌, ℕ, Bool, true, false, not, cond, ◌||◌, List, [], ◌∷◌, ◌++◌, map, length, refl, sym, ap, subst, ◌∙◌, arith, string_bytes, String, Global}
use Rattle.std.specs.List.{AllByRecursion}
use Rattle.std.specs.List.Sorted.{IsStrictlySortedBy}
use Rattle.std.specs.Cmp.Lexicographic.{texts_ties}
use Rattle.std.specs.Set.{remove_key}
use Rattle.std.specs.BTreeMap.{is_at}
use Rattle.std.specs.BTreeSet.{insert_key}
use Rattle.std.specs.Ordering.{is_eq}
use Rattle.std.specs.declared.cmp.Ordering.TheVariants.{Less}
use Rattle.std.proofs.Math.Bool.{or-false}
use Rattle.std.proofs.lemmas.List.Elements.{All-filter}
use Rattle.std.proofs.lemmas.List.Kept.{IsStrictlySortedBy-filter}
use Rattle.std.proofs.lemmas.List.Sums.{AllPass-from_list_all, list_all-from_AllPass}
use Rattle.tv_formats.specs.Names.{byte_cmp, is, has, is_plain}
use Rattle.tv_formats.specs.Collections.{Collection, done_of, failed_of, having_tried, without}
use Rattle.tv_formats.proofs.Entries.{is_text, remove_inserted, sorted_put}
use Rattle.tv_formats.proofs.CollectedNames.{has_append}
use Rattle.tv_managed.specs.Names.{AreManaged}
use Rattle.tv_managed.proofs.SetsOfTexts.{bytes_removed}

-- without no names
pub without_none : (names : List (List ℕ)) → without [] names ≡ names
without_none [] = refl
without_none (x ∷ names) = ap (λ (l : List (List ℕ)). x ∷ l) (without_none names)

-- without some names, and then without others
pub without_twice : (xs ys names : List (List ℕ)) → without ys (without xs names) ≡ without (xs ++ ys) names
without_twice xs ys [] = refl
without_twice xs ys (n ∷ names) = rw (has_append xs ys n) (kept (has xs n) (has ys n) _ _ refl (without_twice xs ys names)) where
  kept : (a b : Bool) (rest rest' : List (List ℕ)) → has ys n ≡ b → without ys rest ≡ rest' → without ys (cond (not a) (n ∷ rest) rest) ≡ cond (not (a || b)) (n ∷ rest') rest'
  kept true b rest rest' e f = f
  kept false true rest rest' e f = rw e f
  kept false false rest rest' e f = rw e (ap (λ (l : List (List ℕ)). n ∷ l) f)

-- a name below others isn't among them
above_others : (names : List (List ℕ)) (x : List ℕ) → AllByRecursion (λ y. byte_cmp x y ≡ Less) names → without (x ∷ []) names ≡ names
above_others [] x h = refl
above_others (y ∷ names) x h = rw (or-false (is x y), texts_ties x y ∙ ap is_eq h.0) (ap (λ (l : List (List ℕ)). y ∷ l) (above_others names x h.1))

-- what a set does that takes out a name
pub removed_without : (names : List (List ℕ)) (x : List ℕ) → IsStrictlySortedBy byte_cmp names → remove_key (is_at (byte_cmp x)) names ≡ without (x ∷ []) names
unfolding IsStrictlySortedBy
removed_without [] x o = refl
removed_without (y ∷ names) x o =
    elim (is x y) as (λ b. is x y ≡ b → cond (is_eq (byte_cmp x y)) names (y ∷ remove_key (is_at (byte_cmp x)) names) ≡ cond (not (b || false)) (y ∷ without (x ∷ []) names) (without (x ∷ []) names)) [
      | true ↦ λ e. rw (sym (texts_ties x y) ∙ e) (sym (subst (λ (k : List ℕ). without (k ∷ []) names ≡ names) (sym (is_text x y e)) (above_others names y o.0)))
      | false ↦ λ e. rw (sym (texts_ties x y) ∙ e) (ap (λ (l : List (List ℕ)). y ∷ l) (removed_without names x o.1))
    ] refl

-- a name that was put, and taken out again
pub without_inserted : (names put left : List (List ℕ)) (name : List ℕ) → AreManaged names → has names name ≡ false → put ≡ insert_key byte_cmp names name → left ≡ without (name ∷ []) put → left ≡ names
without_inserted names put left name h none is cut =
    cut ∙ ap (without (name ∷ [])) is ∙ sym (removed_without (insert_key byte_cmp names name) name (sorted_put names name h.ordered)) ∙ remove_inserted names name none

pub texts_without : (keys new : List (String Global)) (name : List ℕ) → new ≡ remove_key (is_at (λ k. byte_cmp name (string_bytes k))) keys → AreManaged (map string_bytes keys) → map string_bytes new ≡ without (name ∷ []) (map string_bytes keys)
texts_without keys new name cut h = rw cut (bytes_removed keys name ∙ removed_without (map string_bytes keys) name h.ordered)

-- names that are left of managed ones
pub still_managed : (names gone : List (List ℕ)) → AreManaged names → AreManaged (without gone names)
still_managed names gone h = record { plain = list_all-from_AllPass is_plain _ (All-filter (λ n. not (has gone n)) (λ n. is_plain n ≡ true) names (AllPass-from_list_all is_plain names h.plain)); ordered = IsStrictlySortedBy-filter byte_cmp (λ n. not (has gone n)) names h.ordered }

pub texts_left : (keys new : List (String Global)) (name : List ℕ) → new ≡ remove_key (is_at (λ k. byte_cmp name (string_bytes k))) keys → AreManaged (map string_bytes keys) → AreManaged (map string_bytes new)
texts_left keys new name cut h = rw (texts_without keys new name cut h) (still_managed (map string_bytes keys) (name ∷ []) h)

-- one name more is without
pub without_more : (done names : List (List ℕ)) (name : List ℕ) (left : List (List ℕ)) (c : Collection) → c.done ≡ done → without (having_tried c name left true).done names ≡ without (name ∷ []) (without done names)
without_more done names name left c is = rw is (sym (without_twice done (name ∷ []) names))

-- what was done of some names and of others after them, and what failed
pub tried_append : (names : List (List ℕ)) (os : List Bool) (more : List (List ℕ)) (others : List Bool) → length os ≡ length names
    → (done_of (names ++ more) (os ++ others) ≡ done_of names os ++ done_of more others) × (failed_of (names ++ more) (os ++ others) ≡ failed_of names os ++ failed_of more others)
tried_append [] [] more others e = (refl, refl)
tried_append (n ∷ names) (true ∷ os) more others e = let k = tried_append names os more others (omega arith) in (ap (λ (ns : List (List ℕ)). n ∷ ns) k.0, k.1)
tried_append (n ∷ names) (false ∷ os) more others e = let k = tried_append names os more others (omega arith) in (k.0, ap (λ (ns : List (List ℕ)). n ∷ ns) k.1)
tried_append [] (o ∷ os) more others e = absurd (omega arith)
tried_append (n ∷ names) [] more others e = absurd (omega arith)
