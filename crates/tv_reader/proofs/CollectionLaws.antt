-- When warmers are told of live generations.
use Rattle.std.proofs.Common.{◌≡◌, inl, inr, ℕ, Bool, true, false, ◌||◌, List, [], ◌∷◌, ◌++◌, map, not, eqb, Option, Result, Ok, Err, IfOk, refl, ap, ◌∙◌, arith}
use Rattle.std.specs.Prelude.{is_some}
use Rattle.std.specs.List.{list_any}
use Rattle.tv_base.specs.declared.error.TantivyError.{TantivyError}
use Rattle.tv_reader.specs.Searchers.{CommitShown, Generation}
use Rattle.tv_reader.specs.Warming.{Collects, WarmerCall, WarmersState, Warms, has_ended}

not_both : (b : Bool) → b ≡ true → b ≡ false → ⊥
not_both true h k = absurd cc
not_both false h k = absurd cc

first : (b c : Bool) → b ≡ true → (b || c) ≡ true
first true c h = refl
first false c h = absurd cc

later : (b c : Bool) → c ≡ true → (b || c) ≡ true
later true c h = refl
later false c h = h

neither : (b c : Bool) → b ≡ true → c ≡ false → (not b || c) ≡ false
neither true c h k = k
neither false c h k = absurd cc

-- what was warmed has ended where nothing is live
ended : (xs : List ℕ) (y : ℕ) → has_ended (xs ++ y ∷ []) [] ≡ true
ended [] y = refl
ended (x ∷ xs) y = refl

-- none has ended of some that are live
all_live : (xs ys : List ℕ) → ((x : ℕ) → list_any (λ o. eqb o x) xs ≡ true → list_any (λ o. eqb o x) ys ≡ true) → has_ended xs ys ≡ false
all_live [] ys h = refl
all_live (x ∷ xs) ys h =
    let here : eqb x x ≡ true = grind arith in
    neither (list_any (λ o. eqb o x) ys) (has_ended xs ys) (h x (first (eqb x x) (list_any (λ o. eqb o x) xs) here))
    (all_live xs ys (λ z is. h z (later (eqb x z) (list_any (λ o. eqb o z) xs) is)))

none_ended : (ids : List ℕ) → has_ended ids ids ≡ false
none_ended ids = all_live ids ids (λ x is. is)

module _ {W : Type 0} (errors : W → ℕ) (test : W → TantivyError → Bool) (called_for : W → Option (List WarmerCall)) where
  -- where nothing is live, what was just warmed has ended
  pub comes : (shown : CommitShown) (old mid new : WarmersState W) (called : Bool) → Warms errors test called_for shown old mid (Ok tt) → Collects errors test called_for [] mid new called → list_any is_some old.left ≡ true → called ≡ true
  comes shown old mid new true warms collects some = refl
  comes shown old mid new false (inl (is, inl k)) collects some = absurd (not_both (list_any is_some old.left) some k.0)
  comes shown old mid new false (inl (is, inr k)) collects some = absurd cc
  comes shown old mid new false (inr h) collects some =
      absurd (not_both (has_ended mid.warmed []) (ap (λ l. has_ended l []) h.1 ∙ ended old.warmed shown.generation.id) collects.0)

  -- of the same generations, the warmers are told once
  pub comes_once : (live : List Generation) (old mid new : WarmersState W) (first second : Bool) → Collects errors test called_for live old mid first → Collects errors test called_for live mid new second → second ≡ false
  comes_once live old mid new first false one two = refl
  comes_once live old mid new true true one two =
      absurd (not_both (has_ended mid.warmed (map (λ g. g.id) live)) two.0
      (ap (λ l. has_ended l (map (λ g. g.id) live)) one.1 ∙ none_ended (map (λ g. g.id) live)))
  comes_once live old mid new false true one two =
      absurd (not_both (has_ended mid.warmed (map (λ g. g.id) live)) two.0
      (ap (λ (s : WarmersState W). has_ended s.warmed (map (λ g. g.id) live)) one.1 ∙ one.0))

  pub once_more : {E : Type 0} (live : List Generation) (old mid new : WarmersState W) (one : Bool) (result : Result Bool E) → Collects errors test called_for live old mid one → IfOk result (Collects errors test called_for live mid new) → IfOk result (λ called. called ≡ false)
  once_more live old mid new one (Ok second) told again = comes_once live old mid new one second told again
  once_more live old mid new one (Err e) told again = tt
