-- A warmer's error is one of a warmer's.
use Rattle.std.proofs.Common.{◌≡◌, ◌⊎◌, inl, inr, ℕ, Bool, true, false, ◌||◌, List, [], ◌∷◌, map, Option, Some, None, Result, Ok, Err, refl, sym, subst, ◌∙◌}
use Rattle.std.specs.Prelude.{is_some}
use Rattle.std.specs.List.{list_any}
use Rattle.tv_base.specs.declared.error.TantivyError.{TantivyError}
use Rattle.tv_base.specs.declared.error.TantivyError.TheVariants.{Memory}
use Rattle.tv_reader.specs.Publishing.{IsOfOne}
use Rattle.tv_reader.specs.Searchers.{CommitShown}
use Rattle.tv_reader.specs.Warming.{Called, InOrder, Stopped, Warmed, WarmerCall, WarmersState, Warms, new_warmers}

later : (b c : Bool) → c ≡ true → (b || c) ≡ true
later true c h = refl
later false c h = h

first : (b c : Bool) → b ≡ true → (b || c) ≡ true
first true c h = refl
first false c h = absurd cc

abbrev err_of : {A E : Type 0} → E → Result A E
err_of e = Err e

same_error : {A E : Type 0} (e f : E) → err_of {A = A} e ≡ err_of f → f ≡ e
same_error e f h = cc

module _ {W : Type 0} (errors : W → ℕ) (test : W → TantivyError → Bool) (called_for : W → Option (List WarmerCall)) where
  one_stopped : (call : WarmerCall) (ws : List W) (after : List (Option W)) (e : TantivyError) → InOrder (Called errors test called_for call) (Stopped errors test called_for call) (map Some ws) after (Err e) → list_any (λ w. test w e) ws ≡ true
  one_stopped call [] after e h = absurd (cc)
  one_stopped call (w ∷ ws) [] e h = absurd h
  one_stopped call (w ∷ ws) (b ∷ after) e (inl h) = later (test w e) (list_any (λ v. test v e) ws) (one_stopped call ws after e h.1)
  one_stopped call (w ∷ ws) (None ∷ after) e (inr h) = absurd h.2
  one_stopped call (w ∷ ws) (Some b ∷ after) e (inr h) =
      first (test w e) (list_any (λ v. test v e) ws)
      (subst (λ (f : TantivyError). test w f ≡ true) (same_error e h.0 h.1) (sym (h.2.3 h.0) ∙ h.2.2))

  pub is_of_one : (shown : CommitShown) (ws : List W) (after : WarmersState W) (e : TantivyError) → Warms errors test called_for shown (new_warmers ws) after (Err e) → (e ≡ Memory) ⊎ IsOfOne test ws e
  is_of_one shown ws after e (inl h) = memory h.1 where
    memory : ((list_any is_some (new_warmers ws).left ≡ false) × (err_of {A = Unit {0}} e ≡ Ok tt)) ⊎ (err_of {A = Unit {0}} e ≡ err_of Memory) → (e ≡ Memory) ⊎ IsOfOne test ws e
    memory (inl k) = absurd (cc (k.1))
    memory (inr k) = inl (sym (same_error e Memory k))
  is_of_one shown ws after e (inr h) = inr (record { tests = one_stopped (Warmed shown) ws after.left e h.2 })
