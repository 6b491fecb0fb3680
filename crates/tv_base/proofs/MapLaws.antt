-- A map whose calls answer what a function says.
use Rattle.std.proofs.Common.{◌≡◌, List, [], ◌∷◌, ◌++◌, Result, Ok, Err, Option, Some, IfOk, IfErr, ◌⊎◌, inl, inr, map, true, refl, sym, ap, subst, ◌∙◌}
use Rattle.std.specs.List.{AllZip}
use Rattle.std.specs.Iterator.Runs.{Run, WholeRun, EveryRun, ItemsAre}
use Rattle.tv_base.specs.Maps.{Answers, IsFirstError, IsOf, first_error}

module _ {A T E : Type 0} (gives : A → Result T E → Type 0) (g : A → Result T E) (of : IsOf gives g) where
  values_are : (args : List A) (values : List T) → AllZip (λ x y. gives x (Ok y)) args values → map g args ≡ map Ok values
  values_are [] [] all = refl
  values_are [] (y ∷ ys) all = absurd all
  values_are (x ∷ xs) [] all = absurd all
  values_are (x ∷ xs) (y ∷ ys) all = ap (λ r. r ∷ map g xs) (sym (of x (Ok y) all.0)) ∙ ap (λ l. Ok y ∷ l) (values_are xs ys all.1)

  error_is : (before : List A) (values : List T) (at : A) (rest : List A) (e : E) → AllZip (λ x y. gives x (Ok y)) before values
      → gives at (Err e) → first_error (map g (before ++ at ∷ rest)) ≡ Some e
  error_is [] [] at rest e all failed = ap (λ r. first_error (r ∷ map g rest)) (sym (of at (Err e) failed))
  error_is [] (y ∷ ys) at rest e all failed = absurd all
  error_is (x ∷ xs) [] at rest e all failed = absurd all
  error_is (x ∷ xs) (y ∷ ys) at rest e all failed =
      ap (λ r. first_error (r ∷ map g (xs ++ at ∷ rest))) (sym (of x (Ok y) all.0)) ∙ error_is xs ys at rest e all.1 failed

  module _ {S : Type 0} (steps : S → Option A → S → Type 0) (rest : S → List A) (runs : EveryRun steps (λ p. ItemsAre p (rest p.from)))
      (s : S) (args : List A) (is : rest s ≡ args) where
    drawn : (p : Run steps) → p.from ≡ s → p.whole ≡ true → p.items ≡ args
    drawn p from whole = (runs p p.seen).4 whole ∙ (ap rest from ∙ is)

    pub mapped_values : {V : Type 0} (items : V → List T) (r : Result V E) → IfOk r (λ v. WholeRun steps s (λ run. Answers gives run.items (items v)))
        → IfOk r (λ v. map g args ≡ map Ok (items v))
    mapped_values items (Ok v) h = values_are args (items v) (subst (λ l. AllZip (λ x y. gives x (Ok y)) l (items v)) (drawn h.0 h.1 h.2) h.3.each)
    mapped_values items (Err e) h = tt

    pub mapped_error : {V : Type 0} (m : E) (r : Result V E) → IfErr r (λ e. (e ≡ m) ⊎ WholeRun steps s (λ run. IsFirstError gives run.items e))
        → IfErr r (λ e. (e ≡ m) ⊎ (first_error (map g args) ≡ Some e))
    mapped_error m (Ok v) h = tt
    mapped_error m (Err e) (inl h) = inl h
    mapped_error m (Err e) (inr h) =
        inr (ap (λ l. first_error (map g l)) (sym (drawn h.0 h.1 h.2) ∙ h.3.arguments)
        ∙ error_is h.3.before h.3.values h.3.at h.3.rest e h.3.answered.each h.3.failed)
