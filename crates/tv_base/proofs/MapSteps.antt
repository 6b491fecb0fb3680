-- A map that has come some way through its arguments.
use Rattle.std.proofs.Common.{◌≡◌, ℕ, List, [], ◌∷◌, ◌++◌, length, Result, Ok, Err, refl, sym, ap, subst, ◌∙◌, append_assoc, Option, IfOk, IfErr, ◌⊎◌, inl, inr}
use Rattle.std.specs.Iterator.Runs.{WholeRun}
use Rattle.std.proofs.lemmas.Slice.Zip.{all_zipped_more}
use Rattle.tv_base.specs.Maps.{Answers, IsFirstError}

module _ {A T E : Type 0} (gives : A → Result T E → Type 0) where
  -- the arguments before the rest have these values
  pub record IsUnderWay (args rest : List A) (values : List T) : Type 0 where
    pub before : List A
    pub arguments : args ≡ before ++ rest
    pub answered : Answers gives before values

  pub begins : (args : List A) → IsUnderWay args args []
  begins args = record { before = []; arguments = refl; answered = record { each = tt } }

  pub goes_on : (args old rest : List A) (values new : List T) (x : A) (v : T) → IsUnderWay args old values
      → old ≡ x ∷ rest → new ≡ values ++ v ∷ [] → gives x (Ok v) → IsUnderWay args rest new
  goes_on args old rest values new x v w at more given = record {
    before = w.before ++ x ∷ [];
    arguments = w.arguments ∙ (ap (λ l. w.before ++ l) at ∙ sym (append_assoc w.before (x ∷ []) rest));
    answered = subst (λ l. Answers gives (w.before ++ x ∷ []) l) (sym more)
        (record { each = all_zipped_more (λ a b. gives a (Ok b)) w.before values x v w.answered.each given });
  }

  module _ {S V : Type 0} (steps : S → Option A → S → Type 0) (s : S) (args : List A) where
    -- what a map over the arguments that an iterator gave says of the iterator
    pub drawn_answers : (n : ℕ) (items : V → List T) (r : Result V E) → WholeRun steps s (λ run. (args ≡ run.items) × (n ≡ length run.items))
        → IfOk r (λ v. Answers gives args (items v))
        → IfOk r (λ v. WholeRun steps s (λ run. Answers gives run.items (items v)))
    drawn_answers n items (Ok v) run h = (run.0, run.1, run.2, subst (λ l. Answers gives l (items v)) run.3.0 h)
    drawn_answers n items (Err e) run h = tt

    pub drawn_error : (n : ℕ) (m : E) (r : Result V E) → WholeRun steps s (λ run. (args ≡ run.items) × (n ≡ length run.items))
        → IfErr r (λ e. (e ≡ m) ⊎ IsFirstError gives args e)
        → IfErr r (λ e. (e ≡ m) ⊎ WholeRun steps s (λ run. IsFirstError gives run.items e))
    drawn_error n m (Ok v) run h = tt
    drawn_error n m (Err e) run (inl h) = inl h
    drawn_error n m (Err e) run (inr h) = inr (run.0, run.1, run.2, subst (λ l. IsFirstError gives l e) run.3.0 h)
