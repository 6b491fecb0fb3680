-- What a search answers: of all segments, and the first error.
use Rattle.std.proofs.Common.{◌≡◌, ℕ, suc, List, [], ◌∷◌, ◌++◌, length, map, Result, Ok, Err, Some, IfOk, IfErr, ◌⊎◌, inl, inr, refl, sym, ap, subst, ◌∙◌}
use Rattle.std.specs.List.{AllZip, enumerate_from}
use Rattle.std.proofs.lemmas.List.FromFn.{length-enumerate_from}
use Rattle.tv_base.specs.Maps.{IsFirstError, IsOf, first_error}
use Rattle.tv_reader.specs.Searching.{GivesChild, IsRefused, MergesBy, Searched}

as_long : {A T : Type 0} (R : A → T → Type 0) (xs : List A) (ys : List T) → AllZip R xs ys → length ys ≡ length xs
as_long R [] [] all = refl
as_long R [] (y ∷ ys) all = absurd all
as_long R (x ∷ xs) [] all = absurd all
as_long R (x ∷ xs) (y ∷ ys) all = ap suc (as_long R xs ys all.1)

module _ {A T E : Type 0} (gives : A → Result T E → Type 0) (g : A → Result T E) (of : IsOf gives g) where
  first_is : (before : List A) (values : List T) (at : A) (rest : List A) (e : E) → AllZip (λ x y. gives x (Ok y)) before values
      → gives at (Err e) → first_error (map g (before ++ at ∷ rest)) ≡ Some e
  first_is [] [] at rest e all failed = ap (λ r. first_error (r ∷ map g rest)) (sym (of at (Err e) failed))
  first_is [] (y ∷ ys) at rest e all failed = absurd all
  first_is (x ∷ xs) [] at rest e all failed = absurd all
  first_is (x ∷ xs) (y ∷ ys) at rest e all failed =
      ap (λ r. first_error (r ∷ map g (xs ++ at ∷ rest))) (sym (of x (Ok y) all.0)) ∙ first_is xs ys at rest e all.1 failed

  pub is_first : (args : List A) (e : E) → IsFirstError gives args e → first_error (map g args) ≡ Some e
  is_first args e h = ap (λ l. first_error (map g l)) h.arguments ∙ first_is h.before h.values h.at h.rest e h.answered.each h.failed

same_error : {A E : Type 0} (e f : E) → ◌≡◌ {A = Result A E} (Err e) (Err f) → e ≡ f
same_error e f is = cc

no_value : {A E : Type 0} (v : A) (f : E) → Ok v ≡ Err f → ⊥
no_value v f is = cc

module _ {W S C F E : Type 0} (memory : E) (weighed : Result W E → Type 0) (checked : Result (Unit {0}) E → Type 0) (matched : W → ℕ → S → Result (List ℕ) E → Type 0)
    (collected : List ℕ → ℕ → S → Result C E → Type 0) (merged : List C → Result F E → Type 0) (segments : List S) where
  abbrev OfAll : F → Type 0
  OfAll v = (w : W) × (children : List C) × weighed (Ok w) × (length children ≡ length segments)
      × AllZip (λ at child. GivesChild (matched w) collected at (Ok child)) (enumerate_from 0 segments) children × merged children (Ok v)

  all_merged : (v : F) (w : W) → weighed (Ok w) → MergesBy (matched w) collected merged segments (Ok v) → OfAll v
  all_merged v w given (inl h) = (w, h.0, given, as_long _ _ _ h.1.each ∙ length-enumerate_from 0 segments, h.1.each, h.2)
  all_merged v w given (inr h) = absurd (no_value v h.0 h.2)

  found_all : (v : F) → Searched memory weighed checked matched collected merged segments (Ok v) → OfAll v
  found_all v (inl h) = absurd (no_value v memory h)
  found_all v (inr (inl h)) = absurd (no_value v h.0 h.2)
  found_all v (inr (inr (w, given, inl h))) = absurd (no_value v h.0 h.2)
  found_all v (inr (inr (w, given, inr h))) = all_merged v w given h.1

  pub drops_none : (r : Result F E) → Searched memory weighed checked matched collected merged segments r
      → IfOk r (λ v. OfAll v)
  drops_none (Ok v) h = found_all v h
  drops_none (Err e) h = tt

  module _ (g : ℕ × S → Result C E) (of : (w : W) → weighed (Ok w) → IsOf (GivesChild (matched w) collected) g) where
    first_merged : (e : E) (w : W) → weighed (Ok w) → MergesBy (matched w) collected merged segments (Err e)
        → IsRefused memory weighed checked merged e ⊎ (first_error (map g (enumerate_from 0 segments)) ≡ Some e)
    first_merged e w given (inl h) = inl (inr (inr (inr (h.0, h.2))))
    first_merged e w given (inr h) =
        inr (is_first (GivesChild (matched w) collected) g (of w given) (enumerate_from 0 segments) h.0 h.1 ∙ ap Some (sym (same_error e h.0 h.2)))

    found_first : (e : E) → Searched memory weighed checked matched collected merged segments (Err e)
        → IsRefused memory weighed checked merged e ⊎ (first_error (map g (enumerate_from 0 segments)) ≡ Some e)
    found_first e (inl h) = inl (inl (same_error e memory h))
    found_first e (inr (inl h)) = inl (inr (inl (subst (λ x. weighed (Err x)) (sym (same_error e h.0 h.2)) h.1)))
    found_first e (inr (inr (w, given, inl h))) = inl (inr (inr (inl (subst (λ x. checked (Err x)) (sym (same_error e h.0 h.2)) h.1))))
    found_first e (inr (inr (w, given, inr h))) = first_merged e w given h.1

    pub fails_first : (r : Result F E) → Searched memory weighed checked matched collected merged segments r
        → IfErr r (λ e. IsRefused memory weighed checked merged e ⊎ (first_error (map g (enumerate_from 0 segments)) ≡ Some e))
    fails_first (Ok v) h = tt
    fails_first (Err e) h = found_first e h
