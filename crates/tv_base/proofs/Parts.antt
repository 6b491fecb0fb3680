-- A map over parts of a list, whose answers are put together.
use Rattle.std.proofs.Common.{◌≡◌, ◌⊎◌, inl, inr, List, [], ◌∷◌, ◌++◌, length, Result, Ok, Err, refl, sym, ap, subst, ◌∙◌, append_assoc, append-nil, arith, suc, IfOk, IfErr}
use Rattle.std.specs.List.{AllZip, flat_map}
use denote.Param.Members.{Shared}
use Rattle.std.specs.Fn.{FnReturns}
use Rattle.std.specs.Fork.{GivesJobs}
use Rattle.tv_base.specs.Maps.{Answers, IsFirstError}

-- what each call of f may give, said of each job and its result
pub each_job : {F J R : Type 0} (g : Shared F (J × Unit {0}) R) (f : F) (P : J → R → Type 0)
    → ((j : J) (r : R) → FnReturns g f (j, tt) r → P j r) → (js : List J) (rs : List R)
    → length rs ≡ length js → GivesJobs g f js rs → AllZip P js rs
each_job g f P says [] [] same given = tt
each_job g f P says [] (r ∷ rs) same given = absurd (omega arith)
each_job g f P says (j ∷ js) [] same given = absurd (omega arith)
each_job g f P says (j ∷ js) (r ∷ rs) same given =
    let first = (given 0 r (omega arith)).1 in (
      subst (λ x. P x r) (sym (first.job_is j)) (says first.job r first.call),
      each_job g f P says js rs (omega arith) (λ i d lt.
          let later = (given (suc i) d (omega arith)).1 in
          (refl, record { job = later.job; job_read = later.job_read; job_is = later.job_is; call = later.call })),
    )

module _ {A V : Type 0} (args_of : V → List A) where
  flat_more : (ps : List V) (p : V) → flat_map args_of (ps ++ p ∷ []) ≡ flat_map args_of ps ++ args_of p
  flat_more [] p = append-nil (args_of p)
  flat_more (q ∷ ps) p = ap (λ l. args_of q ++ l) (flat_more ps p) ∙ sym (append_assoc (args_of q) (flat_map args_of ps) (args_of p))

  -- one more argument in the part that is being filled
  pub same_part : (ps : List V) (part new old rest all : List A) (x : A) → flat_map args_of ps ++ (part ++ old) ≡ all
      → old ≡ x ∷ rest → new ≡ part ++ x ∷ [] → flat_map args_of ps ++ (new ++ rest) ≡ all
  same_part ps part new old rest all x h at more =
      ap (λ l. flat_map args_of ps ++ (l ++ rest)) more
      ∙ (ap (λ l. flat_map args_of ps ++ l) (append_assoc part (x ∷ []) rest ∙ ap (λ l. part ++ l) (sym at)) ∙ h)

  -- a part is full, and the argument begins another one
  pub next_part : (ps qs : List V) (p : V) (new old rest all : List A) (x : A) → flat_map args_of ps ++ (args_of p ++ old) ≡ all
      → old ≡ x ∷ rest → qs ≡ ps ++ p ∷ [] → new ≡ x ∷ [] → flat_map args_of qs ++ (new ++ rest) ≡ all
  next_part ps qs p new old rest all x h at more begun =
      ap (λ l. flat_map args_of l ++ (new ++ rest)) more
      ∙ (ap (λ l. l ++ (new ++ rest)) (flat_more ps p)
      ∙ (append_assoc (flat_map args_of ps) (args_of p) (new ++ rest)
      ∙ (ap (λ l. flat_map args_of ps ++ (args_of p ++ l)) (ap (λ l. l ++ rest) begun ∙ sym at) ∙ h)))

module _ {A T E V W : Type 0} (gives : A → Result T E → Type 0) (args_of : V → List A) (values_of : W → List T) where
  -- a part's answer is what a map over the part may answer, or want of memory
  abbrev pub IsPart : E → V → Result W E → Type 0
  IsPart memory part answer = IfOk answer (λ w. Answers gives (args_of part) (values_of w))
      × IfErr answer (λ e. (e ≡ memory) ⊎ IsFirstError gives (args_of part) e)

  both_each : (xs zs : List A) (ys ws : List T) → AllZip (λ x y. gives x (Ok y)) xs ys → AllZip (λ x y. gives x (Ok y)) zs ws
      → AllZip (λ x y. gives x (Ok y)) (xs ++ zs) (ys ++ ws)
  both_each [] zs [] ws a b = b
  both_each [] zs (y ∷ ys) ws a b = absurd a
  both_each (x ∷ xs) zs [] ws a b = absurd a
  both_each (x ∷ xs) zs (y ∷ ys) ws a b = (a.0, both_each xs zs ys ws a.1 b)

  both_answered : (xs zs : List A) (ys ws : List T) → Answers gives xs ys → Answers gives zs ws
      → Answers gives (xs ++ zs) (ys ++ ws)
  both_answered xs zs ys ws a b = record { each = both_each xs zs ys ws a.each b.each }

  -- the first error of a part is the first one of the whole, where the parts before have values
  first_in : (m : E) (part : V) (rest : List A) (e : E) → (e ≡ m) ⊎ IsFirstError gives (args_of part) e
      → (e ≡ m) ⊎ IsFirstError gives (args_of part ++ rest) e
  first_in m part rest e (inl h) = inl h
  first_in m part rest e (inr h) = inr (record {
    before = h.before;
    values = h.values;
    at = h.at;
    rest = h.rest ++ rest;
    arguments = ap (λ l. l ++ rest) h.arguments ∙ append_assoc h.before (h.at ∷ h.rest) rest;
    answered = h.answered;
    failed = h.failed;
  })

  later_in : (m : E) (xs rest : List A) (ys : List T) (e : E) → Answers gives xs ys → (e ≡ m) ⊎ IsFirstError gives rest e
      → (e ≡ m) ⊎ IsFirstError gives (xs ++ rest) e
  later_in m xs rest ys e has (inl h) = inl h
  later_in m xs rest ys e has (inr h) = inr (record {
    before = xs ++ h.before;
    values = ys ++ h.values;
    at = h.at;
    rest = h.rest;
    arguments = ap (λ l. xs ++ l) h.arguments ∙ sym (append_assoc xs h.before (h.at ∷ h.rest));
    answered = both_answered xs h.before ys h.values has h.answered;
    failed = h.failed;
  })

  module _ (Q : Result W E → Result W E → Type 0) (same : (r a : Result W E) → Q r a → a ≡ r) (m : E) where
    all_in : (parts : List V) (answers : List (Result W E)) (ws : List W) → AllZip (IsPart m) parts answers
        → AllZip (λ r w. Q r (Ok w)) answers ws → Answers gives (flat_map args_of parts) (flat_map values_of ws)
    all_in [] [] [] each ok = record { each = tt }
    all_in [] [] (w ∷ ws) each ok = absurd ok
    all_in [] (r ∷ rs) ws each ok = absurd each
    all_in (p ∷ ps) [] ws each ok = absurd each
    all_in (p ∷ ps) (r ∷ rs) [] each ok = absurd ok
    all_in (p ∷ ps) (r ∷ rs) (w ∷ ws) each ok =
        both_answered (args_of p) (flat_map args_of ps) (values_of w) (flat_map values_of ws)
        (subst (λ k. IsPart m p k) (sym (same r (Ok w) ok.0)) each.0).0
        (all_in ps rs ws each.1 ok.1)

    -- where each part has values, they are the values of the whole
    pub all_answered : (parts : List V) (answers : List (Result W E)) (ws : List W) → AllZip (IsPart m) parts answers
        → Answers Q answers ws → Answers gives (flat_map args_of parts) (flat_map values_of ws)
    all_answered parts answers ws each ok = all_in parts answers ws each ok.each

    some_failed : (parts : List V) (before : List (Result W E)) (ws : List W) (at : Result W E) (e : E) (after : List (Result W E))
        → AllZip (IsPart m) parts (before ++ at ∷ after) → AllZip (λ r w. Q r (Ok w)) before ws → Q at (Err e)
        → (e ≡ m) ⊎ IsFirstError gives (flat_map args_of parts) e
    some_failed [] [] ws at e after each ok failed = absurd each
    some_failed [] (r ∷ rs) ws at e after each ok failed = absurd each
    some_failed (p ∷ ps) [] ws at e after each ok failed =
        first_in m p (flat_map args_of ps) e (subst (λ k. IsPart m p k) (sym (same at (Err e) failed)) each.0).1
    some_failed (p ∷ ps) (r ∷ rs) [] at e after each ok failed = absurd ok
    some_failed (p ∷ ps) (r ∷ rs) (w ∷ ws) at e after each ok failed =
        later_in m (args_of p) (flat_map args_of ps) (values_of w) e
        (subst (λ k. IsPart m p k) (sym (same r (Ok w) ok.0)) each.0).0
        (some_failed ps rs ws at e after each.1 ok.1 failed)

    -- the first error of the parts' answers is the first one of the whole
    pub first_failed : (parts : List V) (answers : List (Result W E)) (e : E) → AllZip (IsPart m) parts answers
        → (e ≡ m) ⊎ IsFirstError Q answers e → (e ≡ m) ⊎ IsFirstError gives (flat_map args_of parts) e
    first_failed parts answers e each (inl h) = inl h
    first_failed parts answers e each (inr h) =
        some_failed parts h.before h.values h.at e h.rest
        (subst (λ l. AllZip (IsPart m) parts l) h.arguments each) h.answered.each h.failed
