-- What a map over arguments says of what is seen of them.
use Rattle.std.proofs.Common.{◌≡◌, ℕ, zero, suc, ◌+◌, ◌<◌, List, [], ◌∷◌, ◌++◌, length, take, get_or, map, Result, Ok, Err, Option, ◌⊎◌, inl, inr, IfOk, IfErr, true, refl, sym, ap, subst, ◌∙◌, arith}
use Rattle.std.specs.List.{AllZip, enumerate_from}
use Rattle.std.specs.Iterator.Runs.{Run, WholeRun, EveryRun, ItemsAre}
use Rattle.std.proofs.lemmas.List.{take_more}
use Rattle.tv_base.specs.Maps.{Answers, IsFirstError}
use Rattle.tv_reader.specs.Searching.{MergesBy, Searched}

module _ {X : Type 0} where
  enumerate_push : (n : ℕ) (xs : List X) (x : X) → enumerate_from n (xs ++ x ∷ []) ≡ enumerate_from n xs ++ (n + length xs, x) ∷ []
  enumerate_push n [] x = ap (λ (k : ℕ). (k, x) ∷ []) (let e : n ≡ n + 0 = omega arith in e)
  enumerate_push n (y ∷ xs) x =
      ap (λ (l : List (ℕ × X)). (n, y) ∷ l) (enumerate_push (n + 1) xs x
      ∙ ap (λ (k : ℕ). enumerate_from (n + 1) xs ++ (k, x) ∷ []) (let e : n + 1 + length xs ≡ n + length (y ∷ xs) = omega arith in e))

  length_take : (i : ℕ) (xs : List X) → i < length xs → length (take i xs) ≡ i
  length_take zero xs lt = refl
  length_take (suc i) [] lt = absurd (omega arith)
  length_take (suc i) (x ∷ xs) lt = ap suc (length_take i xs (omega arith))

  -- one place more
  pub enumerate_more : (xs : List X) (i : ℕ) (x : X) → i < length xs → x ≡ get_or xs i x
      → enumerate_from 0 (take i xs) ++ (i, x) ∷ [] ≡ enumerate_from 0 (take (i + 1) xs)
  enumerate_more xs i x lt item =
      sym (ap (enumerate_from 0) (take_more xs i x lt ∙ ap (λ (y : X). take i xs ++ y ∷ []) (sym item))
      ∙ enumerate_push 0 (take i xs) x ∙ ap (λ (k : ℕ). enumerate_from 0 (take i xs) ++ (k, x) ∷ []) (let e : 0 + length (take i xs) ≡ i = rw (length_take i xs lt) (omega arith) in e))

map_parts : {A B : Type 0} (f : A → B) (xs : List A) (y : A) (ys : List A) → map f (xs ++ y ∷ ys) ≡ map f xs ++ f y ∷ map f ys
map_parts f [] y ys = refl
map_parts f (x ∷ xs) y ys = ap (λ l. f x ∷ l) (map_parts f xs y ys)

module _ {A B T E : Type 0} (post : A → Result T E → Type 0) (gives : B → Result T E → Type 0) (f : A → B)
    (of : (x : A) (r : Result T E) → post x r → gives (f x) r) where
  all_seen : (args : List A) (values : List T) → AllZip (λ x y. post x (Ok y)) args values → AllZip (λ x y. gives x (Ok y)) (map f args) values
  all_seen [] [] all = tt
  all_seen [] (y ∷ ys) all = absurd all
  all_seen (x ∷ xs) [] all = absurd all
  all_seen (x ∷ xs) (y ∷ ys) all = (of x (Ok y) all.0, all_seen xs ys all.1)

  module _ {S : Type 0} (steps : S → Option A → S → Type 0) (rest : S → List A) (runs : EveryRun steps (λ p. ItemsAre p (rest p.from)))
      (s : S) (args : List A) (is : rest s ≡ args) (places : List B) (seen : map f args ≡ places) where
    drawn : (p : Run steps) → p.from ≡ s → p.whole ≡ true → map f p.items ≡ places
    drawn p from whole = ap (map f) ((runs p p.seen).4 whole ∙ (ap rest from ∙ is)) ∙ seen

    pub seen_answers : {V : Type 0} (items : V → List T) (r : Result V E) → IfOk r (λ v. WholeRun steps s (λ run. Answers post run.items (items v)))
        → IfOk r (λ v. Answers gives places (items v))
    seen_answers items (Ok v) h =
        record { each = subst (λ l. AllZip (λ x y. gives x (Ok y)) l (items v)) (drawn h.0 h.1 h.2) (all_seen h.0.items (items v) h.3.each) }
    seen_answers items (Err e) h = tt

    pub seen_error : {V : Type 0} (m : E) (r : Result V E) → IfErr r (λ e. (e ≡ m) ⊎ WholeRun steps s (λ run. IsFirstError post run.items e))
        → IfErr r (λ e. (e ≡ m) ⊎ IsFirstError gives places e)
    seen_error m (Ok v) h = tt
    seen_error m (Err e) (inl h) = inl h
    seen_error m (Err e) (inr h) = inr (record {
      before = map f h.3.before;
      values = h.3.values;
      at = f h.3.at;
      rest = map f h.3.rest;
      arguments = sym (drawn h.0 h.1 h.2) ∙ (ap (map f) h.3.arguments ∙ map_parts f h.3.before h.3.at h.3.rest);
      answered = record { each = all_seen h.3.before h.3.values h.3.answered.each };
      failed = of h.3.at (Err e) h.3.failed;
    })

-- a search that came as far as the segments
pub by_weight : {W S C F E : Type 0} (memory : E) (weighed : Result W E → Type 0) (checked : Result (Unit {0}) E → Type 0) (matched : W → ℕ → S → Result (List ℕ) E → Type 0)
    (collected : List ℕ → ℕ → S → Result C E → Type 0) (merged : List C → Result F E → Type 0) (shown segments : List S) (w : W) (r : Result F E)
    → weighed (Ok w) → checked (Ok tt) → shown ≡ segments → (r ≡ Err memory) ⊎ MergesBy (matched w) collected merged shown r
    → Searched memory weighed checked matched collected merged segments r
by_weight memory weighed checked matched collected merged shown segments w r given takes is (inl none) = inl none
by_weight memory weighed checked matched collected merged shown segments w r given takes is (inr merge) =
    inr (inr (w, given, inr (takes, subst (λ l. MergesBy (matched w) collected merged l r) is merge)))
