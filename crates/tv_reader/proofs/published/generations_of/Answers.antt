use Rattle.std.proofs.Common.{rules, ◌≡◌, List, [], ◌∷◌, map, Result, Ok, Err, IfOk, refl, sym, ap, ◌∙◌}
use Rattle.tv_reader.proofs.published.generations_of.Goals as goal

-- a map after a map is one
map_twice : {A B C : Type 0} (f : A → B) (h : B → C) (xs : List A) → map h (map f xs) ≡ map (λ x. h (f x)) xs
map_twice f h [] = refl
map_twice f h (x ∷ xs) = ap (λ l. h (f x) ∷ l) (map_twice f h xs)

of_each : {A B S L E C : Type 0} (items : L → List C) (f : A → S) (k : B → S) (h : S → C) (xs : List A) (ys : List B) (result : Result L E) → map f xs ≡ map k ys → IfOk result (λ live. items live ≡ map (λ x. h (f x)) xs) → IfOk result (λ live. items live ≡ map (λ y. h (k y)) ys)
of_each items f k h xs ys (Ok live) e is = is ∙ (sym (map_twice f h xs) ∙ (ap (map h) e ∙ map_twice k h ys))
of_each items f k h xs ys (Err error) e is = tt

pub returns : goal.returns
returns c = of_each (λ l. l.items) (λ v. v.now) (λ e. e.value) (λ s. s.generation) c.as_slice.result.now c.args.searchers.now.entries c.generations_in.result (search (rules, c.in_ok-counted.ensures.values)) c.generations_in.ensures
