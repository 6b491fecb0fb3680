-- Runs with one turn more.
use Rattle.std.proofs.Common.{◌≡◌, List, [], ◌∷◌, ◌++◌, map, refl, sym, ap, ◌∙◌, append_assoc, append-nil}
use Rattle.tv_histories.specs.Shown.{published_by, shown}
use Rattle.tv_machine.specs.Machine.{Turn, after, answers, step}
use Rattle.tv_machine.specs.State.{Snapshot, State}

pub map_snoc : {A B : Type 0} (f : A → B) (xs : List A) (x : A) → map f (xs ++ x ∷ []) ≡ map f xs ++ f x ∷ []
map_snoc f [] x = refl
map_snoc f (y ∷ xs) x = ap (λ l. f y ∷ l) (map_snoc f xs x)

pub after_snoc : (s : State) (turns : List Turn) (t : Turn)
    → after s (turns ++ t ∷ []) ≡ (step (after s turns) t.0 t.1).1
after_snoc s [] t = refl
after_snoc s (x ∷ turns) t = after_snoc (step s x.0 x.1).1 turns t

pub answers_snoc : (s : State) (turns : List Turn) (t : Turn)
    → answers s (turns ++ t ∷ []) ≡ answers s turns ++ (step (after s turns) t.0 t.1).0 ∷ []
answers_snoc s [] t = refl
answers_snoc s (x ∷ turns) t = ap (λ l. (step s x.0 x.1).0 ∷ l) (answers_snoc (step s x.0 x.1).1 turns t)

-- what one turn more publishes
abbrev pub published_next : State → Turn → List Snapshot
published_next s t = published_by (step s t.0 t.1).0 (step s t.0 t.1).1

pub shown_snoc : (s : State) (turns : List Turn) (t : Turn)
    → shown s (turns ++ t ∷ []) ≡ shown s turns ++ published_next (after s turns) t
shown_snoc s [] t = append-nil (published_next s t)
shown_snoc s (x ∷ turns) t =
    ap (λ l. published_next s x ++ l) (shown_snoc (step s x.0 x.1).1 turns t)
    ∙ sym (append_assoc (published_next s x) (shown (step s x.0 x.1).1 turns)
    (published_next (after (step s x.0 x.1).1 turns) t))
