-- The plan of a commit.
use Rattle.std.proofs.Common.{ℕ, ◌≡◌, ◌+◌, ◌⊎◌, inl, inr, Bool, true, false, List, [], ◌∷◌, codes, Option, refl, ap}
use Rattle.std.specs.Prelude.{is_some, option_map, ◌==◌}
use Rattle.hex.specs.Hex.{encode_lower}
use Rattle.tv_formats.specs.declared.segment.LiveSegment.{LiveSegment}
use Rattle.tv_machine.specs.CommitEvents.{chosen, commit_step, committed, first_unknown, first_unsealed, last_stamp}
use Rattle.tv_machine.specs.Lines.{unless, words_of}
use Rattle.tv_machine.specs.State.{State, StepResult, on_catalog}

-- ---- steps

-- a commit that isn't refused takes the next number
refused_or : (s : State) (a b d : Bool) (u v w : List (List ℕ)) (result : StepResult State) → ((unless s ((a, u) ∷ (b, v) ∷ (d, w) ∷ []) result).1 ≡ s) ⊎ ((unless s ((a, u) ∷ (b, v) ∷ (d, w) ∷ []) result).1 ≡ result.1)
refused_or s true b d u v w result = inl refl
refused_or s false true d u v w result = inl refl
refused_or s false false true u v w result = inl refl
refused_or s false false false u v w result = inr refl

next_of : (s : State) (payload : Option (List ℕ)) (segments : List (List ℕ × LiveSegment)) (t : State) → (t ≡ s) ⊎ (t ≡ (on_catalog s (committed s.catalog payload segments)).1) → (t ≡ s) ⊎ (t.catalog.next ≡ s.catalog.next + 1)
next_of s payload segments t (inl e) = inl e
next_of s payload segments t (inr e) = inr (ap (λ (x : State). x.catalog.next) e)

pub stays_or_next : (s : State) (payload : Option (List ℕ)) (ids : List (List ℕ)) → ((commit_step s payload ids).1 ≡ s) ⊎ ((commit_step s payload ids).1.catalog.next ≡ s.catalog.next + 1)
stays_or_next s payload ids =
    let unknown = first_unknown s.catalog ids in
    let unsealed = first_unsealed s (chosen s.catalog ids) in
    next_of s payload (chosen s.catalog ids) (commit_step s payload ids).1
    (refused_or s (s.catalog.next == last_stamp) (is_some unknown) (is_some unsealed) (codes "stamps-spent" ∷ []) (codes "unknown-segment" ∷ words_of (option_map encode_lower unknown)) (codes "unsealed" ∷ words_of unsealed)
    (on_catalog s (committed s.catalog payload (chosen s.catalog ids))))
