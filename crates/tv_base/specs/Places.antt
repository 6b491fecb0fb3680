-- The first element of a list that is of a kind.
use Rattle.std.specs.Prelude.{Bool, List, [], ◌∷◌, if◌then◌else◌}

-- a list whose first element of this kind is changed
abbrev pub change_at : {X : Type 0} → (X → Bool) → (X → X) → List X → List X
change_at p f [] = []
change_at p f (x ∷ xs) = if p x then f x ∷ xs else x ∷ change_at p f xs

-- a list without its first element of this kind
abbrev pub take_out : {X : Type 0} → (X → Bool) → List X → List X
take_out p [] = []
take_out p (x ∷ xs) = if p x then xs else x ∷ take_out p xs
