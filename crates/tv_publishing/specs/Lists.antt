-- Lists, of which one begins with the other.
use Rattle.std.specs.Prelude.{◌≡◌, ℕ, zero, suc, List, [], ◌∷◌, ◌++◌, Option, Some, None}
use Rattle.std.specs.List.{slice_get}

-- the second list begins with the first
abbrev pub IsPrefix : {A : Type 0} → List A → List A → Type 0
IsPrefix {A} xs ys = (rest : List A) × (ys ≡ xs ++ rest)

-- the list is empty where nothing is given, and else ends with what is given
abbrev pub EndsIn : {A : Type 0} → List A → Option A → Type 0
EndsIn all None = all ≡ []
EndsIn {A} all (Some x) = (front : List A) × (all ≡ front ++ x ∷ [])

-- what stands in a list at a number, counted from 1
abbrev pub at_number : {A : Type 0} → List A → ℕ → Option A
at_number all zero = None
at_number all (suc n) = slice_get all n
