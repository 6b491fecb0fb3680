-- Searches of a list that find nothing.
use Rattle.std.proofs.Common.{◌≡◌, Bool, true, false, List, [], ◌∷◌, None, find, refl, ap}
use Rattle.tv_base.specs.Places.{change_at, take_out}

-- Where the first one fails the test and nothing is found, nothing is found among the others.
pub passed : {X : Type 0} (p : X → Bool) (x : X) (xs : List X) → p x ≡ false
    → find p (x ∷ xs) ≡ None → find p xs ≡ None
passed p x xs is none = cc

-- a change of what isn't there
pub stays : {X : Type 0} (p : X → Bool) (f : X → X) (xs : List X) → find p xs ≡ None
    → change_at p f xs ≡ xs
stays p f [] is = refl
stays p f (x ∷ xs) is = by (p x) refl (stays p f xs) where
  by : (b : Bool) → p x ≡ b → (find p xs ≡ None → change_at p f xs ≡ xs)
      → change_at p f (x ∷ xs) ≡ x ∷ xs
  by true passes rest = cc
  by false fails rest = rw fails (ap (λ ys. x ∷ ys) (rest (passed p x xs fails is)))

-- a removal of what isn't there
pub keeps : {X : Type 0} (p : X → Bool) (xs : List X) → find p xs ≡ None → take_out p xs ≡ xs
keeps p [] is = refl
keeps p (x ∷ xs) is = by (p x) refl (keeps p xs) where
  by : (b : Bool) → p x ≡ b → (find p xs ≡ None → take_out p xs ≡ xs)
      → take_out p (x ∷ xs) ≡ x ∷ xs
  by true passes rest = cc
  by false fails rest = rw fails (ap (λ ys. x ∷ ys) (rest (passed p x xs fails is)))
