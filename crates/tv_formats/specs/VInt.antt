-- Numbers in groups of seven bits.
use Rattle.std.specs.Prelude.{ℕ, zero, suc, ◌+◌, List, [], ◌∷◌, ◌++◌, reverse}
use Rattle.std.specs.Int.Digits.{digits_of}

-- the digits of a number in base 128, the highest first; 0 has one
abbrev pub groups : ℕ → List ℕ
groups zero = 0 ∷ []
groups (suc n) = digits_of 128 (suc n)

-- groups that come highest first, as bytes: the lowest first, and 128 is added to the highest alone
abbrev pub marked : List ℕ → List ℕ
marked [] = []
marked (highest ∷ lower) = reverse lower ++ (highest + 128) ∷ []

-- The spelling of a number: its groups, as few as there can be, the lowest first. The last byte has 128
-- added, and no other byte has.
abbrev pub vint : ℕ → List ℕ
vint n = marked (groups n)
