-- Bytes of numbers.
use Rattle.std.specs.Prelude.{ℕ, Bool, nat_le, List, ◌∷◌, reverse}
use Rattle.std.specs.Int.Digits.{number_from_digits}

-- a byte that can only be the last of a number in groups of seven bits
abbrev pub is_last_byte : ℕ → Bool
is_last_byte byte = nat_le 128 byte

-- the number of these groups of seven bits, lowest first, under a highest one
abbrev pub of_groups : ℕ → List ℕ → ℕ
of_groups highest lower = number_from_digits 128 (highest ∷ reverse lower)
