-- CRC-32 as in ISO-HDLC: a register of 32 bits takes in the bits of the message one by one.
use Rattle.std.specs.Prelude.{ℕ, ◌/◌, ◌%◌, ◌==◌, List, [], ◌∷◌, bit_xor, if◌then◌else◌, fold}
use Rattle.std.specs.List.{flat_map}

-- the bits of a byte, the lowest first
abbrev pub bits : ℕ → List ℕ
bits b = b % 2 ∷ b / 2 % 2 ∷ b / 4 % 2 ∷ b / 8 % 2 ∷ b / 16 % 2 ∷ b / 32 % 2 ∷ b / 64 % 2 ∷ b / 128 % 2 ∷ []

-- the polynomial, its lowest power in the highest bit
abbrev pub polynomial : ℕ
polynomial = 3988292384

-- one bit goes in: the register moves down, and the polynomial is added where the bit that left differs from
-- the one that came
abbrev pub shift_in : ℕ → ℕ → ℕ
shift_in register bit = if register % 2 == bit then register / 2 else bit_xor (register / 2) polynomial

-- the register after these bytes
abbrev pub register_after : List ℕ → ℕ
register_after bytes = fold shift_in 4294967295 (flat_map bits bytes)

-- the checksum of a message
abbrev pub crc32 : List ℕ → ℕ
crc32 bytes = bit_xor (register_after bytes) 4294967295
