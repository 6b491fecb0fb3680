-- The register and the checksum fit 32 bits.
use Rattle.std.proofs.Common.{ℕ, ◌<◌, ◌^◌, ◌/◌, ◌%◌, ◌==◌, Bool, true, false, cond, List, [], ◌∷◌, arith, fold}
use Rattle.std.specs.Prelude.{bit_xor}
use Rattle.std.specs.List.{flat_map}
use Rattle.std.proofs.lemmas.Nat.{xor_lt}
use Rattle.tv_formats.specs.Checksum.{bits, polynomial, shift_in, register_after, crc32}

picked : (b : Bool) (x y : ℕ) → x < 2 ^ 32 → y < 2 ^ 32 → cond b x y < 2 ^ 32
picked true x y h k = h
picked false x y h k = k

shifted_fits : (register bit : ℕ) → register < 2 ^ 32 → shift_in register bit < 2 ^ 32
shifted_fits register bit h =
    let half : register / 2 < 2 ^ 32 = omega arith in
    picked (register % 2 == bit) (register / 2) (bit_xor (register / 2) polynomial) half (xor_lt 32 (register / 2) polynomial half (omega arith))

folded_fits : (register : ℕ) (message : List ℕ) → register < 2 ^ 32 → fold shift_in register message < 2 ^ 32
folded_fits register [] h = h
folded_fits register (bit ∷ message) h = folded_fits (shift_in register bit) message (shifted_fits register bit h)

pub crc32_fits : (bytes : List ℕ) → crc32 bytes < 2 ^ 32
crc32_fits bytes = xor_lt 32 (register_after bytes) 4294967295 (folded_fits 4294967295 (flat_map bits bytes) (omega arith)) (omega arith)
