-- The register of CRC-32 is a sum over its bits: what goes in is added to it, and each of its parts goes on alone.
use Rattle.std.proofs.Common.{◌≡◌, ℕ, zero, suc, ◌+◌, ◌*◌, ◌/◌, ◌%◌, ◌^◌, ◌<◌, ◌==◌, cond, List, [], ◌∷◌, ◌++◌, length, replicate, get_or, drop, fold}
use Rattle.std.proofs.Common.{refl, sym, ap, ap₂, ◌∙◌, arith, length-drop, drop-cons, pow-suc, mul_assoc}
use Rattle.std.specs.List.{flat_map}
use Rattle.std.specs.Int.Bits.{bit_xor}
use Rattle.std.proofs.lemmas.Nat.{xor_comm, xor_shr}
use Rattle.std.proofs.lemmas.List.{drop_all}
use Rattle.std.proofs.lemmas.List.Sums.{fold-append}
use Rattle.std.proofs.lemmas.Grind.{flat_map-append}
use lib.Bits.{xor_shifted, xor_assoc, xor_zero_r, xor_add_and}
use Rattle.tv_formats.specs.Checksum.{bits, polynomial, shift_in}
use Rattle.tv_checksum.specs.Crc32.{register_with, after_zeros}

-- the middle of three
swap : (a b c : ℕ) → bit_xor (bit_xor a b) c ≡ bit_xor (bit_xor a c) b
swap a b c = xor_assoc a b c ∙ ap (bit_xor a) (xor_comm b c) ∙ sym (xor_assoc a c b)

-- what two sums of two add up to
regroup : (a b c d : ℕ) → bit_xor (bit_xor a b) (bit_xor c d) ≡ bit_xor (bit_xor a c) (bit_xor b d)
regroup a b c d = sym (xor_assoc (bit_xor a b) c d) ∙ ap (λ n. bit_xor n d) (swap a b c) ∙ xor_assoc (bit_xor a c) b d

half : (a b : ℕ) → bit_xor a b / 2 ≡ bit_xor (a / 2) (b / 2)
half a b = xor_shr a b 1

-- the register after a bit that is zero
unfoldable shift : ℕ → ℕ
shift r = bit_xor (r / 2) (r % 2 * polynomial)

parity : (a b : ℕ) → bit_xor a b % 2 ≡ (a % 2 + b % 2) % 2
parity a b = omega (arith, xor_add_and a b)

-- Where two bits are set, their polynomials cancel.
poly : (m n : ℕ) → m < 2 → n < 2 → (m + n) % 2 * polynomial ≡ bit_xor (m * polynomial) (n * polynomial)
poly zero zero p q = refl
poly zero (suc zero) p q = refl
poly (suc zero) zero p q = refl
poly (suc zero) (suc zero) p q = refl
poly zero (suc (suc n)) p q = absurd (omega arith)
poly (suc zero) (suc (suc n)) p q = absurd (omega arith)
poly (suc (suc m)) n p q = absurd (omega arith)

shift-xor : (a b : ℕ) → shift (bit_xor a b) ≡ bit_xor (shift a) (shift b)
unfolding shift
shift-xor a b =
    ap₂ (λ x y. bit_xor x (y * polynomial)) (half a b) (parity a b)
    ∙ ap (bit_xor (bit_xor (a / 2) (b / 2))) (poly (a % 2) (b % 2) (omega arith) (omega arith))
    ∙ regroup (a / 2) (b / 2) (a % 2 * polynomial) (b % 2 * polynomial)

shift-even : (n : ℕ) → shift (n * 2) ≡ n
unfolding shift
shift-even n =
    let low : n * 2 % 2 ≡ 0 = omega arith in
    let high : n * 2 / 2 ≡ n = omega arith in
    ap₂ (λ x y. bit_xor x (y * polynomial)) high low ∙ xor_zero_r n

-- A bit that goes in decides by its sum with the one that leaves.
by_bit : (h r b : ℕ) → r < 2 → b < 2 → cond (r == b) h (bit_xor h polynomial) ≡ bit_xor h ((r + b) % 2 * polynomial)
by_bit h zero zero p q = sym (xor_zero_r h)
by_bit h zero (suc zero) p q = refl
by_bit h (suc zero) zero p q = refl
by_bit h (suc zero) (suc zero) p q = sym (xor_zero_r h)
by_bit h zero (suc (suc b)) p q = absurd (omega arith)
by_bit h (suc zero) (suc (suc b)) p q = absurd (omega arith)
by_bit h (suc (suc r)) b p q = absurd (omega arith)

-- The lowest bit of a byte goes in, and then the others are added: all of them could have been added before.
enter : (r b : ℕ) → bit_xor (shift_in r (b % 2)) (b / 2) ≡ shift (bit_xor r b)
unfolding shift
enter r b =
    ap (λ n. bit_xor n (b / 2)) (by_bit (r / 2) (r % 2) (b % 2) (omega arith) (omega arith))
    ∙ swap (r / 2) ((r % 2 + b % 2) % 2 * polynomial) (b / 2)
    ∙ sym (ap₂ (λ x y. bit_xor x (y * polynomial)) (half r b) (parity r b))

-- after so many of them
unfoldable shifts : ℕ → ℕ → ℕ
shifts zero r = r
shifts (suc n) r = shifts n (shift r)

shifts-xor : (n a b : ℕ) → shifts n (bit_xor a b) ≡ bit_xor (shifts n a) (shifts n b)
unfolding shifts
shifts-xor zero a b = refl
shifts-xor (suc n) a b = ap (shifts n) (shift-xor a b) ∙ shifts-xor n (shift a) (shift b)

-- so many of the lowest bits, the lowest first
low_bits : ℕ → ℕ → List ℕ
low_bits zero b = []
low_bits (suc n) b = b % 2 ∷ low_bits n (b / 2)

-- Bits that go in one by one could have been added before.
shift_low_bits : (n r b : ℕ) → b < 2 ^ n → fold shift_in r (low_bits n b) ≡ shifts n (bit_xor r b)
unfolding shifts low_bits
shift_low_bits zero r b h = let none : b ≡ 0 = omega arith in sym (ap (bit_xor r) none ∙ xor_zero_r r)
shift_low_bits (suc n) r b h =
    shift_low_bits n (shift_in r (b % 2)) (b / 2) (omega (arith, pow-suc 2 n))
    ∙ ap (shifts n) (enter r b)

bits_low : (b : ℕ) → bits b ≡ low_bits 8 b
unfolding low_bits
bits_low b =
    let two : b / 4 ≡ b / 2 / 2 = omega arith in
    let three : b / 8 ≡ b / 4 / 2 = omega arith in
    let four : b / 16 ≡ b / 8 / 2 = omega arith in
    let five : b / 32 ≡ b / 16 / 2 = omega arith in
    let six : b / 64 ≡ b / 32 / 2 = omega arith in
    let seven : b / 128 ≡ b / 64 / 2 = omega arith in
    cc

bits_of_byte : (b : ℕ) → bits b ≡ bits (b % 256)
bits_of_byte b =
    let zeroth : b % 2 ≡ b % 256 % 2 = omega arith in
    let first : b / 2 % 2 ≡ b % 256 / 2 % 2 = omega arith in
    let second : b / 4 % 2 ≡ b % 256 / 4 % 2 = omega arith in
    let third : b / 8 % 2 ≡ b % 256 / 8 % 2 = omega arith in
    let fourth : b / 16 % 2 ≡ b % 256 / 16 % 2 = omega arith in
    let fifth : b / 32 % 2 ≡ b % 256 / 32 % 2 = omega arith in
    let sixth : b / 64 % 2 ≡ b % 256 / 64 % 2 = omega arith in
    let seventh : b / 128 % 2 ≡ b % 256 / 128 % 2 = omega arith in
    cc

-- a byte goes in
with_bits : (r b : ℕ) → fold shift_in r (bits b) ≡ shifts 8 (bit_xor r (b % 256))
with_bits r b = ap (fold shift_in r) (bits_of_byte b ∙ bits_low (b % 256)) ∙ shift_low_bits 8 r (b % 256) (omega arith)

pub with-append : (r : ℕ) (xs ys : List ℕ) → register_with r (xs ++ ys) ≡ register_with (register_with r xs) ys
unfolding register_with
with-append r xs ys = ap (fold shift_in r) (flat_map-append bits xs ys) ∙ fold-append shift_in r (flat_map bits xs) (flat_map bits ys)

with-cons : (r b : ℕ) (bs : List ℕ) → register_with r (b ∷ bs) ≡ register_with (shifts 8 (bit_xor r (b % 256))) bs
unfolding register_with
with-cons r b bs = fold-append shift_in r (bits b) (flat_map bits bs) ∙ ap (λ n. fold shift_in n (flat_map bits bs)) (with_bits r b)

with-zero : (r : ℕ) (bs : List ℕ) → register_with r (0 ∷ bs) ≡ register_with (shifts 8 r) bs
with-zero r bs = with-cons r 0 bs ∙ ap (λ n. register_with (shifts 8 n) bs) (xor_zero_r r)

-- Of two parts of a register, one takes the bytes, and the other goes on over zeros.
with-xor : (bs : List ℕ) (a b : ℕ) → register_with (bit_xor a b) bs ≡ bit_xor (register_with a bs) (after_zeros (length bs) b)
unfolding register_with
with-xor [] a b = refl
with-xor (x ∷ bs) a b =
    let n = x % 256 in
    with-cons (bit_xor a b) x bs
    ∙ ap (λ m. register_with m bs) (ap (shifts 8) (swap a b n) ∙ shifts-xor 8 (bit_xor a n) b)
    ∙ with-xor bs (shifts 8 (bit_xor a n)) (shifts 8 b)
    ∙ sym (ap₂ bit_xor (with-cons a x bs) (with-zero b (replicate (length bs) 0)))

-- Bits above those that leave only move down.
shifts-high : (n h : ℕ) → shifts n (h * 2 ^ n) ≡ h
unfolding shifts
shifts-high zero h = omega arith
shifts-high (suc n) h =
    let twice : h * 2 ^ suc n ≡ h * 2 ^ n * 2 = ap (λ m. h * m) (pow-suc 2 n) ∙ sym (mul_assoc h (2 ^ n) 2) in
    ap (λ m. shifts n (shift m)) twice ∙ ap (shifts n) (shift-even (h * 2 ^ n)) ∙ shifts-high n h

-- The first byte is added to the lowest one of the register, and the sum goes on over zeros; the others move down and take the rest.
pub first_byte : (r b : ℕ) (bs : List ℕ) → b < 256
    → register_with r (b ∷ bs) ≡ bit_xor (register_with (r / 256) bs) (after_zeros (suc (length bs)) (bit_xor (r % 256) b))
first_byte r b bs h =
    let low = bit_xor (r % 256) b in
    let is_byte : b % 256 ≡ b = omega arith in
    let whole : r ≡ bit_xor (r / 256 * 256) (r % 256) = omega (arith, xor_shifted (r / 256) 8 (r % 256)) in
    let parts : bit_xor r b ≡ bit_xor (r / 256 * 256) low = ap (λ n. bit_xor n b) whole ∙ xor_assoc (r / 256 * 256) (r % 256) b in
    with-cons r b bs
    ∙ ap (λ n. register_with (shifts 8 n) bs) (ap (bit_xor r) is_byte ∙ parts)
    ∙ ap (λ n. register_with n bs) (shifts-xor 8 (r / 256 * 256) low ∙ ap (λ n. bit_xor n (shifts 8 low)) (shifts-high 8 (r / 256)))
    ∙ with-xor bs (r / 256) (shifts 8 low)
    ∙ ap (bit_xor (register_with (r / 256) bs)) (sym (with-zero low (replicate (length bs) 0)))

-- the same of a byte in the middle, behind which n more stand
at_byte : (bs : List ℕ) → ((i : ℕ) → get_or bs i 0 < 256) → (i n r : ℕ) → i + suc n ≡ length bs
    → register_with r (drop i bs) ≡ bit_xor (register_with (r / 256) (drop (suc i) bs)) (after_zeros (suc n) (bit_xor (r % 256) (get_or bs i 0)))
at_byte bs byte i n r long =
    let rest : length (drop (suc i) bs) ≡ n = omega (arith, length-drop (suc i) bs) in
    ap (register_with r) (drop-cons bs i 0 (omega arith))
    ∙ first_byte r (get_or bs i 0) (drop (suc i) bs) (byte i)
    ∙ ap (λ m. bit_xor (register_with (r / 256) (drop (suc i) bs)) (after_zeros (suc m) (bit_xor (r % 256) (get_or bs i 0)))) rest

-- the same where all of the register has left
lone_byte : (bs : List ℕ) → ((i : ℕ) → get_or bs i 0 < 256) → (i n : ℕ) → i + suc n ≡ length bs
    → register_with 0 (drop i bs) ≡ bit_xor (register_with 0 (drop (suc i) bs)) (after_zeros (suc n) (get_or bs i 0))
lone_byte bs byte i n = at_byte bs byte i n 0

pub with-none : (r : ℕ) → register_with r [] ≡ r
unfolding register_with
with-none r = refl

-- what n bytes from place i on make where they go on alone
unfoldable lone : List ℕ → ℕ → ℕ → ℕ
lone bs zero i = 0
lone bs (suc n) i = bit_xor (lone bs n (suc i)) (after_zeros (suc n) (get_or bs i 0))

lone-is : (bs : List ℕ) → ((i : ℕ) → get_or bs i 0 < 256) → (n i : ℕ) → i + n ≡ length bs → register_with 0 (drop i bs) ≡ lone bs n i
unfolding lone
lone-is bs byte zero i long = ap (register_with 0) (drop_all i bs (omega arith)) ∙ with-none 0
lone-is bs byte (suc n) i long =
    lone_byte bs byte i n long ∙ ap (λ m. bit_xor m (after_zeros (suc n) (get_or bs i 0))) (lone-is bs byte n (suc i) (omega arith))

-- sixteen bytes, of which the first four are added to one of the register each
pub sixteen_bytes : (r : ℕ) (bs : List ℕ) → r < 4294967296 → length bs ≡ 16 → ((i : ℕ) → get_or bs i 0 < 256)
    → bit_xor (bit_xor (bit_xor (bit_xor (bit_xor (bit_xor (bit_xor (bit_xor (bit_xor (bit_xor (bit_xor (bit_xor (bit_xor (bit_xor (bit_xor
    (after_zeros 1 (get_or bs 15 0))
    (after_zeros 2 (get_or bs 14 0)))
    (after_zeros 3 (get_or bs 13 0)))
    (after_zeros 4 (get_or bs 12 0)))
    (after_zeros 5 (get_or bs 11 0)))
    (after_zeros 6 (get_or bs 10 0)))
    (after_zeros 7 (get_or bs 9 0)))
    (after_zeros 8 (get_or bs 8 0)))
    (after_zeros 9 (get_or bs 7 0)))
    (after_zeros 10 (get_or bs 6 0)))
    (after_zeros 11 (get_or bs 5 0)))
    (after_zeros 12 (get_or bs 4 0)))
    (after_zeros 13 (bit_xor (r / 16777216 % 256) (get_or bs 3 0))))
    (after_zeros 14 (bit_xor (r / 65536 % 256) (get_or bs 2 0))))
    (after_zeros 15 (bit_xor (r / 256 % 256) (get_or bs 1 0))))
    (after_zeros 16 (bit_xor (r % 256) (get_or bs 0 0))) ≡ register_with r bs
unfolding lone
sixteen_bytes r bs small long byte =
    let two : r / 256 / 256 ≡ r / 65536 = omega arith in
    let three : r / 65536 / 256 ≡ r / 16777216 = omega arith in
    let four : r / 16777216 / 256 ≡ 0 = omega arith in
    let rest = ap (λ m. register_with m (drop 4 bs)) four ∙ lone-is bs byte 12 4 (omega arith) in
    let third = at_byte bs byte 3 12 (r / 16777216) (omega arith) ∙ ap (λ m. bit_xor m (after_zeros 13 (bit_xor (r / 16777216 % 256) (get_or bs 3 0)))) rest in
    let second = at_byte bs byte 2 13 (r / 65536) (omega arith)
    ∙ ap (λ m. bit_xor m (after_zeros 14 (bit_xor (r / 65536 % 256) (get_or bs 2 0)))) (ap (λ m. register_with m (drop 3 bs)) three ∙ third) in
    let first = at_byte bs byte 1 14 (r / 256) (omega arith)
    ∙ ap (λ m. bit_xor m (after_zeros 15 (bit_xor (r / 256 % 256) (get_or bs 1 0)))) (ap (λ m. register_with m (drop 2 bs)) two ∙ second) in
    sym (at_byte bs byte 0 15 r (omega arith) ∙ ap (λ m. bit_xor m (after_zeros 16 (bit_xor (r % 256) (get_or bs 0 0)))) first)

pub one_byte : (r b : ℕ) → b < 256 → register_with r (b ∷ []) ≡ bit_xor (r / 256) (after_zeros 1 (bit_xor (r % 256) b))
one_byte r b h = first_byte r b [] h ∙ ap (λ n. bit_xor n (after_zeros 1 (bit_xor (r % 256) b))) (with-none (r / 256))
