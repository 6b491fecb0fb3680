use Rattle.std.proofs.Common.{rules, arith, ℕ, ◌≡◌, List, get_or, ap, ap₂, ◌∙◌}
use lib.Bits.{bit_xor}
use Rattle.tv_checksum.specs.Crc32.{after_zeros}
use Rattle.tv_checksum.proofs.Registers.{sixteen_bytes}
use Rattle.tv_checksum.proofs.crc32.with_sixteen.Goals as goal

-- a byte that is added to one of the register
meet : {l m : List ℕ} (n i : ℕ) (bs : List ℕ) → l ≡ m
    → after_zeros n (bit_xor (get_or l i 0) (get_or bs i 0)) ≡ after_zeros n (bit_xor (get_or m i 0) (get_or bs i 0))
meet n i bs = ap (λ (k : List ℕ). after_zeros n (bit_xor (get_or k i 0) (get_or bs i 0)))

pub returns : goal.returns
returns c =
    let bs = c.args.bytes in
    let low = c.to_le_bytes.ensures in
    let third = c.entry-13.ensures ∙ meet 13 3 bs low in
    let second = c.entry-14.ensures ∙ meet 14 2 bs low in
    let first = c.entry-15.ensures ∙ meet 15 1 bs low in
    let zeroth = c.entry-16.ensures ∙ meet 16 0 bs low in
    ap₂ bit_xor (ap₂ bit_xor (ap₂ bit_xor (ap₂ bit_xor (ap₂ bit_xor (ap₂ bit_xor (ap₂ bit_xor (ap₂ bit_xor (ap₂ bit_xor (ap₂ bit_xor (ap₂ bit_xor (ap₂ bit_xor (ap₂ bit_xor (ap₂ bit_xor (ap₂ bit_xor
    c.entry.ensures c.entry-2.ensures) c.entry-3.ensures) c.entry-4.ensures) c.entry-5.ensures) c.entry-6.ensures)
    c.entry-7.ensures) c.entry-8.ensures) c.entry-9.ensures) c.entry-10.ensures) c.entry-11.ensures) c.entry-12.ensures) third) second) first) zeroth
    ∙ sixteen_bytes c.args.register bs (omega arith) (search rules) (search rules)
