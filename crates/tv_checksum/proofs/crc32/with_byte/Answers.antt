use Rattle.std.proofs.Common.{arith, ℕ, ◌/◌, List, get_or, ap, ◌∙◌, sym}
use lib.Bits.{bit_xor}
use Rattle.tv_checksum.specs.Crc32.{after_zeros}
use Rattle.tv_checksum.proofs.Registers.{one_byte}
use Rattle.tv_checksum.proofs.crc32.with_byte.Goals as goal

pub returns : goal.returns
returns c =
    let low = ap (λ (l : List ℕ). after_zeros 1 (bit_xor (get_or l 0 0) c.args.byte)) c.to_le_bytes.ensures in
    ap (bit_xor (c.args.register / 256)) (c.entry.ensures ∙ low) ∙ sym (one_byte c.args.register c.args.byte (omega arith))
