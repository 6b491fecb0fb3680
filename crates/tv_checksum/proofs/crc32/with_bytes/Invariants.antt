use Rattle.std.proofs.Common.{◌≡◌, take}
use Rattle.tv_checksum.specs.Crc32.{register_with}
use Rattle.tv_checksum.proofs.crc32.with_bytes.Given as goal

abbrev pub invariant-loop-byte : goal.invariant-loop-byte
invariant-loop-byte l = l.register ≡ register_with l.fn.register (take l.byte-index l.bytes)
