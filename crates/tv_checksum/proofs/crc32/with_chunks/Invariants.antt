use Rattle.std.proofs.Common.{◌≡◌, take}
use Rattle.std.specs.List.{concat}
use Rattle.tv_checksum.specs.Crc32.{register_with}
use Rattle.tv_checksum.proofs.crc32.with_chunks.Given as goal

abbrev pub invariant-loop-chunk : goal.invariant-loop-chunk
invariant-loop-chunk l = l.register ≡ register_with l.fn.register (concat (take l.chunk-index l.chunks))
