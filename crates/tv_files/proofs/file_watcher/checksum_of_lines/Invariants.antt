use Rattle.std.proofs.Common.{flat_map}
use Rattle.tv_checksum.specs.Crc32.{HasTaken}
use Rattle.tv_files.proofs.file_watcher.checksum_of_lines.Given as goal

abbrev pub invariant-loop-line : goal.invariant-loop-line
invariant-loop-line l = HasTaken l.checksum (flat_map (λ line. line.now) l.yielded)
