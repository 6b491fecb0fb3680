use Rattle.std.proofs.Common.{◌≡◌, drop}
use Rattle.tv_formats.specs.Names.{at}
use Rattle.tv_device.specs.StoredFiles.{named}
use Rattle.tv_replay.proofs.bench_place.bytes_at.Given as goal

abbrev pub invariant-loop-name : goal.invariant-loop-name
invariant-loop-name l = at (named l.pairs) l.path ≡ at (named (drop l.name-index l.pairs)) l.path
