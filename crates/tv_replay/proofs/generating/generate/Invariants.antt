use Rattle.std.proofs.Common.{◌≡◌, string_bytes}
use Rattle.tv_replay.specs.Generated.{generated}
use Rattle.tv_replay.proofs.generating.generate.Given as goal

abbrev pub invariant-loop-i : goal.invariant-loop-i
invariant-loop-i l = string_bytes l.script ≡ generated l.i
