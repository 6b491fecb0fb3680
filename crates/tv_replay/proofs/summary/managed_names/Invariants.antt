use Rattle.std.proofs.Common.{◌≡◌, map, string_bytes}
use Rattle.tv_replay.proofs.summary.managed_names.Given as goal

abbrev pub invariant-loop-name : goal.invariant-loop-name
invariant-loop-name g l = map string_bytes l.names.items ≡ map (λ name. string_bytes name.now) l.yielded
