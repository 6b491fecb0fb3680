use Rattle.std.proofs.Common.{◌≡◌, map, take}
use Rattle.tv_reader.proofs.published.generations_in.Given as goal

abbrev pub invariant-loop-shown : goal.invariant-loop-shown
invariant-loop-shown l = l.live.items ≡ map (λ c. c.now.generation) (take l.shown-index l.counted)
