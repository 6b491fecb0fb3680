use Rattle.std.proofs.Common.{◌≡◌, map, take}
use Rattle.tv_reader.proofs.warmers.ids_of.Given as goal

abbrev pub invariant-loop-generation : goal.invariant-loop-generation
invariant-loop-generation l = l.ids.items ≡ map (λ g. g.id) (take l.generation-index l.live)
