use Rattle.std.proofs.Common.{◌≡◌, map, take}
use Rattle.std.specs.List.{enumerate_from}
use Rattle.tv_reader.proofs.search.in_places.Given as goal

abbrev pub invariant-loop-i : goal.invariant-loop-i
invariant-loop-i l = map (λ at. (at.0, at.1.now)) l.places.items ≡ enumerate_from 0 (take l.i l.readers)
