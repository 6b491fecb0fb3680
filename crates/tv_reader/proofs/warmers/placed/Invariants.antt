use Rattle.std.proofs.Common.{◌≡◌, ◌++◌, map, Some}
use Rattle.tv_reader.proofs.warmers.placed.Given as goal

abbrev pub invariant-loop-warmer : goal.invariant-loop-warmer
invariant-loop-warmer g l = map Some l.fn.warmers.items ≡ l.slots.items ++ map Some l.warmer-iterator.rest.items
