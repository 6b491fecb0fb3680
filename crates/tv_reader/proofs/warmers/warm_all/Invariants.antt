use Rattle.std.proofs.Common.{◌≡◌, length}
use Rattle.tv_reader.specs.Warming.{Called, UpTo, Warmed}
use Rattle.tv_reader.proofs.warmers.warm_all.Given as goal

abbrev pub invariant-loop-i : goal.invariant-loop-i
invariant-loop-i g l =
    UpTo (Called g.W.Warmer.errors g.W.Warmer.test g.W.Warmer.called_for (Warmed l.searcher.shown)) l.i l.initial.slots.items l.slots.items × (length l.slots.items ≡ length l.initial.slots.items)
