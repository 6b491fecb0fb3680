use Rattle.std.proofs.Common.{rules, length-set}
use Rattle.tv_reader.proofs.WarmingOrder.{step, all_good, first_bad}
use Rattle.tv_reader.specs.Warming.{Called, Stopped, Warmed}
use Rattle.tv_reader.proofs.warmers.warm_all.Goals as goal

pub returns-in-Err : goal.returns-in-Err
returns-in-Err g c =
    let one = c.in-Err.ensures.err in let m = g.W.Warmer in
    rw one.written
    (first_bad (Called m.errors m.test m.called_for (Warmed c.args.searcher.now.shown)) (Stopped m.errors m.test m.called_for (Warmed c.args.searcher.now.shown)) c.loop-i.i _ _ one.from one.to _ c.loop-i.invariant.0 (search rules) one.at one.changed)

pub loop-i-preserved : goal.loop-i-preserved
loop-i-preserved g c =
    let one = c.in_default.ensures.ok in let m = g.W.Warmer in
    rw one.written
    (step (Called m.errors m.test m.called_for (Warmed c.args.searcher.now.shown)) c.loop-i.i _ _ one.from one.to c.loop-i.invariant.0 (search rules) one.at one.changed, search (rules, length-set))

pub returns : goal.returns
returns g c =
    let m = g.W.Warmer in
    all_good (Called m.errors m.test m.called_for (Warmed c.args.searcher.now.shown)) (Stopped m.errors m.test m.called_for (Warmed c.args.searcher.now.shown)) c.loop-i.i _ _ c.loop-i.invariant.0 (search rules)
