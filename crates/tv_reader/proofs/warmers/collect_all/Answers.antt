use Rattle.std.proofs.Common.{rules, length-set}
use Rattle.tv_reader.proofs.WarmingOrder.{step, done}
use Rattle.tv_reader.specs.Warming.{Called, WasTold}
use Rattle.tv_reader.proofs.warmers.collect_all.Goals as goal

pub loop-i-preserved : goal.loop-i-preserved
loop-i-preserved g c =
    let one = c.collect_at.ensures in let m = g.W.Warmer in
    rw one.written
    (step (Called m.errors m.test m.called_for (WasTold c.args.live.now)) c.loop-i.i _ _ one.from one.to c.loop-i.invariant.0 (search rules) one.at one.changed, search (rules, length-set))

pub returns : goal.returns
returns g c =
    let m = g.W.Warmer in
    done (Called m.errors m.test m.called_for (WasTold c.args.live.now)) c.loop-i.i _ _ c.loop-i.invariant.0 (search rules)
