use Rattle.std.proofs.Common.{rules, ◌≡◌, List, IfOk, subst}
use Rattle.tv_reader.specs.Readers.{live_generations}
use Rattle.tv_reader.specs.Searchers.{Generation}
use Rattle.tv_reader.specs.Warming.{Collects}
use Rattle.tv_reader.proofs.publishing.collect.Goals as goal

pub returns-clause-ok : goal.returns-clause-ok
returns-clause-ok g c =
    let m = g.W.Warmer in
    let is : c.as_slice.result.now ≡ live_generations c.args.published.now = search rules in
    subst (λ (l : List Generation). IfOk c.collect_ended.result (Collects m.errors m.test m.called_for l c.args.warmers.now c.collect_ended.new.self)) is c.collect_ended.ensures.ok
