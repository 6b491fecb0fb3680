use Rattle.tv_base.specs.declared.error.TantivyError.TheVariants.{Memory}
use Rattle.tv_reader.proofs.SearchLaws.{fails_first}
use Rattle.tv_reader.proofs.laws.a_search_answers_the_first_error.Goals as goal

pub returns : goal.returns
returns g c f of =
    fails_first Memory (g.Q.Query.weighed c.args.query.now) (g.C.Collector.checked c.args.collector.now c.args.searcher.now.shown.schema) g.Q.W.Weight.matched (g.C.Collector.collected c.args.collector.now) (g.C.Collector.merged c.args.collector.now) c.args.searcher.now.shown.segments f of c.search.result c.search.ensures.searched
