use Rattle.std.proofs.Common.{Ok, subst}
use Rattle.tv_base.specs.declared.error.TantivyError.TheVariants.{Memory}
use Rattle.tv_reader.proofs.Searches.{by_weight}
use Rattle.tv_reader.proofs.searcher.Searcher.search.Goals as goal

pub returns-in-Ok-check_schema : goal.returns-in-Ok-check_schema
returns-in-Ok-check_schema g c = record {
  searched = by_weight Memory (g.Q.Query.weighed c.args.query.now) (g.C.Collector.checked c.args.collector.now c.args.self.now.shown.schema) g.Q.W.Weight.matched (g.C.Collector.collected c.args.collector.now) (g.C.Collector.merged c.args.collector.now) c.segment_readers.result.now c.args.self.now.shown.segments c.in-Ok.weight c.merge_of.result c.in-Ok.ensures (subst (λ schema. g.C.Collector.checked c.args.collector.now schema (Ok tt)) c.schema.ensures.schema c.in-Ok-check_schema.ensures) c.segment_readers.ensures.segments c.merge_of.ensures;
}
