use Rattle.std.proofs.Common.{rules}
use Rattle.tv_base.specs.declared.error.TantivyError.TheVariants.{Memory}
use Rattle.tv_reader.proofs.Searches.{seen_answers, seen_error}
use Rattle.tv_reader.specs.Searching.{GivesChild}
use Rattle.tv_reader.proofs.search.children_of.Goals as goal

pub returns-clause-ok : goal.returns-clause-ok
returns-clause-ok g c =
    seen_answers _ (GivesChild (g.W.Weight.matched c.args.weight.now) (g.C.Collector.collected c.args.collector.now)) (λ at. (at.0, at.1.now)) (λ x r k. search rules) _ _ c.into_iter.ensures.runs _ _ c.into_iter.ensures.rest _ c.in_ok-places.ensures (λ v. v.items) c.map.result c.map.ensures.answers

pub returns-clause-err : goal.returns-clause-err
returns-clause-err g c =
    seen_error _ (GivesChild (g.W.Weight.matched c.args.weight.now) (g.C.Collector.collected c.args.collector.now)) (λ at. (at.0, at.1.now)) (λ x r k. search rules) _ _ c.into_iter.ensures.runs _ _ c.into_iter.ensures.rest _ c.in_ok-places.ensures Memory c.map.result c.map.ensures.error
