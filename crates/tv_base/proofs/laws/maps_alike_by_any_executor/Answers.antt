use Rattle.tv_base.proofs.MapLaws.{mapped_values}
use Rattle.tv_base.proofs.laws.maps_alike_by_any_executor.Goals as goal

pub returns : goal.returns
returns g c h of =
    mapped_values (λ x r. g.F.Fn.post c.args.f (x, tt) r) h of _ _ c.into_iter.ensures.runs _ _ c.into_iter.ensures.rest (λ v. v.items) c.map.result
    c.map.ensures.answers
