use Rattle.tv_base.specs.declared.error.TantivyError.TheVariants.{Memory}
use Rattle.tv_base.proofs.MapLaws.{mapped_error}
use Rattle.tv_base.proofs.laws.answers_the_first_error.Goals as goal

pub returns : goal.returns
returns g c h of =
    mapped_error (λ x r. g.F.Fn.post c.args.f (x, tt) r) h of _ _ c.into_iter.ensures.runs _ _ c.into_iter.ensures.rest Memory c.map.result
    c.map.ensures.error
