use Rattle.std.proofs.Common.{◌≡◌, ◌⊎◌, List, inl, inr, subst}
use Rattle.std.specs.Arc.{arc_value}
use Rattle.tv_base.specs.declared.error.TantivyError.TheVariants.{Memory}
use Rattle.tv_reader.specs.Publishing.{IsOfOne}
use Rattle.tv_reader.proofs.publishing.build.Goals as goal

pub returns-in-Err-open_warmed-clause-cause : goal.returns-in-Err-open_warmed-clause-cause
returns-in-Err-open_warmed-clause-cause g c =
    let e = c.in-Err-open_warmed.error in
    inr (
      arc_value c.in-Ok.commit,
      c.in-Ok.ensures.commit,
      subst (λ (ws : List g.row.W.Denot). (e ≡ Memory) ⊎ IsOfOne g.W.Warmer.test ws e) c.listed.ensures c.in-Err-open_warmed.ensures.cause,
    )

pub returns-in-Err-clause-cause : goal.returns-in-Err-clause-cause
returns-in-Err-clause-cause g c = inl c.in-Err.ensures.cause
