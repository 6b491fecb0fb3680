use Rattle.std.proofs.Common.{rules}
use Rattle.std.specs.List.{AllZip}
use Rattle.tv_base.specs.declared.error.TantivyError.TheVariants.{Memory}
use Rattle.tv_base.proofs.Parts.{IsPart, each_job, all_answered, first_failed}
use Rattle.tv_base.proofs.executor.in_parts.Goals as goal

pub returns-in-Err-clause-error : goal.returns-in-Err-clause-error
returns-in-Err-clause-error g c =
    let parts = c.in_ok-parts.parts.items in
    let each : AllZip (IsPart (λ x r. g.F.Fn.post c.args.f.now (x, tt) r) (λ p. p.items) (λ w. w.items) Memory) parts c.in_ok-answers.answers.items
    = each_job _ _ _ (λ j r k. search rules) _ _ (search rules) c.in_ok-answers.ensures.each in
    rw (← c.in_ok-parts.ensures.all) (first_failed _ _ _ _ (λ r a k. search rules) Memory _ _ _ each c.in-Err.ensures.error)

pub returns-in_ok-flattened-in-Ok-clause-answers : goal.returns-in_ok-flattened-in-Ok-clause-answers
returns-in_ok-flattened-in-Ok-clause-answers g c =
    let parts = c.in_ok-parts.parts.items in
    let each : AllZip (IsPart (λ x r. g.F.Fn.post c.args.f.now (x, tt) r) (λ p. p.items) (λ w. w.items) Memory) parts c.in_ok-answers.answers.items
    = each_job _ _ _ (λ j r k. search rules) _ _ (search rules) c.in_ok-answers.ensures.each in
    rw (← c.in_ok-parts.ensures.all, c.in_ok-flattened-in-Ok.ensures.all) (all_answered _ _ _ _ (λ r a k. search rules) Memory _ _ _ each c.in-Ok.ensures.answers)
