use Rattle.tv_base.specs.declared.error.TantivyError.TheVariants.{Memory}
use Rattle.tv_base.proofs.MapSteps.{drawn_answers, drawn_error}
use Rattle.tv_base.proofs.executor.Executor.map.Goals as goal

pub returns-in-SingleThread-clause-answers : goal.returns-in-SingleThread-clause-answers
returns-in-SingleThread-clause-answers g c =
    drawn_answers (λ x r. g.F.Fn.post c.args.f (x, tt) r) _ _ c.in_ok-args.args.items _ (λ v. v.items) c.in_turn.result (c.in_ok-args.ensures.runs tt) c.in_turn.ensures.answers

pub returns-in-SingleThread-clause-error : goal.returns-in-SingleThread-clause-error
returns-in-SingleThread-clause-error g c =
    drawn_error (λ x r. g.F.Fn.post c.args.f (x, tt) r) _ _ c.in_ok-args.args.items _ Memory c.in_turn.result (c.in_ok-args.ensures.runs tt) c.in_turn.ensures.error

pub returns-clause-answers : goal.returns-clause-answers
returns-clause-answers g c =
    drawn_answers (λ x r. g.F.Fn.post c.args.f (x, tt) r) _ _ c.in_ok-args.args.items _ (λ v. v.items) c.in_parts.result (c.in_ok-args.ensures.runs tt) c.in_parts.ensures.answers

pub returns-clause-error : goal.returns-clause-error
returns-clause-error g c =
    drawn_error (λ x r. g.F.Fn.post c.args.f (x, tt) r) _ _ c.in_ok-args.args.items _ Memory c.in_parts.result (c.in_ok-args.ensures.runs tt) c.in_parts.ensures.error
