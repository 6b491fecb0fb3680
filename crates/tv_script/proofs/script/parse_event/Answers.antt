use Rattle.std.proofs.Common.{◌∙◌, ap, map, arith}
use Rattle.std.proofs.lemmas.Result.{IfOk-weaker}
use Rattle.tv_script.specs.EventWords.{event_in}
use Rattle.tv_script.proofs.GrammarLaws.{line_found, line_only}
use Rattle.tv_script.proofs.script.parse_event.Goals as goal

pub returns-clause-found : goal.returns-clause-found
returns-clause-found c =
    IfOk-weaker c.event_of.result _ _ (λ found is.
    line_found c.args.line.now _ found (omega arith) c.in_ok-words.ensures (is ∙ ap (λ ws. event_in (map (λ w. w.now) ws)) c.as_slice.ensures.value)) c.event_of.ensures

pub returns-clause-only : goal.returns-clause-only
returns-clause-only c event line =
    IfOk-weaker c.event_of.result _ _ (λ found is.
    line_only c.args.line.now _ found c.in_ok-words.ensures (is ∙ ap (λ ws. event_in (map (λ w. w.now) ws)) c.as_slice.ensures.value) event line) c.event_of.ensures
