use Rattle.std.proofs.lemmas.Result.{IfOk-weaker}
use Rattle.tv_script.proofs.LineLaws.{no_event, no_leading_zero, no_two_spaces, some_lower_case}
use Rattle.tv_script.proofs.laws.spells_an_event_one_way.Goals as goal

pub returns-clause-zero : goal.returns-clause-zero
returns-clause-zero c rest some is = IfOk-weaker c.parse_event.result _ _ (λ found. no_event c.args.line.now found (no_leading_zero c.args.line.now rest some is)) c.parse_event.ensures.found

pub returns-clause-spaces : goal.returns-clause-spaces
returns-clause-spaces c front rest is = IfOk-weaker c.parse_event.result _ _ (λ found. no_event c.args.line.now found (no_two_spaces c.args.line.now front rest is)) c.parse_event.ensures.found

pub returns-clause-lower : goal.returns-clause-lower
returns-clause-lower c word is = IfOk-weaker c.parse_event.result _ _ (λ found. some_lower_case c.args.line.now word found is) c.parse_event.ensures.found
