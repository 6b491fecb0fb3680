use Rattle.std.proofs.Common.{sym, ◌∙◌}
use Rattle.std.proofs.lemmas.List.{length-map}
use Rattle.std.proofs.lemmas.Result.{IfOk-weaker}
use Rattle.tv_machine.specs.Machine.{Turn, events_of}
use Rattle.tv_events.specs.Script.{lines_of}
use Rattle.tv_replay.proofs.Progress.{AreLines-length}
use Rattle.tv_replay.proofs.laws.replays_the_whole_script.Goals as goal

pub returns-clause-counted : goal.returns-clause-counted
returns-clause-counted g c text told =
    IfOk-weaker c.replay.result.outcome _ _ (λ tally did.
    did.counted ∙ sym (length-map did.turns (λ (turn : Turn). turn.0)) ∙ sym (AreLines-length (lines_of text) (events_of did.turns) (did.lines text told))) c.replay.ensures.done
