use Rattle.std.proofs.lemmas.Result.{IfOk-weaker}
use Rattle.tv_replay.proofs.Deriving.{derived}
use Rattle.tv_replay.proofs.laws.tells_a_run_of_the_machine.Goals as goal

pub returns : goal.returns
returns g c = record {
  headline = λ content heard locks start text told.
      IfOk-weaker c.replay.result.outcome _ _ (λ tally did. derived g.O.Directory _ _ _ text _ tally content heard locks start told c.replay.ensures.frame did) c.replay.ensures.done;
  crashes = c.replay.ensures.survives;
}
