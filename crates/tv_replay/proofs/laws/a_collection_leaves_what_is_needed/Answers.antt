use Rattle.std.proofs.lemmas.Result.{IfOk-weaker}
use Rattle.tv_replay.proofs.LastCollections.{leaves_needed}
use Rattle.tv_replay.proofs.laws.a_collection_leaves_what_is_needed.Goals as goal

pub returns : goal.returns
returns g c = record {
  needed = λ content start text told ends quiet.
      IfOk-weaker c.replay.result.outcome _ _ (λ tally did. leaves_needed g.O.Directory _ _ _ text _ tally content start told ends quiet did) c.replay.ensures.done;
}
