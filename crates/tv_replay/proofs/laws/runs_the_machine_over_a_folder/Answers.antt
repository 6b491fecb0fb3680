use Rattle.tv_replay.proofs.Deriving.{ends_soundly, ran}
use Rattle.tv_replay.proofs.laws.runs_the_machine_over_a_folder.Goals as goal

pub returns : goal.returns
returns g c = record {
  headline = ran g.P.Out.Directory g.P.Place.told _ _ _ _ c.run.ensures.ends;
  crashes = λ start t sound. ends_soundly g.P.Out.Directory g.P.Place.told _ _ _ start t sound _ c.run.ensures.ends;
}
