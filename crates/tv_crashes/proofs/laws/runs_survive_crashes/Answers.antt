use Rattle.tv_crashes.proofs.RunsTold.{survives, told_kept}
use Rattle.tv_crashes.proofs.laws.runs_survive_crashes.Goals as goal

pub returns : goal.returns
returns g c = record {
  survives = λ form s turns run. survives run;
  not_lost = λ form s turns run. told_kept run;
}
