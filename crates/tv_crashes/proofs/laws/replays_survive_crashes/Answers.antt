use Rattle.tv_crashes.proofs.RunsTold.{opens_then, opens_untold, report_kept}
use Rattle.tv_crashes.proofs.laws.replays_survive_crashes.Goals as goal

pub returns : goal.returns
returns g c = record {
  opened = λ form s turns opens run. opens_then opens run;
  unopened = λ form s turns opens. opens_untold s turns opens;
  not_lost = λ form s turns run. report_kept run;
}
