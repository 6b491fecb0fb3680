use Rattle.tv_crashes.proofs.RunsTold.{and_runs, and_runs_whole, no_turn, stopped, stopped_then, told_turn}
use Rattle.tv_crashes.proofs.laws.runs_are_joined.Goals as goal

pub returns : goal.returns
returns g c = record {
  none = λ form s safe silent. no_turn s safe silent;
  told = λ form s turn did tells. told_turn did tells;
  untold = λ form s turn safe silent. stopped safe silent;
  stopped_then = λ form s turns run within silent. stopped_then run within silent;
  joined = λ form s first second a b. and_runs a b;
  whole = λ form s first second a b. and_runs_whole a b;
}
