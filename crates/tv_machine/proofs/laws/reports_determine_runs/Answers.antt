use Rattle.tv_machine.proofs.Telling.{determined}
use Rattle.tv_machine.proofs.laws.reports_determine_runs.Goals as goal

pub returns : goal.returns
returns c = record { determined = determined }
