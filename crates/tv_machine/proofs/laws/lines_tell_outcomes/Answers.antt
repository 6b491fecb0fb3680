use Rattle.tv_machine.proofs.Telling.{tells, tells_step}
use Rattle.tv_machine.proofs.laws.lines_tell_outcomes.Goals as goal

pub returns : goal.returns
returns c = record { tells = tells; step = tells_step }
