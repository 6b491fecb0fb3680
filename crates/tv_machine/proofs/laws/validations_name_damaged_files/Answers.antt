use Rattle.tv_machine.proofs.Validating.{validates}
use Rattle.tv_machine.proofs.laws.validations_name_damaged_files.Goals as goal

pub returns : goal.returns
returns c = record { validates = validates }
