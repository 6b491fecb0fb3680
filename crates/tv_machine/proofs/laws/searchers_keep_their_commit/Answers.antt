use Rattle.tv_machine.proofs.Serving.{serves, serves_as_sealed, serves_states}
use Rattle.tv_machine.proofs.laws.searchers_keep_their_commit.Goals as goal

pub returns : goal.returns
returns c = record { serves = λ s turns opened. serves s turns opened.reading opened.next; states = λ s turns opened sound. serves_states s turns opened.reading sound; as_sealed = serves_as_sealed }
