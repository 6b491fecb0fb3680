use Rattle.std.proofs.Common.{refl}
use Rattle.tv_publishing.proofs.Steps.{begins}
use Rattle.tv_publishing.proofs.publisher.Publisher.new.Goals as goal

pub new-requires-clause-rule : goal.new-requires-clause-rule
new-requires-clause-rule c = begins _ refl refl
