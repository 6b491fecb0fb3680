use Rattle.tv_publishing.proofs.Steps.{admits}
use Rattle.tv_publishing.proofs.publisher.Publisher.handle.Goals as goal

pub reader-requires : goal.reader-requires
reader-requires c = admits
