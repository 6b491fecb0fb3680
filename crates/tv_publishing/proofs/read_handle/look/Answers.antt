use Rattle.tv_publishing.proofs.Steps.{enters}
use Rattle.tv_publishing.proofs.read_handle.look.Goals as goal

pub enter_as-requires : goal.enter_as-requires
enter_as-requires c = enters _ _ c.requires.reads
