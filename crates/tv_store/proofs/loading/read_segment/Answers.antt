use Rattle.tv_store.proofs.FileStates.{disk_same}
use Rattle.tv_store.proofs.loading.read_segment.Goals as goal

pub returns-in_err-names-clause-images : goal.returns-in_err-names-clause-images
returns-in_err-names-clause-images g c t = disk_same _
