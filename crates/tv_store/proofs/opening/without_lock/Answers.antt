use Rattle.tv_store.proofs.Locking.{refuses_lock}
use Rattle.tv_store.proofs.opening.without_lock.Goals as goal

pub returns-in_default : goal.returns-in_default
returns-in_default g c = refuses_lock g.O.Directory c.args.outside c.args.schema.now c.args.error c.from.result c.in_default.not-LockBusy c.from.ensures
