use Rattle.std.proofs.Common.{◌≡◌, true, subst}
use Rattle.tv_device.specs.Locks.{LockCause}
use Rattle.tv_index.specs.CrashLaws.{looks_settled}
use Rattle.tv_store.proofs.Locking.{not_given, not_synced}
use Rattle.tv_store.proofs.opening.lock_writer.Goals as goal

pub returns-in-Err-clause-refused : goal.returns-in-Err-clause-refused
returns-in-Err-clause-refused g c bytes spelled =
    let failed = c.in-Err.ensures in
    not_synced g.O.Directory c.args.outside c.sync_directory.new.self bytes c.args.schema.now c.in-Err.fault c.from.result spelled c.from.ensures failed.faults.cause failed.frame (λ t. looks_settled g.O.Directory (failed.images t))

pub returns-in-Err-acquire_lock : goal.returns-in-Err-acquire_lock
returns-in-Err-acquire_lock g c =
    let D = g.O.Directory in
    let synced = c.sync_directory.new.self in
    let kept = c.in_default.ensures in
    let failed = c.in-Err-acquire_lock.ensures in
    record {
      name = tt;
      locked = tt;
      refused = λ bytes spelled.
          not_given D c.args.outside synced kept.faults.quiet kept.frame (λ t. looks_settled D (kept.images t)) c.acquire_lock.new.self failed.acquires.err failed.frame failed.images bytes c.args.schema.now spelled
          c.in-Err-acquire_lock.error c.without_lock.result.directory c.without_lock.result.error
          (subst (λ n. D.told.locks → LockCause ((D.view synced).locks n ≡ true) (Unit {0}) (Unit {0}) c.in-Err-acquire_lock.error) c.index_writer_lock.ensures.name failed.faults.busy)
          failed.faults.cause c.without_lock.ensures;
    }
