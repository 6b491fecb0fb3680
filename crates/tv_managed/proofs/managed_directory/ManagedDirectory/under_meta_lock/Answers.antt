use Rattle.std.proofs.Common.{rules, ◌≡◌, ◌∙◌, refl, Result, Ok, Err, subst, sym}
use Rattle.std.specs.Result.{IsErrAnd}
use Rattle.tv_base.specs.Errors.{of_lock}
use Rattle.tv_base.specs.declared.error.TantivyError.{TantivyError}
use Rattle.tv_base.specs.declared.open_errors.LockError.{LockError}
use Rattle.tv_base.specs.declared.open_errors.LockError.TheVariants as lock
use Rattle.tv_device.specs.Calls.{LockFaults}
use Rattle.tv_device.specs.ViewLaws.{tells_then}
use Rattle.tv_device.specs.declared.directory.Directory.{Ghosts}
use Rattle.tv_managed.specs.Collecting.{LockedFaults, meta_lock_name}
use Rattle.tv_managed.specs.Names.{ManagedNames}
use Rattle.tv_managed.specs.TrackLaws.{keeps_then}
use Rattle.tv_managed.proofs.managed_directory.ManagedDirectory.under_meta_lock.Goals as goal

-- the lock wasn't given
failed_lock : {A B D W C : Type 0} (g : Ghosts D W C) {old new : D × ManagedNames} (error : LockError) → LockFaults {A = A} g.told (g.view old.0) (g.view new.0) meta_lock_name (Err error) → LockedFaults {A = B} g old new (Err (of_lock error))
failed_lock g lock.LockBusy f = record { quiet = tt; free = λ tells. tt; busy = λ tells. (f.busy tells, refl); given = refl; cause = (f.cause, refl) }
failed_lock g (lock.IoError fault) f = record { quiet = tt; free = λ tells. tt; busy = λ tells. (f.busy tells, refl); given = refl; cause = (f.cause, refl) }
failed_lock g lock.Memory f = record { quiet = tt; free = λ tells. tt; busy = λ tells. tt; given = refl; cause = f.cause }

failed : {A B D W C : Type 0} (g : Ghosts D W C) {old new : D × ManagedNames} (error : LockError) (result : Result B TantivyError) → IsErrAnd result (λ e. e ≡ of_lock error) → LockFaults {A = A} g.told (g.view old.0) (g.view new.0) meta_lock_name (Err error) → LockedFaults {A = B} g old new result
failed g error (Ok x) is f = absurd is
failed {B = B} g {old} {new} error (Err e) is f = subst (λ why. LockedFaults {A = B} g old new (Err why)) (sym is) (failed_lock g error f)

pub returns-in_err-lock-clause-asks : goal.returns-in_err-lock-clause-asks
returns-in_err-lock-clause-asks g c =
    let D = g.D.Directory in
    record {
      frame = search rules;
      images = search rules;
      faults = failed D c.in_err-lock.field-0.0 c.from_residual.result c.from_residual.ensures.1 (subst (λ name. LockFaults D.told (D.view c.args.self.now.0) (D.view c.acquire_lock.new.self.0) name (Err c.in_err-lock.field-0.0)) c.meta_lock.ensures.name c.in_err-lock.ensures.faults);
    }

pub returns-clause-asks : goal.returns-clause-asks
returns-clause-asks g c =
    let D = g.D.Directory in
    let takes = c.in_ok-lock.ensures in
    let frees = c.release.ensures.frees in
    let first = takes.frame.below in
    let second = frees.below.frame in
    record {
      frame = record {
        names = frees.names ∙ takes.frame.names;
        below = record {
          kept = record {
            frame = record {
              tells_none = tells_then first.tells_none second.tells_none;
              locks = search rules;
            };
            watched = second.watched ∙ first.watched;
          };
          content = λ tells n. second.content tells n ∙ first.content tells n;
        };
      };
      images = λ tells. keeps_then (takes.images tells) (c.release.ensures.images tells);
      faults = record { quiet = frees.below.faults ∙ takes.faults.quiet; free = search rules; busy = λ tells. tt; given = tt; cause = tt };
    }
