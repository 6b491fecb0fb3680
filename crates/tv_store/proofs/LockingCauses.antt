-- Causes of calls that take a lock.
use Rattle.tv_base.specs.declared.error.TantivyError.{TantivyError}
use Rattle.tv_base.specs.declared.error.TantivyError.TheVariants as errors
use Rattle.tv_base.specs.declared.open_errors.LockError.TheVariants as lock
use Rattle.tv_store.specs.StoreCauses.{LockingCause}

-- a cause by a lock and by what is spent, said of others
pub locking_as : {busy spent b s : Type 0} (refused quiet : Type 0) → (busy → b) → (spent → s) → (error : TantivyError) → LockingCause busy refused quiet spent error → LockingCause b refused quiet s error
locking_as refused quiet f k (errors.LockFailure lock.LockBusy text) h = (f h.0, h.1)
locking_as refused quiet f k (errors.LockFailure (lock.IoError fault) text) h = h
locking_as refused quiet f k (errors.LockFailure lock.Memory text) h = absurd h.0
locking_as refused quiet f k (errors.IoError fault) h = h
locking_as refused quiet f k (errors.OpenWriteError why) h = h
locking_as refused quiet f k errors.Exhausted h = (h.0, k h.1)
locking_as refused quiet f k errors.Memory h = h
locking_as refused quiet f k other h = absurd h
