-- How a directory is taken under the lock of the one who writes its index, and what is found there.
use Rattle.std.specs.Prelude.{◌≡◌, ◌⊎◌, ℕ, List, None}
use Rattle.tv_base.specs.Errors.{of_lock}
use Rattle.tv_base.specs.declared.error.TantivyError.{TantivyError}
use Rattle.tv_base.specs.declared.error.TantivyError.TheVariants as errors
use Rattle.tv_base.specs.declared.open_errors.LockError.{LockError}
use Rattle.tv_base.specs.declared.open_errors.LockError.TheVariants as lock
use Rattle.tv_device.specs.Locks.{SameLocks, TakesLock}
use Rattle.tv_device.specs.View.{OnlyLocks, OnlyReads}
use Rattle.tv_device.specs.declared.directory.Directory.{Ghosts}
use Rattle.tv_index.specs.Crashes.{LacksMeta, MayMake, OnlyLooks}
use Rattle.tv_index.specs.Openable.{IsOpenable}
use Rattle.tv_index.specs.Opening.{Finds, LeavesFound, OpenCause, first_text}
use Rattle.tv_formats.specs.Files.{Reads, Rose}
use Rattle.tv_formats.specs.Schemas.{IsSchema}
use Rattle.tv_machine.specs.State.{Catalog}
use Rattle.tv_store.specs.Kept.{FilesState, StoreState}
use Rattle.tv_store.specs.Making.{FindsFiles}
use Rattle.tv_store.specs.StoreCauses.{writer_lock_name}

-- This is the directory that was handed in, under the lock of its writer, which was free. Nothing else
-- changed, no call was refused, and a crash leaves no more than it might.
pub record IsUnderLock {O W C : Type 0} (g : Ghosts O W C) (outside locked : O) : Type 0 where
  pub took : g.told.locks
      → TakesLock (g.view outside).locks (g.view locked).locks writer_lock_name
  pub only : OnlyLocks g.told (g.view outside) (g.view locked)
  pub quiet : (g.view locked).faults ≡ (g.view outside).faults
  pub looks : g.tells_images → OnlyLooks g outside locked

-- Why an index isn't opened while its lock is held: as it wouldn't be opened under the lock; and where
-- it would, the lock is told.
abbrev pub LockedOutCause : (tells : Type 0) → (schema : List ℕ) → Reads → (refused quiet : Type 0)
    → TantivyError → Type 0
LockedOutCause tells schema reads refused quiet (errors.LockFailure lock.LockBusy text) =
    quiet × (tells → IsOpenable reads schema) × (text ≡ None)
LockedOutCause tells schema reads refused quiet other = OpenCause tells schema reads refused quiet other

-- A directory whose lock is held was looked at, and comes back.
pub record LockedOut {O W C : Type 0} (g : Ghosts O W C) (outside : O) (schema : List ℕ) (now : O)
    (error : TantivyError) : Type 0 where
  pub cause : LockedOutCause g.told.content schema (g.view outside).reads
      (Rose (g.view outside).faults (g.view now).faults)
      ((g.view now).faults ≡ (g.view outside).faults) error
  pub frame : OnlyReads g.told (g.view outside) (g.view now)
  pub looks : g.tells_images → OnlyLooks g outside now

-- The lock wasn't given, for this reason: where it is held, the directory was looked at; else it comes
-- back at once.
abbrev pub RefusesLock : {O W C : Type 0} → Ghosts O W C → (outside : O) → (schema : List ℕ) → LockError
    → (now : O) → TantivyError → Type 0
RefusesLock g outside schema lock.LockBusy now error = LockedOut g outside schema now error
RefusesLock g outside schema why now error = (now ≡ outside) × (error ≡ of_lock why)

-- The index was found, or made, in the directory that was handed in, under the lock of its writer.
pub record FindsUnderLock {O W C : Type 0} (g : Ghosts O W C) (outside : O) (schema : List ℕ)
    (catalog : Catalog) (files : FilesState O) : Type 0 where
  pub spelled : IsSchema schema files.form.schema
  pub locked : O
  pub under : IsUnderLock g outside locked
  pub found : FindsFiles g locked files.form.schema catalog files

-- The directory was only read from; or the lock of its writer was taken first, which was free.
abbrev pub WritesUnderLock : {O W C : Type 0} → Ghosts O W C → (outside now : O) → Type 0
WritesUnderLock {O = O} g outside now =
    OnlyReads g.told (g.view outside) (g.view now) ⊎ ((locked : O) × IsUnderLock g outside locked)

-- An opening reads all that it goes by, and writes all that it writes, under the lock of the writer:
-- there is a directory that is the one handed in but for that lock, which was free. What the store
-- holds was found there, with its settings, its commit and its list; from there on no more was written
-- than the first commit of a new index, and the lock was kept.
pub record OpensUnderLock {O W C : Type 0} (g : Ghosts O W C) (outside : O) (store : StoreState O)
    : Type 0 where
  pub locked : O
  pub under : IsUnderLock g outside locked
  pub finds : g.told.content
      → Finds (g.view locked).reads store.kept.form store.kept.catalog.commit store.kept.managed
  pub leaves : g.told.content
      → LeavesFound (g.view locked).reads (g.view store.outside).reads store.kept.form.schema
  pub makes : g.tells_images
      → MayMake g (LacksMeta g locked) (first_text store.kept.form.schema) locked store.outside
  pub keeps : g.told.locks → SameLocks (g.view locked).locks (g.view store.outside).locks
