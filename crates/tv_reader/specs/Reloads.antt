-- How the last commit of an index is read, under the meta lock, and why it isn't.
use Rattle.std.specs.Prelude.{◌≡◌, ◌⊎◌, ℕ, false, true, List, Some, None, Result, IfErr, OnErr, OnOk}
use Rattle.std.specs.List.{AllByRecursion}
use Rattle.tv_base.specs.Causes.{IsDevice}
use Rattle.tv_base.specs.declared.error.TantivyError.{TantivyError}
use Rattle.tv_base.specs.declared.error.TantivyError.TheVariants as errors
use Rattle.tv_base.specs.declared.open_errors.LockError.TheVariants as lock
use Rattle.tv_device.specs.Locks.{SameLocks, TakesLock}
use Rattle.tv_device.specs.View.{Told, View}
use Rattle.tv_device.specs.declared.directory.Directory.{Ghosts}
use Rattle.tv_formats.specs.Commits.{Commit}
use Rattle.tv_formats.specs.Files.{Rose}
use Rattle.tv_formats.specs.Names.{meta_name}
use Rattle.tv_formats.specs.Segments.{all_required}
use Rattle.tv_index.specs.Indexes.{IndexState}
use Rattle.tv_index.specs.Standing.{LoadsMeta, MetaCause}
use Rattle.tv_managed.specs.Collecting.{meta_lock_name}
use Rattle.tv_metas.specs.Metas.{commit_of}
use Rattle.tv_metas.specs.declared.index_meta.UntrackedIndexMeta.{UntrackedIndexMeta}
use Rattle.tv_reader.specs.Bodies.{IsRead, UnreadCause}
use Rattle.tv_reader.specs.Searchers.{CommitRead, commit_read}

-- The meta lock was free and is held, where the call succeeded; else each lock is as it was.
pub record LocksMeta {A W : Type 0} (told : Told) (old new : View W)
    (result : Result A TantivyError) : Type 0 where
  pub ok : told.locks → OnOk result (TakesLock old.locks new.locks meta_lock_name)
  pub err : told.locks → OnErr result (SameLocks old.locks new.locks)

-- this commit was read, under this schema
pub record IsOfCommit (schema : List ℕ) (commit : Commit) (read : CommitRead) : Type 0 where
  pub schema_is : read.schema ≡ schema
  pub commit_is : commit_read read ≡ commit

-- the bodies of a commit are those of the files that its segments require
abbrev pub AreBodies : {D W C : Type 0} → Ghosts D W C → D → CommitRead → Type 0
AreBodies g directory commit =
    g.told.content → AllByRecursion (IsRead (g.view directory).reads) commit.segments

-- the last commit of an index is noted: the one that `meta.json` means under the index's schema
abbrev pub NotesLast : {D W C : Type 0} → Ghosts D W C → IndexState D → List ℕ → Commit → Type 0
NotesLast g index schema commit =
    (meta : UntrackedIndexMeta) × LoadsMeta g index.directory.0 (Some index.schema) meta
    × (schema ≡ meta.schema) × (commit ≡ commit_of meta)

-- the last commit of an index was read
abbrev pub ReadsLast : {D W C : Type 0} → Ghosts D W C → IndexState D → CommitRead → Type 0
ReadsLast g index commit =
    NotesLast g index commit.schema (commit_read commit) × AreBodies g index.directory.0 commit

-- the last commit of an index was read under the meta lock, which was free, and the device refused nothing
pub record LoadsLast {D W C : Type 0} (g : Ghosts D W C) (old new : IndexState D) (commit : CommitRead)
    : Type 0 where
  pub reads : ReadsLast g old commit
  pub free : g.told.locks → (g.view old.directory.0).locks meta_lock_name ≡ false
  pub quiet : (g.view new.directory.0).faults ≡ (g.view old.directory.0).faults

-- Why the meta lock isn't taken: it is held, as far as that is told; or the device refused the call.
abbrev pub LockedOut : {W : Type 0} → Told → (old new : View W) → TantivyError → Type 0
LockedOut told old new (errors.LockFailure lock.LockBusy None) =
    (told.locks → old.locks meta_lock_name ≡ true)
    × ((told.locks × (new.faults ≡ old.faults)) ⊎ Rose old.faults new.faults)
LockedOut told old new (errors.LockFailure (lock.IoError fault) None) =
    IsDevice fault × Rose old.faults new.faults
LockedOut told old new errors.Memory = new.faults ≡ old.faults
LockedOut told old new other = ⊥

-- Why something isn't done under the meta lock: the lock isn't taken; or it was free, and this is why.
abbrev pub UnderLockCause : {W : Type 0} → Told → (old new : View W) → (TantivyError → Type 0)
    → TantivyError → Type 0
UnderLockCause told old new why e =
    LockedOut told old new e ⊎ ((told.locks → old.locks meta_lock_name ≡ false) × why e)

-- why `meta.json` of an index isn't read
abbrev pub NoMeta : {D W C : Type 0} → Ghosts D W C → (old new : IndexState D) → TantivyError → Type 0
NoMeta g old new = MetaCause g.told.content (Some old.schema) ((g.view old.directory.0).reads meta_name)
    (Rose (g.view old.directory.0).faults (g.view new.directory.0).faults)
    ((g.view new.directory.0).faults ≡ (g.view old.directory.0).faults)

-- why not all files of a commit are read that `meta.json` of an index means
abbrev pub NotAllFiles : {D W C : Type 0} → Ghosts D W C → (old new : IndexState D) → TantivyError
    → Type 0
NotAllFiles g old new e =
    (schema : List ℕ) × (commit : Commit) × NotesLast g old schema commit
    × UnreadCause g old.directory.0 new.directory.0 (all_required commit.segments) e

-- why the last commit of an index isn't read by one who holds the meta lock
abbrev pub CommitCause : {D W C : Type 0} → Ghosts D W C → (old new : IndexState D) → TantivyError
    → Type 0
CommitCause g old new e = NoMeta g old new e ⊎ NotAllFiles g old new e

-- why the last commit of an index isn't noted
abbrev pub NoteCause : {D W C : Type 0} → Ghosts D W C → (old new : IndexState D) → TantivyError → Type 0
NoteCause g old new =
    UnderLockCause g.told (g.view old.directory.0) (g.view new.directory.0) (NoMeta g old new)

-- why the last commit of an index isn't read
abbrev pub LoadCause : {D W C : Type 0} → Ghosts D W C → (old new : IndexState D) → TantivyError → Type 0
LoadCause g old new =
    UnderLockCause g.told (g.view old.directory.0) (g.view new.directory.0) (CommitCause g old new)

-- what is done under the meta lock fails for these causes; at Ok the device refused no call, and the lock was
-- free
pub record UnderFaults {A D W C : Type 0} (g : Ghosts D W C) (old new : IndexState D)
    (cause : TantivyError → Type 0) (result : Result A TantivyError) : Type 0 where
  pub quiet : OnOk result ((g.view new.directory.0).faults ≡ (g.view old.directory.0).faults)
  pub free : g.told.locks → OnOk result ((g.view old.directory.0).locks meta_lock_name ≡ false)
  pub why : IfErr result cause
