-- What performing an action on the files promises.
use Rattle.std.specs.Prelude.{ℕ, ◌≡◌, ◌≤◌, ◌+◌, Bool, false, true, List, length, Result, IfErr, IfOk, OnErr, OnOk}
use Rattle.std.specs.List.{AllByRecursion}
use Rattle.tv_base.specs.declared.error.TantivyError.{TantivyError}
use Rattle.tv_base.specs.declared.error.TantivyError.TheVariants as errors
use Rattle.tv_base.specs.declared.open_errors.OpenReadError.{OpenReadError}
use Rattle.tv_device.specs.View.{DeletesNone, GoesOn, Told, View}
use Rattle.tv_device.specs.declared.directory.Directory.{Ghosts}
use Rattle.tv_formats.specs.Commits.{Commit}
use Rattle.tv_formats.specs.Files.{Rose, RoseBy}
use Rattle.tv_formats.specs.Names.{meta_name}
use Rattle.tv_formats.specs.Segments.{all_required}
use Rattle.tv_machine.specs.Machine.{refused_in}
use Rattle.tv_machine.specs.Readable.{AreGoodFiles}
use Rattle.tv_machine.specs.SoundStates.{IsWhole}
use Rattle.tv_machine.specs.State.{State}
use Rattle.tv_managed.specs.Collecting.{meta_lock_name}
use Rattle.tv_catalog.specs.Actions.{AppendsSome, IsNoted, MayGive, OnlyKeeps, SavesNoCommit, SpentBy, Suits, LocksMeta, TriesDeletes, added_by, after, given_by, keeps_lock, reply_in}
use Rattle.tv_store.specs.Applying.{KeepsLocks, LeavesAlone, LeavesCommit, SavesPrinted, UnloadedFor}
use Rattle.tv_store.specs.Bodies.{MeetsBadFile}
use Rattle.tv_store.specs.Kept.{FilesState, Holds, kept_of}
use Rattle.tv_store.specs.ReadCauses.{ApplyCause, IsReadError, LoadingCause, ReadFacts, reading_facts}
use Rattle.tv_store.specs.Stays.{KeepsDotted}
use Rattle.tv_store.specs.StoreCauses.{IsBusy, LockingCause}
use Rattle.tv_catalog.specs.declared.action.Action.{Action}
use Rattle.tv_catalog.specs.declared.action.Action.TheVariants as actions
use Rattle.tv_catalog.specs.declared.action.Reply.{Reply}
use Rattle.tv_catalog.specs.declared.action.Reply.TheVariants as replies
use Rattle.tv_device.specs.Watch.{MayNote, WatchState}

-- nobody was registered or called, and a notice of a commit comes only by a save
abbrev pub MayNoteBy : Action → WatchState → WatchState → Type 0
MayNoteBy (actions.Save commit text required) old new = MayNote meta_name old new
MayNoteBy other old new = new ≡ old

-- The files of a store hold this state of the machine, beside its catalog.
abbrev pub FilesHold : {O W C : Type 0} → Ghosts O W C → FilesState O → State → Type 0
FilesHold g files s = Holds (g.view files.outside).reads (kept_of s.catalog files) s

-- where the content is told, the commit of each whole state that these files hold requires a file that can't
-- be read, of which the first is refused with this error
abbrev pub LacksFile : {O W C : Type 0} → Ghosts O W C → FilesState O → OpenReadError → Type 0
LacksFile g files error =
    g.told.content → (s : State) → FilesHold g files s → IsWhole s
    → MeetsBadFile s (all_required s.catalog.commit.segments) error

-- where the content is told, these files hold no whole state
abbrev pub HoldNone : {O W C : Type 0} → Ghosts O W C → FilesState O → Type 0
HoldNone g files = g.told.content → (s : State) → FilesHold g files s → IsWhole s → ⊥

-- what is known of a call that loads the commit of `meta.json` with the files that it requires
abbrev pub loading_facts : {O W C : Type 0} → Ghosts O W C → (old new : FilesState O) → ReadFacts
loading_facts g old new =
    reading_facts (Rose (g.view old.outside).faults (g.view new.outside).faults)
    ((g.view new.outside).faults ≡ (g.view old.outside).faults)
    (LacksFile g old) (λ path. HoldNone g old)

-- where the content is told, this commit, which a reload has noted in each whole state that these files hold,
-- requires a file that can't be read, of which the first is refused with this error
abbrev pub LacksFileOf : {O W C : Type 0} → Ghosts O W C → FilesState O → Commit → OpenReadError → Type 0
LacksFileOf g files commit error =
    g.told.content → (s : State) → FilesHold g files s → IsWhole s → IsNoted s.catalog commit
    → MeetsBadFile s (all_required commit.segments) error

-- where the content is told, these files hold no whole state in which a reload has noted this commit
abbrev pub HoldNoneWith : {O W C : Type 0} → Ghosts O W C → FilesState O → Commit → Type 0
HoldNoneWith g files commit =
    g.told.content → (s : State) → FilesHold g files s → IsWhole s → IsNoted s.catalog commit → ⊥

-- A call that takes the meta lock and loads a commit with its files fails where the lock isn't given, the
-- commit isn't loaded or a file isn't read. The lock was free if it is given; only then is `meta.json` read,
-- or a file.
pub record LoadFaults {A O W C : Type 0} (g : Ghosts O W C) (old new : FilesState O)
    (result : Result A TantivyError) : Type 0 where
  pub quiet : OnOk result ((g.view new.outside).faults ≡ (g.view old.outside).faults)
  pub free : g.told.locks → OnOk result ((g.view old.outside).locks meta_lock_name ≡ false)
  pub reads : g.told.locks
      → IfErr result (λ error. IsReadError error → (g.view old.outside).locks meta_lock_name ≡ false)
  pub cause : IfErr result (LoadingCause (record (loading_facts g old new) {
    busy = IsBusy g.told.locks ((g.view old.outside).locks meta_lock_name ≡ true)
        (Rose (g.view old.outside).faults (g.view new.outside).faults);
  }) (UnloadedFor g old.form.schema old.outside new.outside))

-- no open file has more bytes than this
abbrev pub Short : ℕ → List (List ℕ × List ℕ) → Type 0
Short bound es = AllByRecursion (λ e. length e.1 ≤ bound) es

-- This came of an action that was performed in this state, with these outcomes of its deletes: it is what
-- comes of it there; the state after it is held; where that is the state before, what is read and noted is
-- what was, but perhaps where no bytes were added to a file; and a commit that is saved is printed.
pub record Performed {O W C : Type 0} (g : Ghosts O W C) (action : Action) (old new : FilesState O)
    (from : State × List Bool) (reply : Reply) : Type 0 where
  pub reply_is : reply ≡ reply_in from.0 action from.1
  pub held : FilesHold g new (after from.0 action reply)
  pub same : AppendsSome action → after from.0 action reply ≡ from.0
      → LeavesAlone (g.view old.outside) (g.view new.outside)
  pub saves : (commit : Commit) → reply ≡ replies.Saved commit
      → SavesPrinted old.form (g.view old.outside) (g.view new.outside) commit

-- What performing an action leaves of the directory: writers go on, nothing was told, the room for a line
-- didn't shrink, no lock was taken or freed but the one that is kept for a reload, and nobody was registered
-- or called. Unless it tries to delete files, no writer lost its file, and no delete was refused. A notice
-- comes by a save.
pub record KeepsBy {W : Type 0} (told : Told) (action : Action) (was_locked now_locked : Bool)
    (old new : View W) : Type 0 where
  pub goes_on : GoesOn told old new
  pub deletes_none : (TriesDeletes action → ⊥) → DeletesNone told old new
  pub heard : new.heard ≡ old.heard
  pub room : old.room ≤ new.room
  pub locks : told.locks → KeepsLocks was_locked now_locked old.locks new.locks
  pub watched : MayNoteBy action old.watched new.watched

-- What a load of the current commit promises of its errors; and at Ok the files of that commit can be read.
pub record LoadsOrFails {O W C : Type 0} (g : Ghosts O W C) (old new : FilesState O)
    (result : Result Reply TantivyError) : Type 0 where
  pub faults : LoadFaults g old new result
  pub readable : g.told.content → (s : State) → FilesHold g old s → IsWhole s
      → OnOk result (AreGoodFiles s (all_required s.catalog.commit.segments))

-- What a read of the files of a commit that a reload has noted promises of its errors; and at Ok these files
-- can be read.
pub record ReadsOrFails {O W C : Type 0} (g : Ghosts O W C) (commit : Commit) (old new : FilesState O)
    (result : Result Reply TantivyError) : Type 0 where
  pub cause : IfErr result (ApplyCause (reading_facts
      (Rose (g.view old.outside).faults (g.view new.outside).faults)
      ((g.view new.outside).faults ≡ (g.view old.outside).faults)
      (LacksFileOf g old commit) (λ path. HoldNoneWith g old commit)))
  pub readable : g.told.content → (s : State) → FilesHold g old s → IsWhole s → IsNoted s.catalog commit
      → OnOk result (AreGoodFiles s (all_required commit.segments))

-- Why an action fails: one that loads the current commit for the causes of a load, one that reads the files of
-- another for those of such a read, any other because a lock that it takes isn't given, or as events do that
-- read no file.
abbrev pub FailsBy : {O W C : Type 0} → Ghosts O W C → Action → (old new : FilesState O)
    → Result Reply TantivyError → Type 0
FailsBy g (actions.Load generation) old new result = LoadsOrFails g old new result
FailsBy g (actions.Read commit) old new result = ReadsOrFails g commit old new result
FailsBy g other old new result = IfErr result (LockingCause
    (LocksMeta other × IsBusy g.told.locks ((g.view old.outside).locks meta_lock_name ≡ true)
    (Rose (g.view old.outside).faults (g.view new.outside).faults))
    (Rose (g.view old.outside).faults (g.view new.outside).faults)
    ((g.view new.outside).faults ≡ (g.view old.outside).faults) (SpentBy old.collections other))

-- When an action fails: at Ok the device refused no call but deletes, the lock that the action takes was
-- free, and what it may spend wasn't spent; and why it failed.
pub record FaultsBy {O W C : Type 0} (g : Ghosts O W C) (action : Action) (old new : FilesState O)
    (result : Result Reply TantivyError) : Type 0 where
  pub quiet : OnOk result ((g.view new.outside).faults ≡ (g.view old.outside).faults)
  pub free : g.told.locks → LocksMeta action
      → OnOk result ((g.view old.outside).locks meta_lock_name ≡ false)
  pub fits : OnOk result (SpentBy old.collections action → ⊥)
  pub cause : FailsBy g action old new result

-- no commit was saved
abbrev pub SavedNone : Reply → Type 0
SavedNone (replies.Saved commit) = ⊥
SavedNone other = Unit {0}

-- What stands in `meta.json`: an action that saves no commit leaves it, whatever comes of it. An error leaves
-- the commit before, or, where a call was refused, the one that the action saves; want of memory leaves what
-- was read before, and so does a reply that tells of no commit which was saved.
pub record MetaBy {O W C : Type 0} (g : Ghosts O W C) (action : Action) (old new : FilesState O)
    (result : Result Reply TantivyError) : Type 0 where
  pub unsaved : SavesNoCommit action → g.told.content
      → (g.view new.outside).reads meta_name ≡ (g.view old.outside).reads meta_name
  pub failed : g.told.content → (s : State) → FilesHold g old s → IsWhole s → Suits s action
      → (deletes : List Bool)
      → OnErr result (LeavesCommit (Rose (g.view old.outside).faults (g.view new.outside).faults)
      ((g.view old.outside).reads meta_name) ((g.view new.outside).reads meta_name) old.form
      (after s action (reply_in s action deletes)).catalog.commit)
  pub memory : g.told.content → IfErr result (λ error. error ≡ errors.Memory
      → (g.view new.outside).reads meta_name ≡ (g.view old.outside).reads meta_name)
  pub spared : g.told.content → IfOk result (λ reply. SavedNone reply
      → (g.view new.outside).reads meta_name ≡ (g.view old.outside).reads meta_name)

-- An action was performed, with some outcomes of its deletes, of which no more were refused than their count
-- rose: what came of it, from each whole state that was held and that suits it. What it leaves in
-- `meta.json`. No file with a dot in front was changed but the list; no open file is longer than the longest
-- was and what is added, and the number that the next collection gets is no higher than what was and what the
-- action gives; when it fails; what it kept; and at Ok the meta lock is kept for a reload as the action says,
-- after an error as it was.
pub record Performs {O W C : Type 0} (g : Ghosts O W C) (action : Action) (old new : FilesState O)
    (result : Result Reply TantivyError) : Type 0 where
  pub gives : IfOk result (MayGive old.collections old.managed action)
  pub performed : IfOk result (λ reply. (deletes : List Bool)
      × RoseBy (refused_in deletes) (g.view old.outside).refusals (g.view new.outside).refusals
      × (g.told.content → (s : State) → FilesHold g old s → IsWhole s → Suits s action
      → Performed g action old new (s, deletes) reply))
  pub alone : OnlyKeeps action → g.told.content
      → LeavesAlone (g.view old.outside) (g.view new.outside)
  pub meta : MetaBy g action old new result
  pub dotted : g.told.content → KeepsDotted (g.view old.outside).reads (g.view new.outside).reads
  pub lens : (bound : ℕ) → Short bound old.open_files → Short (bound + added_by action) new.open_files
  pub numbers : OnOk result (new.collections.next ≤ old.collections.next + given_by action)
  pub faults : FaultsBy g action old new result
  pub form : new.form ≡ old.form
  pub frame : KeepsBy g.told action old.locked new.locked (g.view old.outside) (g.view new.outside)
  pub keeps : OnOk result (new.locked ≡ keeps_lock action old.locked)
  pub stays : OnErr result (new.locked ≡ old.locked)
