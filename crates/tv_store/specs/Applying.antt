-- An event, applied to a store that is open.
use Rattle.std.specs.Prelude.{ℕ, ◌≡◌, ◌≢◌, ◌≤◌, ◌+◌, ◌⊎◌, Bool, true, false, List, Option, Some, IsSome, Result, IfErr, OnOk, OnErr, is_ok}
use Rattle.tv_base.specs.declared.error.TantivyError.{TantivyError}
use Rattle.tv_base.specs.declared.error.TantivyError.TheVariants as errors
use Rattle.tv_base.specs.declared.open_errors.OpenReadError.{OpenReadError}
use Rattle.tv_device.specs.Locks.{FreesLock, Locks, SameLocks, TakesLock}
use Rattle.tv_device.specs.View.{View, GoesOn, OnlyTells}
use Rattle.tv_device.specs.Watch.{WatchState, MayNote, noted}
use Rattle.tv_device.specs.declared.directory.Directory.{Ghosts}
use Rattle.tv_index.specs.Saving.{saved_text}
use Rattle.tv_index.specs.Standing.{MetaCause}
use Rattle.tv_formats.specs.Names.{meta_name}
use Rattle.tv_formats.specs.Files.{Reads, Heard, Rose, RoseBy, Same}
use Rattle.tv_formats.specs.Commits.{Commit, IndexForm}
use Rattle.tv_machine.specs.Living.{is_busy}
use Rattle.tv_formats.specs.Meaning.{Means}
use Rattle.tv_formats.specs.Segments.{all_required}
use Rattle.tv_machine.specs.State.{State}
use Rattle.tv_events.specs.declared.event.Event.{Event}
use Rattle.tv_events.specs.declared.event.Event.TheVariants as events
use Rattle.tv_machine.specs.SoundStates.{IsWhole}
use Rattle.tv_machine.specs.Machine.{Turn, catalog_step, step, refused_in}
use Rattle.tv_machine.specs.Readable.{ReadsGood, read_by}
use Rattle.tv_managed.specs.Collecting.{meta_lock_name}
use Rattle.tv_catalog.specs.Kept.{KeptState}
use Rattle.tv_store.specs.Kept.{StoreState, Holds, AtMost, IsHeld}
use Rattle.tv_catalog.specs.Effects.{LoadsCommit, ReadsFiles, TakesMetaLock, written_by, WritesByStep}
use Rattle.tv_catalog.specs.Exhausted.{IsExhausted}
use Rattle.tv_catalog.specs.ReaderNumbers.{FewNumbers}
use Rattle.tv_store.specs.Bodies.{MeetsBadFile}
use Rattle.tv_store.specs.ReadCauses.{LoadingCause, IsReadError, ReadFacts}
use Rattle.tv_store.specs.StoreCauses.{IsBusy}
use Rattle.tv_store.specs.Stays.{KeepsDotted}
use Rattle.tv_store.specs.Telling.{TellsFirstPart}

-- Each name reads what it read, and no notice came.
pub record LeavesAlone {W : Type 0} (old new : View W) : Type 0 where
  pub reads : Same old.reads new.reads
  pub watched : new.watched ≡ old.watched

-- `meta.json` reads this commit's printed form, with a line feed, and a notice of it stands.
pub record SavesPrinted {W : Type 0} (form : IndexForm) (old new : View W) (commit : Commit)
    : Type 0 where
  pub text : new.reads meta_name ≡ Some (saved_text form.settings form.schema commit)
  pub notice : new.watched ≡ noted meta_name old.watched

-- what an event does that commits, and whose step leads from one state to another: where that is another
-- one, the commit is saved; of any other event nothing is said
abbrev pub SavesAt : {W : Type 0} → Event → IndexForm → (old new : View W) → (before after : State)
    → Type 0
SavesAt (events.Commit payload ids) form old new before after =
    after ≢ before → SavesPrinted form old new after.catalog.commit
SavesAt other form old new before after = Unit {0}

-- The state after this turn's step is held, and this is the step's answer; where its event reads a
-- commit's files it could do so; where the step leaves the state as it was, each name reads what it read,
-- and no notice came, but perhaps by a write of no bytes to an open file; and a commit is saved unless it
-- is refused.
pub record StepsHeld {O W C : Type 0} (g : Ghosts O W C) (old new : StoreState O) (s : State)
    (turn : Turn) (answer : List ℕ) : Type 0 where
  pub told : answer ≡ (step s turn.0 turn.1).0
  pub held : IsHeld g new (step s turn.0 turn.1).1
  pub readable : ReadsGood s turn.0
  pub unchanged : WritesByStep old.kept turn.0 → (step s turn.0 turn.1).1 ≡ s
      → LeavesAlone (g.view old.outside) (g.view new.outside)
  pub saves : SavesAt turn.0 old.kept.form (g.view old.outside) (g.view new.outside)
      s (step s turn.0 turn.1).1

-- One event was applied, with some outcomes of its deletes, of which no more were refused than
-- their count rose: each whole state that was held has made its step.
pub record Stepped {O W C : Type 0} (g : Ghosts O W C) (old new : StoreState O) (event : Event)
    (answer : List ℕ) : Type 0 where
  pub outcomes : List Bool
  pub refused : RoseBy (refused_in outcomes)
      (g.view old.outside).refusals (g.view new.outside).refusals
  pub each : g.told.content → (s : State) → IsHeld g old s → IsWhole s
      → StepsHeld g old new s (event, outcomes) answer

-- what `meta.json` reads after an error: what it read before; or, where this is so, a text that means this
-- commit
abbrev pub LeavesCommit : (given : Type 0) (before now : Option (List ℕ)) → IndexForm → Commit → Type 0
LeavesCommit given before now form commit =
    (now ≡ before)
    ⊎ (given × ((text : List ℕ) × (now ≡ Some text) × Means form.settings form.schema text commit))

-- an event failed: `meta.json` reads what it read before; or, where a call was refused, the commit that the
-- event makes
abbrev pub LeavesOldOrNew : (refused : Type 0) (before now : Option (List ℕ))
    → IndexForm → State → Event → Type 0
LeavesOldOrNew refused before now form s event =
    (outcomes : List Bool) × LeavesCommit refused before now form (step s event outcomes).1.catalog.commit

-- the event reads the files of a commit, and the first of them that can't be read is refused with this error
abbrev pub MeetsBadAt : State → Event → OpenReadError → Type 0
MeetsBadAt s event error =
    (commit : Commit) × (read_by s event ≡ Some commit) × MeetsBadFile s (all_required commit.segments) error

-- where the content is told, it does so from each state that is held
abbrev pub BadIn : (tells : Type 0) → Reads → KeptState → Event → OpenReadError → Type 0
BadIn tells reads kept event error =
    tells → (s : State) → Holds reads kept s → IsWhole s → MeetsBadAt s event error

-- where the content is told, there is no such state
abbrev pub HoldsNone : (tells : Type 0) → Reads → KeptState → Type 0
HoldsNone tells reads kept = tells → (s : State) → Holds reads kept s → IsWhole s → ⊥

-- `meta.json` of an index with this schema isn't loaded, for this cause
abbrev pub UnloadedFor : {O W C : Type 0} → Ghosts O W C → (schema : List ℕ) → (old new : O)
    → TantivyError → Type 0
UnloadedFor g schema old new =
    MetaCause g.told.content (Some schema) ((g.view old).reads meta_name)
    (Rose (g.view old).faults (g.view new).faults) ((g.view new).faults ≡ (g.view old).faults)

-- the event loads `meta.json`, which isn't loaded, for this cause
abbrev pub UnloadedAt : {O W C : Type 0} → Ghosts O W C → (old new : StoreState O)
    → Event → TantivyError → Type 0
UnloadedAt g old new event error =
    LoadsCommit old.kept.catalog event
    × UnloadedFor g old.kept.form.schema old.outside new.outside error

-- the event reads the files of a commit, of which one is refused with this error
abbrev pub RefusedAt : {O W C : Type 0} → Ghosts O W C → (old : StoreState O) → Event → OpenReadError → Type 0
RefusedAt g old event error =
    ReadsFiles old.kept.catalog event × BadIn g.told.content (g.view old.outside).reads old.kept event error

-- the event reads the files of a commit, of which one isn't there
abbrev pub GoneAt : {O W C : Type 0} → Ghosts O W C → (old : StoreState O) → Event → Type 0
GoneAt g old event =
    ReadsFiles old.kept.catalog event × HoldsNone g.told.content (g.view old.outside).reads old.kept

-- what is known of an event, by which its error is explained; `spent` says that a number or the
-- length of a file would pass 64 bits
abbrev pub event_facts : {O W C : Type 0} → Ghosts O W C → (spent : Type 0)
    → (old new : StoreState O) → Event → ReadFacts
event_facts g spent old new event = record {
  busy = TakesMetaLock old.kept.catalog event × IsBusy g.told.locks
      ((g.view old.outside).locks meta_lock_name ≡ true)
      (Rose (g.view old.outside).faults (g.view new.outside).faults);
  refused = Rose (g.view old.outside).faults (g.view new.outside).faults;
  quiet = (g.view new.outside).faults ≡ (g.view old.outside).faults;
  spent = spent;
  bad = RefusedAt g old event;
  absent = λ path. GoneAt g old event;
}

-- An event fails where it takes a lock that isn't given; where it loads `meta.json`, which isn't there, or
-- means no commit of this index; where it reads the files of a commit, and one can't be read; where the
-- device refused a call, where memory was wanted, or where a number or the length of a file would pass 64
-- bits.
abbrev pub ActCause : {O W C : Type 0} → Ghosts O W C → (old new : StoreState O)
    → Event → TantivyError → Type 0
ActCause g old new event =
    LoadingCause (event_facts g (IsExhausted old.kept event) old new event)
    (UnloadedAt g old new event)

-- At Ok the device refused no call but deletes, the lock that the event takes was free, and no number and no
-- length passes 64 bits; the lock that it takes was free too where a file wasn't read, or `meta.json` was
-- refused; and why the event failed.
pub record ApplyFaults {O W C : Type 0} (g : Ghosts O W C) (old new : StoreState O) (event : Event)
    (result : Result (List ℕ) TantivyError) : Type 0 where
  pub quiet : OnOk result ((g.view new.outside).faults ≡ (g.view old.outside).faults)
  pub free : g.told.locks → TakesMetaLock old.kept.catalog event
      → OnOk result ((g.view old.outside).locks meta_lock_name ≡ false)
  pub fits : OnOk result (IsExhausted old.kept event → ⊥)
  pub reads : g.told.locks → TakesMetaLock old.kept.catalog event
      → IfErr result (λ error. IsReadError error → (g.view old.outside).locks meta_lock_name ≡ false)
  pub cause : IfErr result (ActCause g old new event)

-- no more was told than a first part of the event's line
abbrev pub TellsPartOf : (before now : Heard) → State → Event → Type 0
TellsPartOf before now s event = (outcomes : List Bool) × TellsFirstPart before now (step s event outcomes).0

-- An error leaves the commit before, or, where a call was refused, that of the event; want of memory the one
-- before. Of the event's line no more than a first part was told.
pub record LeavesMeta {O W C : Type 0} (g : Ghosts O W C) (old new : StoreState O) (event : Event)
    (result : Result (List ℕ) TantivyError) : Type 0 where
  pub meta : g.told.content → (s : State) → IsHeld g old s → IsWhole s
      → OnErr result (LeavesOldOrNew (Rose (g.view old.outside).faults (g.view new.outside).faults)
      ((g.view old.outside).reads meta_name) ((g.view new.outside).reads meta_name) old.kept.form s event)
  pub memory : g.told.content → IfErr result
      (λ error. error ≡ errors.Memory
      → (g.view new.outside).reads meta_name ≡ (g.view old.outside).reads meta_name)
  pub part : g.told.content → g.told.heard → (s : State) → IsHeld g old s → IsWhole s
      → OnErr result (TellsPartOf (g.view old.outside).heard (g.view new.outside).heard s event)

-- No open file is longer by more than the bytes that the event adds, and at Ok no number of readers,
-- searchers, snapshots and collections is larger by more than it takes.
pub record Grows (old new : KeptState) (event : Event) (result : Result (List ℕ) TantivyError) : Type 0 where
  pub lens : (bound more : ℕ) → written_by event ≤ more → AtMost bound old → AtMost (bound + more) new
  pub numbers : (bound more : ℕ) → written_by event ≤ more
      → FewNumbers bound old.catalog.reading old.collections
      → OnOk result (FewNumbers (bound + more) new.catalog.reading new.collections)

-- nobody was registered or called; and only a commit may change whether a notice of one stands
abbrev pub MayNoteAt : Event → WatchState → WatchState → Type 0
MayNoteAt (events.Commit payload ids) old new = MayNote meta_name old new
MayNoteAt other old new = new ≡ old

-- What an event does that needs the catalog and the managed names alone: it asks the directory for no file,
-- of which it keeps what such a call keeps, and is answered no error of a file that is read.
pub record AsksNoFile {O W C : Type 0} (keeps : View W → View W → Type 0) (g : Ghosts O W C)
    (old new : StoreState O) (result : Result (List ℕ) TantivyError) : Type 0 where
  pub below : keeps (g.view old.outside) (g.view new.outside)
  pub error : IfErr result (λ error. IsReadError error → ⊥)

-- Each lock stands as it stood; but where a reload now waits for its files (`now_busy`) and none did
-- (`was_busy`), the meta lock was free and is held, and where one did and none does, it is free.
abbrev pub KeepsLocks : (was_busy now_busy : Bool) → Locks → Locks → Type 0
KeepsLocks false false old new = SameLocks old new
KeepsLocks false true old new = TakesLock old new meta_lock_name
KeepsLocks true false old new = FreesLock old new meta_lock_name
KeepsLocks true true old new = SameLocks old new

-- What each event keeps: the locks, but for that of a reload that waits for its files, who watches, the
-- settings and the schema, and the files with a dot in front, the list apart. A writer that may be handed
-- in still may. An event that needs no file asks the directory only to tell its line. The store is open
-- unless an error came.
pub record AppliesFrame {O W C : Type 0} (g : Ghosts O W C) (old new : StoreState O) (event : Event)
    (result : Result (List ℕ) TantivyError) : Type 0 where
  pub goes_on : GoesOn g.told (g.view old.outside) (g.view new.outside)
  pub locks : g.told.locks → KeepsLocks (is_busy old.kept.catalog) (is_busy new.kept.catalog)
      (g.view old.outside).locks (g.view new.outside).locks
  pub watched : MayNoteAt event (g.view old.outside).watched (g.view new.outside).watched
  pub form : new.kept.form ≡ old.kept.form
  pub dotted : g.told.content → KeepsDotted (g.view old.outside).reads (g.view new.outside).reads
  pub alone : IsSome (catalog_step old.kept.catalog old.kept.managed event)
      → AsksNoFile (OnlyTells g.told) g old new result
  pub is_open : new.standing.is_open ≡ is_ok result

-- An event that nothing disturbs, from a state that is held: what is read is told, and the locks are; the
-- files that it reads can be read, the lock that it takes is free, no number and no length passes 64 bits,
-- and no call is refused.
pub record IsUndisturbedEvent {O W C : Type 0} (g : Ghosts O W C) (old new : StoreState O)
    (event : Event) : Type 0 where
  pub content : g.told.content
  pub locks : g.told.locks
  pub state : State
  pub held : IsHeld g old state
  pub whole : IsWhole state
  pub readable : ReadsGood state event
  pub free : TakesMetaLock old.kept.catalog event → (g.view old.outside).locks meta_lock_name ≡ false
  pub fits : IsExhausted old.kept event → ⊥
  pub quiet : Rose (g.view old.outside).faults (g.view new.outside).faults → ⊥
