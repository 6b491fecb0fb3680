-- A script replayed over a directory.
use Rattle.std.specs.Prelude.{ℕ, ◌≡◌, ◌≢◌, ◌⊎◌, ◌+◌, ◌≤◌, Bool, true, false, List, [], ◌∷◌, ◌++◌, length, codes, Option, Some, None, IsSome, option_map, Result, IfErr, OnOk, string_bytes}
use Rattle.std.specs.Fmt.{decimal}
use Rattle.tv_events.specs.declared.event.Event.{Event}
use Rattle.tv_events.specs.declared.event.Event.TheVariants as events
use Rattle.tv_formats.specs.Names.{meta_name}
use Rattle.tv_formats.specs.Files.{Reads, Same, Heard, Rose, RoseBy}
use Rattle.tv_formats.specs.Commits.{IndexForm}
use Rattle.tv_formats.specs.Schemas.{IsSchema, IsNoSchema, stripped}
use Rattle.tv_formats.specs.Meaning.{Means}
use Rattle.tv_machine.specs.State.{State}
use Rattle.tv_machine.specs.Machine.{Turn, step, after, report, events_of, all_refused}
use Rattle.tv_machine.specs.Readable.{AllReadGood}
use Rattle.tv_machine.specs.Serving.{Serves, ServesAsSealed}
use Rattle.tv_machine.specs.Collecting.{CollectsIn, CollectsInStepsIn}
use Rattle.tv_machine.specs.Validating.{Validates}
use Rattle.tv_events.specs.Script.{lines_of, AreLines}
use Rattle.tv_machine.specs.Index.{DirectoryHolds, FoundIndex, OpenedIndex, found_commits}
use Rattle.tv_formats.specs.Sound.{HasFiles, IsSoundDirectory, IsSoundImage}
use Rattle.tv_crashes.specs.Runs.{ReplaySurvives}
use Rattle.tv_base.specs.Causes.{IsDevice}
use Rattle.tv_base.specs.Streams.{SourceView}
use Rattle.tv_device.specs.Locks.{Locks, SameLocks}
use Rattle.tv_device.specs.View.{View, Told, GoesOn}
use Rattle.tv_device.specs.Watch.{MayNote}
use Rattle.tv_device.specs.declared.directory.Directory.{Ghosts}
use Rattle.tv_managed.specs.Collecting.{meta_lock_name}
use Rattle.tv_base.specs.declared.open_errors.LockError.TheVariants as lock
use Rattle.tv_base.specs.declared.error.TantivyError.{TantivyError}
use Rattle.tv_base.specs.declared.error.TantivyError.TheVariants as errors
use Rattle.tv_replay.specs.declared.replaying.Tally.{Tally}
use Rattle.tv_script.specs.ScriptLines.{IsNoEvent, IsTooLong, IsAhead}
use Rattle.tv_catalog.specs.Effects.{TakesMetaLock}
use Rattle.tv_store.specs.ReadCauses.{ReadFault}
use Rattle.tv_index.specs.Opening.{NotesMade, OpenCause}
use Rattle.tv_store.specs.StoreCauses.{IsBusy, QuietBehind, RefusedBehind, WriteFault, writer_lock_name}
use Rattle.tv_store.specs.OpeningCauses.{CallFacts, IsSomeSchema, OpeningCause, schema_refusal}
use Rattle.tv_store.specs.Making.{IsRefusedFirst, LeavesRefused}
use Rattle.tv_store.specs.Applying.{MeetsBadAt}
use Rattle.tv_store.specs.Stays.{KeepsDotted}
use Rattle.tv_store.specs.Surviving.{seen_of}
use Rattle.tv_store.specs.Telling.{TellsLines, TellsNoLine}

-- no event of a run takes the meta lock
abbrev pub TakesNoLock : State → List Turn → Type 0
TakesNoLock s [] = Unit {0}
TakesNoLock s (turn ∷ turns) =
    (TakesMetaLock s.catalog turn.0 → ⊥) × TakesNoLock (step s turn.0 turn.1).1 turns

-- each validation of a run names the damaged files
abbrev pub ValidatesIn : State → List Turn → Type 0
ValidatesIn s turns =
    (front rest : List Turn) (outcomes : List Bool) → turns ≡ front ++ (events.Validate, outcomes) ∷ rest
    → Validates (after s front)

-- A replay that answered Ok: an index stood there, or was made, whose files can be read; the script is the
-- lines of some events; from the state of each index to which the directory opened, the report of the
-- machine's run on these events was told, line by line, and the directory holds the run's last state; each
-- event that reads a commit's files found that it could, and where the meta lock was held none takes it; no
-- more deletes were refused than their count rose; and from a sound start what it reads is sound. The run's
-- readers and searchers serve as `Serves` says, and from a sound start they show the body of each file; its
-- collections take what nothing needs, as `CollectsIn` says, and from a sound start those in steps as
-- `CollectsInStepsIn` says; its validations name the damaged files. Where an index was made a notice of it
-- stands. From a sound directory that tells its images a crash leaves at each moment what `ReplaySurvives`
-- says of this run.
pub record Replays {O W C : Type 0} (g : Ghosts O W C) (before now : O) (schema : List ℕ)
    (script : Option (List ℕ)) (tally : Tally) : Type 0 where
  pub turns : List Turn
  pub counted : tally.events ≡ length turns
  pub spelled : IsSomeSchema schema
  pub lines : (text : List ℕ) → script ≡ Some text → AreLines (lines_of text) (events_of turns)
  pub found : g.told.content → (index : FoundIndex schema (g.view before).reads)
      × HasFiles (g.view before).reads (found_commits index)
  pub told : g.told.content → g.told.heard → (index : OpenedIndex schema (g.view before).reads)
      → TellsLines (g.view before).heard (g.view now).heard (g.view before).moment (g.view now).moment
      (report index.state turns)
  pub holds : g.told.content → (index : OpenedIndex schema (g.view before).reads)
      → DirectoryHolds index.form.settings index.form.schema (g.view now).reads (after index.state turns)
  pub readable : g.told.content → (index : OpenedIndex schema (g.view before).reads)
      → AllReadGood index.state turns
  pub unlocked : g.told.content → g.told.locks → (g.view before).locks meta_lock_name ≡ true
      → (index : OpenedIndex schema (g.view before).reads) → TakesNoLock index.state turns
  pub serves : g.told.content → (index : OpenedIndex schema (g.view before).reads) → Serves index.state turns
  pub collects : g.told.content → (index : OpenedIndex schema (g.view before).reads)
      → CollectsIn index.state turns
  pub validates : g.told.content → (index : OpenedIndex schema (g.view before).reads)
      → ValidatesIn index.state turns
  pub refused : RoseBy (all_refused turns) (g.view before).refusals (g.view now).refusals
  pub opens : g.told.content → (text : List ℕ) → IsSchema schema text
      → IsSoundImage text (g.view before).reads → OpenedIndex schema (g.view before).reads
  pub as_sealed : g.told.content → (text : List ℕ) → IsSchema schema text
      → IsSoundImage text (g.view before).reads → (index : OpenedIndex schema (g.view before).reads)
      → ServesAsSealed index.state turns
  pub in_steps : g.told.content → (text : List ℕ) → IsSchema schema text
      → IsSoundImage text (g.view before).reads → (index : OpenedIndex schema (g.view before).reads)
      → CollectsInStepsIn index.state turns
  pub sound : g.told.content → (text : List ℕ) → IsSchema schema text
      → IsSoundImage text (g.view before).reads → IsSoundImage text (g.view now).reads
  pub notes : NotesMade g.told (g.view before) (g.view now)
  pub survives : g.tells_images → g.told.heard → g.told.locks
      → IsSoundDirectory (stripped schema) (g.disk before) (g.view before).locks
      → (index : OpenedIndex schema (g.view before).reads)
      → ReplaySurvives index.form (seen_of g before) (seen_of g now) index.state turns

-- what was told of a script was read to its end
abbrev pub IsReadOut : SourceView → SourceView → Type 0
IsReadOut script script_now = (text : List ℕ) → script.left ≡ Some text → script_now.left ≡ Some []

-- a call of the directory that was no delete, or a read of the script, was refused
abbrev pub IsRefusedAt : {W : Type 0} → (old new : View W) → (script script_now : SourceView) → Type 0
IsRefusedAt old new script script_now = Rose old.faults new.faults ⊎ Rose script.faults script_now.faults

-- no call of the directory but deletes, and no read of the script, was refused
abbrev pub IsQuietAt : {W : Type 0} → (old new : View W) → (script script_now : SourceView) → Type 0
IsQuietAt old new script script_now = (new.faults ≡ old.faults) × (script_now.faults ≡ script.faults)

-- the lines before a place are events' lines, and this is what is left of the script there
pub record StopsAtLine (script : List ℕ) (number : ℕ) (rest : List ℕ) : Type 0 where
  pub texts : List (List ℕ)
  pub events : List Event
  pub each : AreLines texts events
  pub place : length texts + 1 ≡ number
  pub split : lines_of script ≡ texts ++ lines_of rest

-- what is said of a line that is no event's
abbrev pub line_refusal : ℕ → List ℕ
line_refusal number = codes "line " ++ decimal number ++ codes " is not of the event grammar"

-- what is said of a line that is longer than a line may be
abbrev pub long_refusal : ℕ → List ℕ
long_refusal number = codes "line " ++ decimal number ++ codes " is longer than 1048576 bytes"

-- the text names the first line that is refused, where the script is told: one that is too long, or else one
-- that is no event's
abbrev pub LineRefusal : Option (List ℕ) → List ℕ → Type 0
LineRefusal script text =
    (number : ℕ) × (
    (text ≡ line_refusal number) × ((whole : List ℕ) → script ≡ Some whole
    → (rest : List ℕ) × StopsAtLine whole number rest × IsNoEvent rest)
    ⊎ (text ≡ long_refusal number) × ((whole : List ℕ) → script ≡ Some whole
    → (rest : List ℕ) × StopsAtLine whole number rest × IsTooLong rest)
    )

-- the script goes on after the last line that is taken
abbrev pub IsTooMany : Option (List ℕ) → Type 0
IsTooMany script =
    (whole : List ℕ) → script ≡ Some whole → (rest : List ℕ) × StopsAtLine whole 4294967296 rest × (rest ≢ [])

-- the first lines of a script are the lines of these events
pub record BeginsWith (script : List ℕ) (events : List Event) : Type 0 where
  pub texts : List (List ℕ)
  pub rest : List ℕ
  pub each : AreLines texts events
  pub split : lines_of script ≡ texts ++ lines_of rest

-- the next line is this event's, where the script is told
abbrev pub IsNext : (script : Option (List ℕ)) → List Turn → Event → Type 0
IsNext script turns event =
    (text : List ℕ) → script ≡ Some text → BeginsWith text (events_of turns ++ event ∷ [])

-- what is left after the lines of these events is refused so, where the script is told
abbrev pub IsRefusedNext : (script : Option (List ℕ)) → List Turn → (why : List ℕ → Type 0) → Type 0
IsRefusedNext script turns why =
    (text : List ℕ) → script ≡ Some text → (begun : BeginsWith text (events_of turns)) × why begun.rest

-- a run from a state: the settings and the schema of its index, its script, where it starts, and the lines
-- that some turns of it tell
pub record RunFrom : Type 0 where
  pub form : IndexForm
  pub script : SourceView
  pub start : State
  pub lines_of_turns : List Turn → List (List ℕ)

-- Why a run stops after the events of these turns: the next line is refused, for its number; the next event
-- takes the meta lock, which is held, or, where that is free, meets a file that can't be read, the first of
-- those that it reads; or as many lines were taken as may be, and there is one more. `meta.json` is never
-- refused there. A device may refuse a call, and memory may be wanted, at any place.
abbrev pub StopsFor : (script : Option (List ℕ)) (start : State) (turns : List Turn) (held free : Type 0)
    → TantivyError → Type 0
StopsFor script start turns held free (errors.InvalidArgument text) =
    ((string_bytes text ≡ line_refusal (length turns + 1)) × IsRefusedNext script turns IsNoEvent)
    ⊎ ((string_bytes text ≡ long_refusal (length turns + 1)) × IsRefusedNext script turns IsTooLong)
StopsFor script start turns held free (errors.LockFailure lock.LockBusy text) =
    (event : Event) × IsNext script turns event × TakesMetaLock (after start turns).catalog event × held
StopsFor script start turns held free (errors.OpenReadError error) =
    ReadFault (Unit {0}) (Unit {0}) (λ e. (event : Event) × IsNext script turns event × free
    × MeetsBadAt (after start turns) event e) (λ path. ⊥) error
StopsFor script start turns held free (errors.DataCorruption why) = ⊥
StopsFor script start turns held free (errors.SchemaError text) = ⊥
StopsFor script start turns held free errors.Exhausted =
    (length turns ≡ 4294967295) × IsRefusedNext script turns (λ rest. rest ≢ [])
StopsFor script start turns held free other = Unit {0}

-- The lines of these turns were told, each at its moment, and after them no whole line.
pub record HearsTurns {W : Type 0} (run : RunFrom) (before now : View W) (turns : List Turn) : Type 0 where
  pub so_far : Heard
  pub moment : ℕ
  pub lines : TellsLines before.heard so_far before.moment moment (run.lines_of_turns turns)
  pub sooner : moment ≤ now.moment
  pub silent : TellsNoLine so_far now.heard

-- Where a run stopped with this error, and what it left: the lines of some first events of the script were
-- told, `meta.json` means the commit of these events, or of the one after them, and the error has its cause
-- there.
pub record StopsAt {W : Type 0} (told : Told) (run : RunFrom) (before now : View W) (script_now : SourceView)
    (error : TantivyError) : Type 0 where
  -- the events whose lines were told
  pub turns : List Turn
  -- the one in progress, where its commit stands already: a call was refused after that was written, and no
  -- memory was wanted
  pub ahead : List Turn
  pub one : length ahead ≤ 1
  pub refused : 1 ≤ length ahead → Rose before.faults now.faults
  pub memory : error ≡ errors.Memory → ahead ≡ []
  -- where the script is told, its first lines are those of these events
  pub lines : (text : List ℕ) → run.script.left ≡ Some text → BeginsWith text (events_of (turns ++ ahead))
  -- and beyond the lines of the events that were told no more was read than a line may have, and one byte,
  -- unless a read was refused
  pub read : (Rose run.script.faults script_now.faults → ⊥) → (text : List ℕ) → run.script.left ≡ Some text
      → (begun : BeginsWith text (events_of turns)) × IsAhead begun.rest script_now.left
  pub heard : told.heard → HearsTurns run before now turns
  -- no more deletes were refused in them than their count rose
  pub deletes : RoseBy (all_refused turns) before.refusals now.refusals
  -- each event before that reads a commit's files could do so, and none takes the meta lock where that is
  -- held
  pub readable : AllReadGood run.start turns
  pub unlocked : told.locks → before.locks meta_lock_name ≡ true → TakesNoLock run.start turns
  -- the commit that stands
  pub text : List ℕ
  pub reads : now.reads meta_name ≡ Some text
  pub means : Means run.form.settings run.form.schema text (after run.start (turns ++ ahead)).catalog.commit
  -- why the run stopped here
  pub cause : StopsFor run.script.left run.start turns (told.locks → before.locks meta_lock_name ≡ true)
      (told.locks → before.locks meta_lock_name ≡ false) error

-- what is known of the calls of an opening, where its content is told, and of refused calls it is said
-- elsewhere
abbrev pub told_facts : (held free : Type 0) → CallFacts
told_facts held free = record {
  tells = Unit {0};
  busy = held;
  free = free;
  refused = Unit {0};
  quiet = Unit {0};
  refused_behind = Unit {0};
  quiet_behind = Unit {0};
}

-- A replay: the directory before and now, the schema, and the script before and now.
pub record ReplayCall (W : Type 0) : Type 0 where
  pub before : View W
  pub now : View W
  pub schema : List ℕ
  pub script : SourceView
  pub script_now : SourceView

-- the replay of this script with this schema, which led from one directory to the other
abbrev pub replay_call : {O W C : Type 0} → Ghosts O W C → (before now : O) → (schema : List ℕ)
    → (script script_now : SourceView) → ReplayCall W
replay_call g before now schema script script_now = record {
  before = g.view before;
  now = g.view now;
  schema = schema;
  script = script;
  script_now = script_now;
}

-- a refusal that writes nothing: that of an argument, of bytes or of the lock, and any while somebody else
-- holds that lock
abbrev pub IsUnwritten : {W : Type 0} → Told → (before : View W) → TantivyError → Type 0
IsUnwritten told before error =
    IsRefusedFirst error ⊎ (told.locks × (before.locks writer_lock_name ≡ true))

-- What an opening that was refused leaves: no whole line was told, and nothing was read of the script.
-- Where `meta.json` was there each name reads what it read, and where it wasn't there may be the first
-- commit of a new index; only of that a notice may have come. An argument, bytes and the lock that were
-- refused changed nothing, and left no notice, nor did any refusal while somebody else held that lock.
-- The error is the first that holds, in the order of an opening.
pub record RefusesOpening {W : Type 0} (told : Told) (call : ReplayCall W)
    (error : TantivyError) : Type 0 where
  pub silent : told.heard → TellsNoLine call.before.heard call.now.heard
  pub unread : call.script_now ≡ call.script
  pub leaves : LeavesRefused call.before.reads call.now.reads call.schema
  pub stood : IsSome (call.before.reads meta_name) → call.now.watched ≡ call.before.watched
  pub unchanged : IsUnwritten told call.before error → Same call.before.reads call.now.reads
  pub unnoted : IsUnwritten told call.before error → call.now.watched ≡ call.before.watched
  pub cause : OpeningCause (told_facts (told.locks → call.before.locks writer_lock_name ≡ true)
      (told.locks → call.before.locks writer_lock_name ≡ false)) call.schema call.before.reads error

-- an index stood there, or was made, whose files can be read; and a run stopped that began at the state of
-- each index to which the directory opened
pub record StopsRunning {W : Type 0} (told : Told) (call : ReplayCall W)
    (error : TantivyError) : Type 0 where
  pub found : FoundIndex call.schema call.before.reads
  pub files : HasFiles call.before.reads (found_commits found)
  pub stops : (index : OpenedIndex call.schema call.before.reads)
      → StopsAt told (record {
        form = index.form;
        script = call.script;
        start = index.state;
        lines_of_turns = report index.state;
      }) call.before call.now call.script_now error

-- where a replay stopped with this error: at its opening (`RefusesOpening`), or in its run (`StopsRunning`)
abbrev pub StopsReplay : {W : Type 0} → Told → ReplayCall W → TantivyError → Type 0
StopsReplay told call error =
    told.content → RefusesOpening told call error ⊎ StopsRunning told call error

-- A reader finds `meta.json` refused: where the content is told, the directory opened to no state, since from
-- one it means the run's commit.
abbrev pub IsUnread : (tells : Type 0) → (schema : List ℕ) → Reads → (quiet : Type 0) → Type 0
IsUnread tells schema reads quiet =
    quiet × (tells → FoundIndex schema reads) × (tells → OpenedIndex schema reads → ⊥)

-- Why a replay answers an error, of what is read where the content is told, of lines where the script is:
-- by what is known of the calls on the directory and of the reads of the script.
abbrev pub ReplayCause : CallFacts → (schema : List ℕ) → Reads
    → (script : Option (List ℕ)) → TantivyError → Type 0
ReplayCause facts schema reads script (errors.InvalidArgument text) =
    facts.quiet
    × ((IsNoSchema schema × (string_bytes text ≡ schema_refusal))
    ⊎ (IsSomeSchema schema × (facts.tells → FoundIndex schema reads)
    × LineRefusal script (string_bytes text)))
ReplayCause facts schema reads script (errors.DataCorruption why) =
    (text : List ℕ) × IsSchema schema text
    × (OpenCause facts.tells text reads facts.refused_behind facts.quiet_behind (errors.DataCorruption why)
    ⊎ ((option_map string_bytes why.filepath ≡ Some meta_name)
    × IsUnread facts.tells schema reads facts.quiet))
ReplayCause facts schema reads script (errors.SchemaError text) =
    (own : List ℕ) × IsSchema schema own
    × (OpenCause facts.tells own reads facts.refused_behind facts.quiet_behind (errors.SchemaError text)
    ⊎ ((string_bytes text ≡ codes "An index exists but the schema does not match.")
    × IsUnread facts.tells schema reads facts.quiet))
ReplayCause facts schema reads script (errors.LockFailure lock.LockBusy text) =
    IsSomeSchema schema × (facts.tells → FoundIndex schema reads) × facts.busy × (text ≡ None)
ReplayCause facts schema reads script (errors.LockFailure (lock.IoError fault) text) =
    IsSomeSchema schema × IsDevice fault × facts.refused × (text ≡ None)
ReplayCause facts schema reads script (errors.LockFailure lock.Memory text) = ⊥
ReplayCause facts schema reads script (errors.IoError fault) =
    IsSomeSchema schema × IsDevice fault × facts.refused_behind
ReplayCause facts schema reads script (errors.OpenWriteError error) =
    IsSomeSchema schema × (facts.tells → FoundIndex schema reads) × WriteFault facts.refused error
ReplayCause facts schema reads script (errors.OpenReadError error) =
    IsSomeSchema schema × (facts.tells → FoundIndex schema reads)
    × ReadFault facts.refused facts.quiet (λ e. Unit {0}) (λ path. Unit {0}) error
ReplayCause facts schema reads script errors.Exhausted =
    facts.quiet × IsSomeSchema schema × (facts.tells → FoundIndex schema reads) × IsTooMany script
ReplayCause facts schema reads script errors.Memory = facts.quiet_behind
ReplayCause facts schema reads script other = ⊥

-- why a replay isn't given a lock: that of the writer, or the meta lock
abbrev pub IsLockBusy : (tells_locks : Type 0) → Locks → (refused : Type 0) → Type 0
IsLockBusy tells_locks locks refused =
    IsBusy tells_locks ((locks writer_lock_name ≡ true) ⊎ (locks meta_lock_name ≡ true)) refused

-- the opening wasn't given the lock of the writer: where locks are told, it is held; and nothing was read
-- of the script
abbrev pub WasLockedOut : {W : Type 0} → Told → (before : View W)
    → (script script_now : SourceView) → Type 0
WasLockedOut told before script script_now =
    (told.locks → before.locks writer_lock_name ≡ true) × (script_now ≡ script)

-- what is known of the calls of a replay: on the directory that was handed in, whose count of refused
-- calls is this by now, and on the script
abbrev pub replay_facts : {W : Type 0} → Told → (before : View W) → (faults : ℕ)
    → (script script_now : SourceView) → CallFacts
replay_facts told before faults script script_now = record {
  tells = told.content;
  busy = IsLockBusy told.locks before.locks (Rose before.faults faults);
  free = told.locks → before.locks writer_lock_name ≡ false;
  refused = Rose before.faults faults ⊎ Rose script.faults script_now.faults;
  quiet = (faults ≡ before.faults) × (script_now.faults ≡ script.faults);
  refused_behind = RefusedBehind (WasLockedOut told before script script_now) before.faults faults
      ⊎ Rose script.faults script_now.faults;
  quiet_behind = QuietBehind (WasLockedOut told before script script_now) before.faults faults
      × (script_now.faults ≡ script.faults);
}

-- why a replay failed
abbrev pub FailsReplay : {W : Type 0} → Told → ReplayCall W → TantivyError → Type 0
FailsReplay told call =
    ReplayCause (replay_facts told call.before call.now.faults call.script call.script_now)
    call.schema call.before.reads call.script.left

-- Where a replay answers Ok no call but deletes was refused, and the lock of the writer was free; and why it
-- answers an error.
pub record ReplayFaults {W : Type 0} (told : Told) (call : ReplayCall W)
    (outcome : Result Tally TantivyError) : Type 0 where
  pub quiet : OnOk outcome (IsQuietAt call.before call.now call.script call.script_now)
  pub free : told.locks → OnOk outcome (call.before.locks writer_lock_name ≡ false)
  pub cause : IfErr outcome (FailsReplay told call)

-- What each replay keeps: writers may still be handed in, the same locks are held, nobody was registered or
-- called, and no file with a dot in front was changed but the list; a notice of a commit may stand.
pub record ReplayFrame {W : Type 0} (told : Told) (old new : View W) : Type 0 where
  pub dotted : told.content → KeepsDotted old.reads new.reads
  pub goes_on : GoesOn told old new
  pub locks : told.locks → SameLocks old.locks new.locks
  pub watched : MayNote meta_name old.watched new.watched
