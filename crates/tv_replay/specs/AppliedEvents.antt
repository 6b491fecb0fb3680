-- The events of a script, applied to a store that is open, one after the other.
use Rattle.std.specs.Prelude.{ℕ, ◌≡◌, ◌≢◌, Bool, true, false, List, [], length, codes, Option, Some, None, option_map, Result, IfErr, OnOk, string_bytes}
use Rattle.std.specs.List.{AllByRecursion}
use Rattle.tv_base.specs.Causes.{IsDevice}
use Rattle.tv_base.specs.Streams.{SourceView}
use Rattle.tv_base.specs.declared.error.TantivyError.{TantivyError}
use Rattle.tv_base.specs.declared.error.TantivyError.TheVariants as errors
use Rattle.tv_formats.specs.Files.{Rose, RoseBy}
use Rattle.tv_formats.specs.Names.{meta_name}
use Rattle.tv_machine.specs.State.{State}
use Rattle.tv_machine.specs.SoundStates.{IsWhole}
use Rattle.tv_machine.specs.Machine.{Turn, answers, after, events_of, all_refused}
use Rattle.tv_machine.specs.Readable.{AllReadGood}
use Rattle.tv_events.specs.Script.{lines_of, Fits, AreLines}
use Rattle.tv_crashes.specs.Runs.{RunsWhole}
use Rattle.tv_device.specs.Locks.{LockCause}
use Rattle.tv_device.specs.View.{GoesOn, Told, View}
use Rattle.tv_device.specs.Watch.{MayNote}
use Rattle.tv_device.specs.declared.directory.Directory.{Ghosts}
use Rattle.tv_managed.specs.Collecting.{meta_lock_name}
use Rattle.tv_store.specs.Applying.{HoldsNone, KeepsLocks}
use Rattle.tv_store.specs.Durable.{IsDurable, store_files}
use Rattle.tv_store.specs.Kept.{StoreState, IsHeld}
use Rattle.tv_store.specs.Stays.{KeepsDotted}
use Rattle.tv_store.specs.StoreCauses.{WriteFault, IsBusy, IsRefusal}
use Rattle.tv_store.specs.ReadCauses.{ReadFault}
use Rattle.tv_store.specs.Surviving.{seen_of}
use Rattle.tv_store.specs.Telling.{TellsLines}
use Rattle.tv_script.specs.declared.lines.LineError.TheVariants as line
use Rattle.tv_script.specs.declared.script_events.ScriptError.{ScriptError}
use Rattle.tv_script.specs.declared.script_events.ScriptError.TheVariants as failed
use Rattle.tv_replay.specs.declared.replaying.Tally.{Tally}
use Rattle.tv_replay.specs.Replays.{TakesNoLock, LineRefusal, IsTooMany, StopsAt, IsQuietAt, IsRefusedAt, line_refusal, long_refusal}

-- These events were applied, and a crash at no moment took a commit away: from each whole state that was
-- held, this is a run of them all of whose lines were told, and a crash can't hurt the files afterwards.
pub record AppliesWhole {O W C : Type 0} (g : Ghosts O W C) (old new : StoreState O) (s : State)
    (turns : List Turn) : Type 0 where
  pub runs : RunsWhole old.kept.form (seen_of g old.outside) (seen_of g new.outside) s turns
  pub durable : IsDurable g (store_files new) (after s turns)

-- These events were applied: from each state that was held before, the state after them is held now, and
-- their answers were told; those that read a commit's files could do so; and no more deletes were refused
-- than their count rose. What a crash leaves meanwhile is said where it couldn't hurt the files before.
pub record Applies {O W C : Type 0} (g : Ghosts O W C) (old new : StoreState O)
    (turns : List Turn) : Type 0 where
  pub fits : AllByRecursion Fits (events_of turns)
  pub form : new.kept.form ≡ old.kept.form
  pub holds : g.told.content → (s : State) → IsHeld g old s → IsWhole s → IsHeld g new (after s turns)
  pub told : g.told.content → g.told.heard → (s : State) → IsHeld g old s → IsWhole s
      → TellsLines (g.view old.outside).heard (g.view new.outside).heard (g.view old.outside).moment
      (g.view new.outside).moment (answers s turns)
  pub readable : g.told.content → (s : State) → IsHeld g old s → IsWhole s → AllReadGood s turns
  pub unlocked : g.told.content → g.told.locks → (g.view old.outside).locks meta_lock_name ≡ true
      → (s : State) → IsHeld g old s → IsWhole s → TakesNoLock s turns
  pub refused : RoseBy (all_refused turns) (g.view old.outside).refusals (g.view new.outside).refusals
  pub survives : g.tells_images → g.told.heard → (s : State) → IsHeld g old s → IsWhole s
      → IsDurable g (store_files old) s → AppliesWhole g old new s turns

-- the events of a whole script were applied, and nothing is left of it
pub record Runs {O W C : Type 0} (g : Ghosts O W C) (old new : StoreState O) (text left : Option (List ℕ))
    (tally : Tally) : Type 0 where
  pub turns : List Turn
  pub counted : tally.events ≡ length turns
  pub lines : (whole : List ℕ) → text ≡ Some whole
      → AreLines (lines_of whole) (events_of turns) × (left ≡ Some [])
  pub applied : Applies g old new turns

-- What the events of a run keep: writers may still be handed in, nobody was registered or called, and no file
-- with a dot in front was changed but the list; a notice of a commit may stand. The locks stand as they
-- stood, but for the meta lock where a reload waits for its files (`busy`), which it took.
pub record RunFrame {W : Type 0} (told : Told) (busy : Bool) (old new : View W) : Type 0 where
  pub dotted : told.content → KeepsDotted old.reads new.reads
  pub goes_on : GoesOn told old new
  pub locks : told.locks → KeepsLocks false busy old.locks new.locks
  pub watched : MayNote meta_name old.watched new.watched

-- what is true where a run stops: `busy` where a lock isn't given, `unread` where a reader isn't given the
-- commit of `meta.json`, `refusal` of the text that says which line is no event's, `too_many` where there is
-- a line too many, `refused` where a device refused a call and `quiet` where none did
pub record Causes : Type 1 where
  pub busy : Type 0
  pub unread : Type 0
  pub refusal : List ℕ → Type 0
  pub too_many : Type 0
  pub refused : Type 0
  pub quiet : Type 0

-- why a run stops with an error
abbrev pub RunCause : Causes → TantivyError → Type 0
RunCause c (errors.LockFailure why text) = LockCause c.busy c.refused ⊥ why × (text ≡ None)
RunCause c (errors.DataCorruption why) =
    c.quiet × (option_map string_bytes why.filepath ≡ Some meta_name) × c.unread
RunCause c (errors.SchemaError text) =
    c.quiet × (string_bytes text ≡ codes "An index exists but the schema does not match.") × c.unread
RunCause c (errors.InvalidArgument text) = c.quiet × c.refusal (string_bytes text)
RunCause c (errors.IoError fault) = IsDevice fault × c.refused
RunCause c (errors.OpenWriteError error) = WriteFault c.refused error
RunCause c (errors.OpenReadError error) = ReadFault c.refused c.quiet (λ e. Unit {0}) (λ path. Unit {0}) error
RunCause c errors.Exhausted = c.quiet × c.too_many
RunCause c errors.Memory = c.quiet
RunCause c other = ⊥

-- the causes between these two stores and these two views of the script
abbrev pub run_causes : {O W C : Type 0} → Ghosts O W C → (old new : StoreState O)
    → (script script_now : SourceView) → Causes
run_causes g old new script script_now = record {
  busy =
      IsBusy g.told.locks ((g.view old.outside).locks meta_lock_name ≡ true)
      (Rose (g.view old.outside).faults (g.view new.outside).faults);
  unread = HoldsNone g.told.content (g.view old.outside).reads old.kept;
  refusal = LineRefusal script.left;
  too_many = IsTooMany script.left;
  refused = IsRefusedAt (g.view old.outside) (g.view new.outside) script script_now;
  quiet = IsQuietAt (g.view old.outside) (g.view new.outside) script script_now;
}

-- Why a run failed, between these two stores and these two views of the script.
abbrev pub FailsRun : {O W C : Type 0} → Ghosts O W C → (old new : StoreState O)
    → (script script_now : SourceView) → TantivyError → Type 0
FailsRun g old new script script_now = RunCause (run_causes g old new script script_now)

-- No call but deletes was refused where the whole script was run; and why it wasn't.
pub record RunFaults {A O W C : Type 0} (g : Ghosts O W C) (old new : StoreState O)
    (script script_now : SourceView) (result : Result A TantivyError) : Type 0 where
  pub quiet : OnOk result (IsQuietAt (g.view old.outside) (g.view new.outside) script script_now)
  pub cause : IfErr result (FailsRun g old new script script_now)

-- where a run stopped with this error, from each state that was held before
abbrev pub StopsRun : {O W C : Type 0} → Ghosts O W C → (old new : StoreState O)
    → (script script_now : SourceView) → TantivyError → Type 0
StopsRun g old new script script_now error =
    g.told.content → (s : State) → IsHeld g old s → IsWhole s
    → StopsAt g.told (record {
      form = old.kept.form;
      script = script;
      start = s;
      lines_of_turns = answers s;
    }) (g.view old.outside) (g.view new.outside) script_now error

-- why the end of a script isn't met where as many lines were taken as may be: there is `some` line too many,
-- a read was refused, or memory was wanted
abbrev pub EndCause : (some refused quiet : Type 0) → TantivyError → Type 0
EndCause some refused quiet (errors.IoError fault) = IsDevice fault × refused
EndCause some refused quiet errors.Exhausted = quiet × some
EndCause some refused quiet errors.Memory = quiet
EndCause some refused quiet other = ⊥

-- Why the end of a script isn't found: a line more was there, or the source refused a read, or memory was
-- wanted; at Ok no read was refused.
pub record ScriptEndFaults {A : Type 0} (ahead : Option (List ℕ)) (old new : SourceView)
    (result : Result A TantivyError) : Type 0 where
  pub quiet : OnOk result (new.faults ≡ old.faults)
  pub cause : IfErr result (EndCause ((rest : List ℕ) → ahead ≡ Some rest → rest ≢ [])
      (Rose old.faults new.faults) (new.faults ≡ old.faults))

-- the error that a line of this number makes, or want of memory for its text
abbrev pub IsErrorOf : ScriptError → ℕ → TantivyError → Type 0
IsErrorOf (failed.Line line.Memory) number error = error ≡ errors.Memory
IsErrorOf (failed.Line (line.Fault fault)) number error = error ≡ errors.IoError fault
IsErrorOf (failed.Line line.TooLong) number error = IsRefusal (long_refusal number) error
IsErrorOf failed.NotAnEvent number error = IsRefusal (line_refusal number) error
