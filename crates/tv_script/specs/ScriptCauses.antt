-- Why nothing was taken from a script.
use Rattle.std.specs.Prelude.{ℕ, ◌≡◌, List, Option, Some, Result, IfErr, OnOk}
use Rattle.tv_formats.specs.Files.{Rose}
use Rattle.tv_base.specs.Causes.{IsDevice}
use Rattle.tv_base.specs.Streams.{SourceView}
use Rattle.tv_script.specs.declared.lines.LineError.{LineError}
use Rattle.tv_script.specs.declared.lines.LineError.TheVariants as line
use Rattle.tv_script.specs.declared.script_events.ScriptError.{ScriptError}
use Rattle.tv_script.specs.declared.script_events.ScriptError.TheVariants as failed
use Rattle.tv_script.specs.ScriptLines.{IsNoEvent, IsTooLong}

-- where the script is told, its first line is one that is refused so
abbrev pub IsRefused : (List ℕ → Type 0) → Option (List ℕ) → Type 0
IsRefused why script = (text : List ℕ) → script ≡ Some text → why text

-- why no line was taken: `refused` where the device refused a read, `quiet` where it refused none
abbrev pub LineCause : (script : Option (List ℕ)) (refused quiet : Type 0) → LineError → Type 0
LineCause script refused quiet line.Memory = quiet
LineCause script refused quiet (line.Fault fault) = IsDevice fault × refused
LineCause script refused quiet line.TooLong = quiet × IsRefused IsTooLong script

-- why no event was taken
abbrev pub ScriptCause : (script : Option (List ℕ)) (refused quiet : Type 0) → ScriptError → Type 0
ScriptCause script refused quiet (failed.Line error) = LineCause script refused quiet error
ScriptCause script refused quiet failed.NotAnEvent = quiet × IsRefused IsNoEvent script

-- known unless a read was refused
abbrev pub UnlessFault : (known : Type 0) → LineError → Type 0
UnlessFault known (line.Fault fault) = Unit {0}
UnlessFault known other = known

-- known of an event's error, unless a read was refused
abbrev pub UnlessLineFault : (known : Type 0) → ScriptError → Type 0
UnlessLineFault known (failed.Line error) = UnlessFault known error
UnlessLineFault known failed.NotAnEvent = known

-- No read was refused where a line was taken; and why none was.
pub record LineFaults {A : Type 0} (script : Option (List ℕ)) (old new : SourceView)
    (result : Result A LineError) : Type 0 where
  pub quiet : OnOk result (new.faults ≡ old.faults)
  pub cause : IfErr result (LineCause script (Rose old.faults new.faults) (new.faults ≡ old.faults))

-- No read was refused where an event was taken; and why none was.
pub record ScriptFaults {A : Type 0} (script : Option (List ℕ)) (old new : SourceView)
    (result : Result A ScriptError) : Type 0 where
  pub quiet : OnOk result (new.faults ≡ old.faults)
  pub cause : IfErr result (ScriptCause script (Rose old.faults new.faults) (new.faults ≡ old.faults))

-- What is known where a line was taken, and where none was, unless a read was refused.
pub record LineReads {A : Type 0} (known : Type 0) (result : Result A LineError) : Type 0 where
  pub ok : OnOk result known
  pub err : IfErr result (UnlessFault known)

-- What is known where an event was read, and where none was, unless a read was refused.
pub record EventReads {A : Type 0} (known : Type 0) (result : Result A ScriptError) : Type 0 where
  pub ok : OnOk result known
  pub err : IfErr result (UnlessLineFault known)
