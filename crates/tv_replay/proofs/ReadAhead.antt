-- What is known of a script that was read, where no read was refused.
use Rattle.std.proofs.Common.{ℕ, List, Option}
use Rattle.tv_base.specs.declared.error.TantivyError.{TantivyError}
use Rattle.tv_base.specs.declared.error.TantivyError.TheVariants as errors
use Rattle.tv_replay.specs.AppliedEvents.{EndCause}
use Rattle.tv_replay.specs.ScriptEnds.{UnlessIoError}
use Rattle.tv_script.specs.ScriptCauses.{ScriptCause, UnlessLineFault}
use Rattle.tv_script.specs.declared.lines.LineError.TheVariants as line
use Rattle.tv_script.specs.declared.script_events.ScriptError.{ScriptError}
use Rattle.tv_script.specs.declared.script_events.ScriptError.TheVariants as failed

-- where no read was refused, there is no fault
pub event_known : (known refused quiet : Type 0) (script : Option (List ℕ)) (error : ScriptError) → ScriptCause script refused quiet error → UnlessLineFault known error → (refused → ⊥) → known
event_known known refused quiet script (failed.Line line.Memory) cause k none = k
event_known known refused quiet script (failed.Line (line.Fault fault)) cause k none = absurd (none cause.1)
event_known known refused quiet script (failed.Line line.TooLong) cause k none = k
event_known known refused quiet script failed.NotAnEvent cause k none = k

pub end_known : (known some refused quiet : Type 0) (error : TantivyError) → EndCause some refused quiet error → UnlessIoError known error → (refused → ⊥) → known
end_known known some refused quiet (errors.IoError fault) cause k none = absurd (none cause.1)
end_known known some refused quiet errors.Exhausted cause k none = k
end_known known some refused quiet errors.Memory cause k none = k
end_known known some refused quiet other cause k none = absurd cause
