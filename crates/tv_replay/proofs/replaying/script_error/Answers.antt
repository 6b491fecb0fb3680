use Rattle.tv_replay.specs.Replays.{line_refusal, long_refusal}
use Rattle.tv_replay.proofs.replaying.script_error.Goals as goal

pub returns-in-NotAnEvent : goal.returns-in-NotAnEvent
returns-in-NotAnEvent c = rw c.in-NotAnEvent.is (c.argument_error-in-NotAnEvent.ensures (line_refusal c.args.number) c.refusal_of.ensures)

pub returns-in-Line-TooLong : goal.returns-in-Line-TooLong
returns-in-Line-TooLong c = rw (c.in-Line-TooLong.is, c.in-Line-TooLong.field-0-is) (c.argument_error.ensures (long_refusal c.args.number) c.long_refusal_of.ensures)
