use Rattle.std.proofs.Common.{rules}
use Rattle.tv_device.proofs.desk.DeskOutside.tell.Goals as goal

pub returns-clause-sink : goal.returns-clause-sink
returns-clause-sink g c = record {
  takes = rw (← c.self.view_is) (rw (c.as_slice.ensures.value, c.end_line.ensures.line) at c.put-answer.ensures.ok);
  part = rw (← c.self.view_is) (rw (c.as_slice.ensures.value, c.end_line.ensures.line) at c.put-answer.ensures.part);
  directory = search rules;
}
