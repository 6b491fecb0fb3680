use Rattle.std.proofs.Common.{refl}
use Rattle.tv_machine.proofs.NewDeletes.{first_in_order, new_delete, step_in_order}
use Rattle.tv_formats.proofs.SegmentNames.{one_segment}
use Rattle.tv_machine.proofs.laws.names_tell_their_segment.Goals as goal

pub returns : goal.returns
returns c = record {
  segment = λ id other deletes others component second h k e. one_segment id other deletes others component second h k e;
  no_deletes = λ id n. refl;
  new_name = new_delete;
  first_drawn = first_in_order;
  drawn = step_in_order;
}
