use Rattle.tv_index.proofs.Promised.{begins_no_name}
use Rattle.tv_index.proofs.laws.new_segment_begins_no_name.Goals as goal

pub returns : goal.returns
returns g c = begins_no_name c.args.index.now c.args.segment_id c.new_segment.result c.new_segment.ensures.cause
