use Rattle.tv_histories.proofs.Events.{one_event_by}
use Rattle.tv_histories.proofs.marks.same_event.Goals as goal

pub returns : goal.returns
returns c =
    one_event_by c.args.a.now c.args.b.now c.all_of.result c.same_marks-marks.result c.same_bytes-bytes.result
    c.same_ids-ids.result c.marks_of.result c.marks_of-2.result c.bytes_of.result.now c.bytes_of-2.result.now
    c.ids_of.result.now c.ids_of-2.result.now c.all_of.ensures c.marks_of.ensures c.marks_of-2.ensures
    c.bytes_of.ensures c.bytes_of-2.ensures c.ids_of.ensures c.ids_of-2.ensures c.same_marks-marks.ensures
    c.same_bytes-bytes.ensures c.same_ids-ids.ensures
