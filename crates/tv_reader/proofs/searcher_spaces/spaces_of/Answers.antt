use Rattle.std.proofs.Common.{◌<◌, length, map, string_bytes, arith}
use Rattle.tv_reader.proofs.SearcherSpaces.{spaces_more}
use Rattle.tv_reader.proofs.searcher_spaces.spaces_of.Goals as goal

pub loop-reader-preserved : goal.loop-reader-preserved
loop-reader-preserved c =
    let within : c.loop-reader.reader-index < length c.args.segment_readers.now = omega arith in
    spaces_more (map string_bytes c.args.names.now) c.args.segment_readers.now c.loop-reader.reader-index c.reader-item.result c.loop-reader.usage c.add_segment.new.self c.in_ok-space_usage.field-0
    within c.reader-item.is c.loop-reader.invariant c.in_ok-space_usage.ensures.ok c.in_ok-add_segment.ensures.ok
