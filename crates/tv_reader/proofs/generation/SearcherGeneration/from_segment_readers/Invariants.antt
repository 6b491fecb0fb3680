use Rattle.std.proofs.Common.{◌≡◌, [], drop}
use Rattle.tv_reader.specs.Searchers.{put_stamps}
use Rattle.tv_reader.proofs.generation.SearcherGeneration.from_segment_readers.Given as goal

abbrev pub invariant-loop-reader : goal.invariant-loop-reader
invariant-loop-reader l = put_stamps [] l.segment_readers ≡ put_stamps l.segments.entries (drop l.reader-index l.segment_readers)
