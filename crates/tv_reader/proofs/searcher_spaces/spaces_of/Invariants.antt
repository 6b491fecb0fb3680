use Rattle.std.proofs.Common.{map, take, string_bytes}
use Rattle.tv_reader.specs.Searchers.{AreSpaces}
use Rattle.tv_reader.proofs.searcher_spaces.spaces_of.Given as goal

abbrev pub invariant-loop-reader : goal.invariant-loop-reader
invariant-loop-reader l = AreSpaces (map string_bytes l.names) (take l.reader-index l.segment_readers) l.usage
