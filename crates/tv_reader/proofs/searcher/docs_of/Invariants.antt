use Rattle.std.proofs.Common.{◌≡◌, take}
use Rattle.tv_framing.specs.Usage.{capped}
use Rattle.tv_reader.specs.Searchers.{docs_sum}
use Rattle.tv_reader.proofs.searcher.docs_of.Given as goal

abbrev pub invariant-loop-reader : goal.invariant-loop-reader
invariant-loop-reader l = l.sum ≡ capped (docs_sum (take l.reader-index l.segment_readers))
