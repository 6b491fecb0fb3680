use Rattle.std.proofs.Common.{◌≡◌, ◌∷◌, ◌++◌, List, drop, map}
use Rattle.json.specs.Token.{Token, begin_array}
use Rattle.json.specs.Tree.{items_tokens}
use Rattle.serde_json.specs.View.{items_of}
use Rattle.serde_json.specs.Written.{items_outline}
use Rattle.tv_formats.specs.Commits.{segment_tree}
use Rattle.tv_metas.specs.declared.segment_meta.InnerSegmentMeta.{InnerSegmentMeta}
use Rattle.tv_metas.specs.Segments.{entry_of}
use Rattle.tv_metas.proofs.printing.write_segments.Given as goal

abbrev tokens_of : List InnerSegmentMeta → List Token
tokens_of segments = items_tokens (items_outline (items_of (map segment_tree (map entry_of segments))))

abbrev pub invariant-loop-segment : goal.invariant-loop-segment
invariant-loop-segment l = record {
  before : l.out.before ≡ l.fn.out.before;
  tokens : l.out.tokens ++ tokens_of (drop l.segment-index l.segments) ≡ l.fn.out.tokens ++ begin_array ∷ tokens_of l.segments;
}
