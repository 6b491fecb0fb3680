use Rattle.std.proofs.Common.{◌≡◌, [], drop}
use Rattle.serde_json.specs.View.{items_view}
use Rattle.tv_metas.specs.Segments.{gathered}
use Rattle.tv_metas.proofs.segments.segments_in.Given as goal

abbrev pub invariant-loop-tree : goal.invariant-loop-tree
invariant-loop-tree l = gathered [] (items_view l.list) ≡ gathered l.found.entries (items_view (drop l.tree-index l.list))
