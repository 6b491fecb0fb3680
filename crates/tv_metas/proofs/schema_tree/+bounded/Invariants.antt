use Rattle.std.proofs.Common.{◌≡◌, drop}
use Rattle.serde_json.specs.View.{items_view, members_view}
use Rattle.tv_formats.specs.Schemas.{are_bounded, have_bounded}
use Rattle.tv_metas.proofs.schema_tree.+bounded.Given as goal

abbrev pub invariant-are_bounded-loop-tree : goal.invariant-are_bounded-loop-tree
invariant-are_bounded-loop-tree l =
    are_bounded l.nesting (items_view l.list) ≡ are_bounded l.nesting (items_view (drop l.tree-index l.list))

abbrev pub invariant-have_bounded-loop-tree : goal.invariant-have_bounded-loop-tree
invariant-have_bounded-loop-tree l =
    have_bounded l.nesting (members_view l.members.entries) ≡ have_bounded l.nesting (members_view l.tree-iterator)
