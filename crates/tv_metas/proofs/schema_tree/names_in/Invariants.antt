use Rattle.std.proofs.Common.{◌≡◌, ◌++◌, drop, option_map}
use Rattle.serde_json.specs.View.{items_view}
use Rattle.tv_metas.specs.SchemaReading.{names_in, texts}
use Rattle.tv_metas.proofs.schema_tree.names_in.Given as goal

abbrev pub invariant-loop-tree : goal.invariant-loop-tree
invariant-loop-tree l =
    names_in (items_view l.fields) ≡ option_map (λ rest. texts l.names ++ rest) (names_in (items_view (drop l.tree-index l.fields)))
