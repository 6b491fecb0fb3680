use Rattle.std.proofs.Common.{◌≡◌, [], drop}
use Rattle.serde_json.specs.View.{items_view}
use Rattle.tv_managed.specs.Collecting.{names_of}
use Rattle.tv_managed.specs.ListTrees.{put_items}
use Rattle.tv_managed.proofs.list_json.names_of.Given as goal

abbrev pub invariant-loop-item : goal.invariant-loop-item
invariant-loop-item l = put_items [] (items_view l.items) ≡ put_items (names_of l.names.keys) (items_view (drop l.item-index l.items))
