use Rattle.std.proofs.Common.{◌≡◌, length}
use Rattle.tv_formats.specs.Ids.{are_distinct}
use Rattle.tv_events.proofs.blob.are_apart_in_pairs.Given as goal

abbrev pub invariant-loop-left : goal.invariant-loop-left
invariant-loop-left l = are_distinct l.left ≡ are_distinct l.fn.ids

abbrev pub decreases-loop-left : goal.decreases-loop-left
decreases-loop-left l = length l.left
