use Rattle.std.proofs.Common.{◌≡◌, drop}
use Rattle.std.specs.BTreeSet as tree
use Rattle.std.specs.Ordering.{nat_cmp}
use Rattle.std.specs.Cmp.Lexicographic.{slice_cmp}
use Rattle.tv_formats.specs.Ids.{are_distinct}
use Rattle.tv_formats.proofs.Apart.{are_news}
use Rattle.tv_events.proofs.blob.are_apart_in_a_set.Given as goal

abbrev pub invariant-loop-id : goal.invariant-loop-id
invariant-loop-id l =
    are_distinct l.fn.ids ≡ are_news (λ id. tree.contains (slice_cmp nat_cmp) l.seen id) (drop l.id-index l.fn.ids)
