use Rattle.std.proofs.Common.{◌≡◌, ◌≤◌, ◌+◌, ◌++◌, length}
use Rattle.std.specs.Prelude.{vec_len}
use Rattle.std.specs.Vec.{vec_capacity}
use Rattle.std.specs.Vec.Iter.{into_iter_items}
use Rattle.tv_index.proofs.tracking.segments_in.Given as goal

abbrev pub invariant-loop-share : goal.invariant-loop-share
invariant-loop-share l = record {
  next : goal.iterator-loop-share.can_next l.share-iterator;
  finite : goal.iterator-loop-share.is_finite l.share-iterator;
  all : l.segments.items ++ into_iter_items l.share-iterator ≡ l.fn.shares.items;
  fits : vec_len l.segments + length (into_iter_items l.share-iterator) ≤ vec_capacity l.segments;
}
