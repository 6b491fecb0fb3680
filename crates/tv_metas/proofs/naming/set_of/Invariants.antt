use Rattle.std.proofs.Common.{◌≡◌, ◌||◌, ℕ, List, map, string_bytes}
use Rattle.std.specs.Vec.Iter.{into_iter_items}
use Rattle.tv_formats.specs.Names.{has}
use Rattle.tv_metas.proofs.naming.set_of.Given as goal

abbrev pub invariant-loop-name : goal.invariant-loop-name
invariant-loop-name l = record {
  next : goal.iterator-loop-name.can_next l.name-iterator;
  finite : goal.iterator-loop-name.is_finite l.name-iterator;
  names : (n : List ℕ) → (has (map string_bytes l.set.keys) n || has (into_iter_items l.name-iterator) n) ≡ has l.fn.names.items n;
}
