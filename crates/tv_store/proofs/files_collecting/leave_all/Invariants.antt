use Rattle.std.proofs.Common.{◌≡◌, ◌||◌, ℕ, List, map}
use Rattle.tv_formats.specs.Names.{has}
use Rattle.tv_store.proofs.files_collecting.leave_all.Given as goal

abbrev pub invariant-loop-name : goal.invariant-loop-name
invariant-loop-name g l = record {
  next : (goal.iterator-loop-name g).can_next l.name-iterator;
  finite : (goal.iterator-loop-name g).is_finite l.name-iterator;
  names : (n : List ℕ) → has l.set.keys n ≡ (has l.fn.set.keys n || has (map (λ e. e.0) l.yielded) n);
}
