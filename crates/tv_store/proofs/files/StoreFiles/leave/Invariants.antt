use Rattle.std.proofs.Common.{◌≡◌, ◌≤◌, ◌&&◌, ◌||◌, ℕ, List, None, cond, is_some, length}
use Rattle.std.specs.List.{AllByRecursion}
use Rattle.std.specs.Vec.Iter.{into_iter_items}
use Rattle.tv_formats.specs.Names.{has, at}
use Rattle.tv_store.proofs.files.StoreFiles.leave.Given as goal

abbrev pub invariant-loop-name : goal.invariant-loop-name
invariant-loop-name g l =
    let now = l.self in
    let old = l.fn.self in
    record {
      next : (goal.iterator-loop-name g).can_next l.name-iterator;
      finite : (goal.iterator-loop-name g).is_finite l.name-iterator;
      open_files : (n : List ℕ) → cond (has (into_iter_items l.name-iterator) n) None (at now.open_files n) ≡ cond (has l.fn.names.items n) None (at old.open_files n);
      left : (n : List ℕ) → (has now.left n || (has (into_iter_items l.name-iterator) n && is_some (at now.open_files n))) ≡ (has old.left n || (has l.fn.names.items n && is_some (at old.open_files n)));
      outside : now.outside ≡ old.outside;
      form : now.form ≡ old.form;
      managed : now.managed ≡ old.managed;
      collections : now.collections ≡ old.collections;
      locked : now.locked ≡ old.locked;
      lens : (bound : ℕ) → AllByRecursion (λ e. length e.1 ≤ bound) old.open_files → AllByRecursion (λ e. length e.1 ≤ bound) now.open_files;
    }
