use Rattle.std.proofs.Common.{◌≡◌, ℕ, List, None, cond, drop}
use Rattle.std.specs.Prelude.{Contains}
use Rattle.std.specs.List.{AllByRecursion}
use Rattle.tv_formats.specs.Names.{has, at}
use Rattle.tv_store.proofs.files_collecting.remove_all.Given as goal

abbrev pub invariant-loop-name : goal.invariant-loop-name
invariant-loop-name g l = record {
  names : (n : List ℕ) → cond (has (drop l.name-index l.names) n) None (at l.map.entries n) ≡ cond (has l.names n) None (at l.initial.map.entries n);
  left : AllByRecursion (Contains l.initial.map.entries) l.map.entries;
}
