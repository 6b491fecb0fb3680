use Rattle.std.proofs.Common.{◌≡◌, ℕ, List, not, ◌&&◌, drop}
use Rattle.tv_formats.specs.Names.{has}
use Rattle.tv_store.proofs.files_collecting.remove_names.Given as goal

abbrev pub invariant-loop-name : goal.invariant-loop-name
invariant-loop-name l = (n : List ℕ) → (not (has (drop l.name-index l.names) n) && has l.set.keys n) ≡ (not (has l.names n) && has l.initial.set.keys n)
