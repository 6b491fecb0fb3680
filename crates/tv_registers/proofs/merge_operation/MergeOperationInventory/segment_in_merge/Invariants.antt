use Rattle.std.proofs.Common.{◌≡◌, ℕ, List, map}
use Rattle.std.specs.List.{list_any}
use Rattle.tv_formats.specs.Names.{has}
use Rattle.tv_registers.proofs.merge_operation.MergeOperationInventory.segment_in_merge.Given as goal

abbrev pub invariant-loop-entry : goal.invariant-loop-entry
invariant-loop-entry l = (id : List ℕ) → has l.all.keys id ≡ list_any (λ e. has e.value id) (map (λ e. e.now) l.yielded)
