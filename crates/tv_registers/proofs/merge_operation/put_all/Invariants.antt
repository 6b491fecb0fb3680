use Rattle.std.proofs.Common.{◌≡◌, ◌||◌, ℕ, List, take}
use Rattle.tv_formats.specs.Names.{has}
use Rattle.tv_registers.proofs.merge_operation.put_all.Given as goal

abbrev pub invariant-loop-id : goal.invariant-loop-id
invariant-loop-id l = (id : List ℕ) → has l.all.keys id ≡ (has l.fn.all.keys id || has (take l.id-index l.ids) id)
