-- Entries that were visited.
use Rattle.std.specs.Prelude.{◌≡◌}
use Rattle.tv_base.specs.declared.inventory.Entry.{Entry}

-- an entry before and after its value was visited
pub record IsVisited {T : Type 0} (R : T → T → Type 0) (e f : Entry T) : Type 0 where
  pub same_number : f.number ≡ e.number
  pub same_count : f.count ≡ e.count
  pub value : R e.value f.value
