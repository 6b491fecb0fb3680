-- What was tracked last is found.
use Rattle.std.proofs.Common.{◌≡◌, ℕ, List, [], ◌∷◌, ◌++◌, IsSome, find, ap}
use Rattle.tv_base.specs.declared.inventory.Entry.{Entry}
use Rattle.tv_base.specs.Entries.{InventoryState, is_numbered}
use Rattle.tv_base.specs.EntryLaws as laws

pub last_found : {T : Type 0} (kept : InventoryState T) (old : List (Entry T)) (next n : ℕ) (value : T)
    → kept ≡ record { next = next; entries = old ++ record { number = n; count = 1; value = value } ∷ [] } → IsSome (find (is_numbered n) kept.entries)
last_found kept old next n value is = laws.last_found kept.entries old n value (ap (λ k. k.entries) is)
