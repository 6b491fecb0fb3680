-- What merging the receipts of several callers gives.
use Rattle.std.specs.Prelude.{◌≡◌, ◌<◌, ◌+◌, ℕ, List, map, length, Some}
use Rattle.std.specs.List.{slice_get}
use Rattle.tv_histories.specs.Callers.{of_caller}
use Rattle.tv_histories.specs.Receipts.{entry_of}
use Rattle.tv_histories.specs.declared.entry.Entry.{Entry}
use Rattle.tv_histories.specs.declared.entry.Receipt.{Receipt}

-- the entries that receipts stand for
abbrev pub entries : List Receipt → List Entry
entries rs = map entry_of rs

-- The callers' receipts, numbered from 1, beside whose each is: those of each caller, in its order.
pub record IsMerged {X : Type 0} (items : X → List Receipt) (all : List X) (callers : List ℕ)
    (receipts : List Receipt) : Type 0 where
  pub long : length callers ≡ length receipts
  pub known : (i k : ℕ) → slice_get callers i ≡ Some k → k < length all
  pub numbered : (i : ℕ) (r : Receipt) → slice_get receipts i ≡ Some r → r.place ≡ i + 1
  pub each : (k : ℕ) (old : X) → slice_get all k ≡ Some old
      → of_caller k callers (entries receipts) ≡ entries (items old)
