-- Receipts, and the entries of a history that they stand for.
use Rattle.std.specs.Prelude.{◌≡◌, ◌-◌, ℕ, List, length, Some}
use Rattle.std.specs.List.{slice_get, slice_index_or}
use Rattle.tv_base.specs.declared.error.TantivyError.TheVariants as errors
use Rattle.tv_events.specs.declared.event.Event.{Event}
use Rattle.tv_histories.specs.declared.entry.Entry.{Entry}
use Rattle.tv_histories.specs.declared.entry.Receipt.{Receipt}
use Rattle.tv_histories.specs.declared.shared_error.SharedError.{SharedError}
use Rattle.tv_histories.specs.declared.shared_error.SharedError.TheVariants as shared

-- an event with what was answered to it
abbrev pub entry : Event → List ℕ → Entry
entry event answer = record { event = event; answer = answer }

-- the entry that a receipt stands for
abbrev pub entry_of : Receipt → Entry
entry_of r = entry r.event r.answer

-- the receipt is the entry at its place
abbrev pub Stands : List Entry → Receipt → Type 0
Stands history r = slice_get history r.place ≡ Some (entry_of r)

-- so is each of them
abbrev pub AllStand : List Entry → List Receipt → Type 0
AllStand history receipts = (i : ℕ) (r : Receipt) → slice_get receipts i ≡ Some r → Stands history r

-- this is the last entry
abbrev pub IsLastEntry : List Entry → Entry → Type 0
IsLastEntry history last = slice_get history (length history - 1) ≡ Some last

-- This is what a receipt is compared with: the entry at its place, or the last one where the history has no
-- such place.
abbrev pub IsCompared : List Entry → Receipt → Entry → Type 0
IsCompared history r kept =
    (last : Entry) × IsLastEntry history last × (kept ≡ slice_index_or history r.place last)

-- the receipt isn't the entry at its place, and the error has both; or memory was wanting for it
abbrev pub DiffersFrom : List Entry → Receipt → SharedError → Type 0
DiffersFrom history r (shared.Differs receipt kept) =
    (receipt ≡ r) × (Stands history r → ⊥) × IsCompared history r kept
DiffersFrom history r (shared.Store error) = error ≡ errors.Memory
DiffersFrom history r other = ⊥

-- so it is of one of these receipts
abbrev pub DiffersAmong : List Entry → List Receipt → SharedError → Type 0
DiffersAmong history receipts error =
    (i : ℕ) × (r : Receipt) × (slice_get receipts i ≡ Some r) × DiffersFrom history r error
