-- What several callers leave who apply their scripts at once.
use Rattle.std.specs.Prelude.{◌≡◌, ◌≢◌, ◌<◌, ◌+◌, ℕ, List, [], ◌∷◌, map, length, true, Result, Ok, Err, Option, Some, None}
use Rattle.std.specs.List.{slice_get}
use Rattle.tv_base.specs.declared.error.TantivyError.{TantivyError}
use Rattle.tv_base.specs.declared.error.TantivyError.TheVariants as errors
use Rattle.tv_events.specs.declared.event.Event.{Event}
use Rattle.tv_histories.specs.Callers.{Interleaves, of_caller}
use Rattle.tv_histories.specs.Histories.{events_in, is_manual_reader}
use Rattle.tv_histories.specs.declared.entry.Entry.{Entry}
use Rattle.tv_histories.specs.declared.entry.Receipt.{Receipt}
use Rattle.tv_histories.specs.declared.shared_error.SharedError.{SharedError}
use Rattle.tv_histories.specs.declared.shared_error.SharedError.TheVariants as shared

-- each answer is there, and these are the answers
abbrev pub AreAll : {X E : Type 0} → List (Result X E) → List X → Type 0
AreAll answers all = answers ≡ map Ok all

-- what the store was refused, where that is the error and it isn't want of memory
unfoldable pub fault_of : SharedError → Option TantivyError
fault_of (shared.Store errors.Memory) = None
fault_of (shared.Store error) = Some error
fault_of other = None

-- it is an error of the store, or want of memory
abbrev pub IsOfStore : SharedError → Type 0
IsOfStore error = (why : TantivyError) × (error ≡ shared.Store why)

-- this fault, or else want of memory
abbrev pub fault_or_memory : Option TantivyError → SharedError
fault_or_memory None = shared.Store errors.Memory
fault_or_memory (Some error) = shared.Store error

-- the first of two faults, where there is one
abbrev pub first_of : Option TantivyError → Option TantivyError → Option TantivyError
first_of None later = later
first_of (Some error) later = Some error

-- what an answer says of a fault
abbrev pub fault_at : {X : Type 0} → Result X SharedError → Option TantivyError
fault_at (Ok x) = None
fault_at (Err error) = fault_of error

-- the first fault among some answers
abbrev pub fault_among : {X : Type 0} → List (Result X SharedError) → Option TantivyError
fault_among [] = None
fault_among (answer ∷ answers) = first_of (fault_at answer) (fault_among answers)

-- the first error among some answers that isn't want of memory, or else this
abbrev pub first_fault : {X : Type 0} → List (Result X SharedError) → SharedError
first_fault answers = fault_or_memory (fault_among answers)

-- as many lists of receipts as scripts, each with the events of its script
pub record Follows {S L : Type 0} (events : S → List Event) (receipts : L → List Receipt)
    (scripts : List S) (lists : List L) : Type 0 where
  pub count : length lists ≡ length scripts
  pub each : (k : ℕ) (s : S) (l : L) → slice_get scripts k ≡ Some s → slice_get lists k ≡ Some l
      → map (λ (r : Receipt). r.event) (receipts l) ≡ events s

-- The receipts of the callers of these scripts, numbered from 1, beside whose each is: those of each caller,
-- in its order.
pub record IsMergedFrom (scripts : List (List Event)) (callers : List ℕ) (receipts : List Receipt)
    : Type 0 where
  pub long : length callers ≡ length receipts
  pub known : (i k : ℕ) → slice_get callers i ≡ Some k → k < length scripts
  pub numbered : (i : ℕ) (r : Receipt) → slice_get receipts i ≡ Some r → r.place ≡ i + 1
  pub each : (k : ℕ) (script : List Event) → slice_get scripts k ≡ Some script
      → of_caller k callers (map (λ (r : Receipt). r.event) receipts) ≡ script

-- how many events there are in all
abbrev pub count_all : List (List Event) → ℕ
count_all [] = 0
count_all (events ∷ lists) = length events + count_all lists

-- the numbers differ of the events of these scripts and of the entries after the first, and the error has both
abbrev pub IsUneven : List (List Event) → List Entry → SharedError → Type 0
IsUneven scripts history (shared.Uneven receipts entries) =
    (receipts ≡ count_all scripts) × (length history ≡ entries + 1) × (entries ≢ receipts)
IsUneven scripts history other = ⊥

-- The history is an event that makes a reader, which reloads where it is asked to, and then an interleaving
-- of these scripts: each caller's events stand in its order.
pub record IsRace (scripts : List (List Event)) (history : List Entry) : Type 0 where
  pub first : Entry
  pub rest : List Entry
  pub parts : history ≡ first ∷ rest
  pub reads : is_manual_reader first.event ≡ true
  pub callers : Interleaves scripts (events_in rest)
