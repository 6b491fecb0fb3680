-- A script that comes in pieces, and what is taken from its front.
use Rattle.std.specs.Prelude.{ℕ, ◌≡◌, ◌≢◌, ◌<◌, ◌≤◌, Bool, true, false, List, [], ◌∷◌, ◌++◌, ◌+◌, length, slice_index, Option, Some, None, option_map}
use Rattle.tv_base.specs.Streams.{ReadsPiece, IsAtEnd}
use Rattle.tv_events.specs.declared.event.Event.{Event}
use Rattle.tv_events.specs.declared.event.Event.TheVariants as events
use Rattle.tv_formats.specs.Files.{has_no_feed}
use Rattle.tv_events.specs.Script.{line_limit, lines_of, Fits, IsLine}

-- what is held, and after it what is left, where that is told
abbrev pub pending : List ℕ → Option (List ℕ) → Option (List ℕ)
pending held left = option_map (λ rest. held ++ rest) left

-- this is left of a script, but for a line and one byte at most
pub record IsAhead (script : List ℕ) (left : Option (List ℕ)) : Type 0 where
  pub over : List ℕ
  pub rest : List ℕ
  pub left_is : left ≡ Some rest
  pub script_is : script ≡ over ++ rest
  pub most : length over ≤ line_limit + 1

-- where the script is told, no more of it was read than a line and one byte, what was held counted in
abbrev pub ReadsAhead : (before left : Option (List ℕ)) → Type 0
ReadsAhead before left = (script : List ℕ) → before ≡ Some script → IsAhead script left

-- no line feed stands in the bytes
abbrev pub NoFeed : List ℕ → Type 0
NoFeed bytes = has_no_feed bytes ≡ true

-- here stands the first line feed of the bytes, or, where none does, their end
pub record IsFeedAt (bytes : List ℕ) (place : ℕ) : Type 0 where
  pub within : place ≤ length bytes
  pub before : (k : ℕ) → k < place → slice_index bytes k ≢ 10
  pub feed : place < length bytes → slice_index bytes place ≡ 10

-- these bytes came off the front of what was left, where that is told; none come only at its end
pub record Fills (held : List ℕ) (before after : Option (List ℕ)) : Type 0 where
  pub bytes : ReadsPiece held before after
  pub end : held ≡ [] → IsAtEnd before

-- the bytes up to the first line feed were moved to the end of a line, and that line feed was taken out; or
-- all bytes, where there is none
abbrev pub Moves : Bool → List ℕ → List ℕ → List ℕ → List ℕ → Type 0
Moves true held rest line longer =
    (front : List ℕ) × NoFeed front × (held ≡ front ++ 10 ∷ rest) × (longer ≡ line ++ front)
Moves false held rest line longer = NoFeed held × (rest ≡ []) × (longer ≡ line ++ held)

-- the first line of a script was taken; or there is none, and nothing is left
abbrev pub TakesLine : List ℕ → Option (List ℕ) → Option (List ℕ) → Type 0
TakesLine script (Some line) left =
    (rest : List ℕ) × (left ≡ Some rest) × (lines_of script ≡ line ∷ lines_of rest)
TakesLine script None left = (script ≡ []) × (left ≡ Some [])

-- where the script is told, its first line was taken, or there is none
abbrev pub TakesNext : Option (List ℕ) → Option (List ℕ) → Option (List ℕ) → Type 0
TakesNext before found after = (script : List ℕ) → before ≡ Some script → TakesLine script found after

-- the first line of a script is longer than a line may be
abbrev pub IsTooLong : List ℕ → Type 0
IsTooLong script =
    (line : List ℕ) × (lines : List (List ℕ)) × (lines_of script ≡ line ∷ lines) × (line_limit < length line)

-- a script begins with these bytes of its first line, and this is left of it
abbrev pub BeginsLine : List ℕ → List ℕ → Option (List ℕ) → Type 0
BeginsLine script line left = (rest : List ℕ) × (left ≡ Some rest) × (script ≡ line ++ rest) × NoFeed line

-- the first line of a script was taken, and it is this event's; or there is none, and nothing is left
abbrev pub TakesEvent : List ℕ → Option Event → Option (List ℕ) → Type 0
TakesEvent script (Some event) left =
    (text : List ℕ) × (rest : List ℕ) × (left ≡ Some rest)
    × (lines_of script ≡ text ∷ lines_of rest) × IsLine text event
TakesEvent script None left = (script ≡ []) × (left ≡ Some [])

-- where the script is told, its first line was taken, and it is this event's; or there is none
abbrev pub TakesNextEvent : Option (List ℕ) → Option Event → Option (List ℕ) → Type 0
TakesNextEvent before found after = (script : List ℕ) → before ≡ Some script → TakesEvent script found after

-- how many bytes the line of an event gives to a file
abbrev pub bytes_in : Event → ℕ
bytes_in (events.Write id component bytes) = length bytes
bytes_in other = 0

-- what an event adds to a file fits into a line, and its fields are within their ranges
pub record FitsLine (event : Event) : Type 0 where
  pub small : bytes_in event ≤ line_limit
  pub fits : Fits event

-- the first line of a script is no longer than a line may be, and no event's
abbrev pub IsNoEvent : List ℕ → Type 0
IsNoEvent script =
    (text : List ℕ) × (texts : List (List ℕ)) × (lines_of script ≡ text ∷ texts) × (length text ≤ line_limit)
    × ((event : Event) → IsLine text event → ⊥)
