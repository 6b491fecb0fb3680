-- The pieces that are heard, and the room for one more.
use Rattle.std.specs.Prelude.{ℕ, ◌<◌, ◌≤◌, ◌≡◌, Result, OnOk, List, [], ◌∷◌, drop, flat_map, nat_lt, take, if◌then◌else◌}
use Rattle.std.specs.List.{sum_by}
use Rattle.tv_formats.specs.Files.{Heard}

-- all pieces, one after the other
abbrev pub bytes_heard : Heard → List ℕ
bytes_heard heard = flat_map (λ piece. piece.1) heard

-- the room for one more piece among so many of so many places: what was prepared, where there is a place
abbrev pub room_of : (pieces places prepared : ℕ) → ℕ
room_of pieces places prepared = if nat_lt pieces places then prepared else 0

-- At Ok there is room for a line of this length and its line feed; nothing was told, and the room didn't
-- shrink.
pub record ReservesRoom {A E : Type 0} (len : ℕ) (old new : Heard × ℕ) (result : Result A E) : Type 0 where
  pub made : OnOk result (len < new.1)
  pub pieces : new.0 ≡ old.0
  pub room : old.1 ≤ new.1

-- a text, cut into pieces of these moments and lengths
abbrev pub cut : List (ℕ × ℕ) → List ℕ → Heard
cut [] text = []
cut ((moment, len) ∷ others) text = (moment, take len text) ∷ cut others (drop len text)

-- the length of a text that is cut into these
abbrev pub cut_length : List (ℕ × ℕ) → ℕ
cut_length pieces = sum_by (λ piece. piece.1) pieces
