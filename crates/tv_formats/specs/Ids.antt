-- The ids of segments.
use Rattle.std.specs.Prelude.{ℕ, ◌≡◌, Bool, true, not, ◌&&◌, List, [], ◌∷◌, length}
use Rattle.std.specs.List.{list_any}
use Rattle.hex.specs.Hex.{IsBytes}
use Rattle.tv_formats.specs.Names.{is}

-- an id is sixteen bytes
pub record IsId (id : List ℕ) : Type 0 where
  pub size : length id ≡ 16
  pub bytes : IsBytes id

-- no id stands twice
abbrev pub are_distinct : List (List ℕ) → Bool
are_distinct [] = true
are_distinct (id ∷ ids) = not (list_any (λ other. is other id) ids) && are_distinct ids
