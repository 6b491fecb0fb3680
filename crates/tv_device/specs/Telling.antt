-- What is heard of a line.
use Rattle.std.specs.Prelude.{ℕ, ◌≡◌, ◌⊎◌, List, [], ◌∷◌, ◌++◌}
use Rattle.tv_formats.specs.Files.{Heard}

-- Of a line whose telling was refused nothing was told, or a first part without its line feed.
abbrev pub TellsPart : Heard → Heard → ℕ → List ℕ → Type 0
TellsPart before now moment line =
    (now ≡ before)
    ⊎ ((part : List ℕ) × (rest : List ℕ) × (line ≡ part ++ rest) × (now ≡ before ++ (moment, part) ∷ []))
