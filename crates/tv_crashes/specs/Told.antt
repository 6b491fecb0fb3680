-- Which whole lines were told, and how many of them up to a moment.
use Rattle.std.specs.Prelude.{ℕ, ◌≡◌, ◌==◌, ◌&&◌, ◌++◌, Bool, false, List, [], ◌∷◌, length, map, nat_le}
use Rattle.std.specs.List.{filter}
use Rattle.tv_formats.specs.Files.{Heard}

-- a piece that was told is a whole line: it ends in a line feed
abbrev pub is_whole_line : List ℕ → Bool
is_whole_line [] = false
is_whole_line (b ∷ []) = b == 10
is_whole_line (b ∷ c ∷ rest) = is_whole_line (c ∷ rest)

-- the whole lines, in order; other pieces count as none
abbrev pub whole_lines : Heard → List (List ℕ)
whole_lines heard = map (λ piece. piece.1) (filter (λ piece. is_whole_line piece.1) heard)

-- a piece is a whole line that was told by this moment
abbrev pub is_told_by : ℕ → ℕ × List ℕ → Bool
is_told_by x piece = is_whole_line piece.1 && nat_le piece.0 x

-- how many whole lines were told by this moment
abbrev pub count_told_by : ℕ → Heard → ℕ
count_told_by x heard = length (filter (is_told_by x) heard)

-- each line with its line feed
abbrev pub with_feeds : List (List ℕ) → List (List ℕ)
with_feeds lines = map (λ line. line ++ 10 ∷ []) lines

-- these lines are the first of all
pub record AreFirst (first all : List (List ℕ)) : Type 0 where
  pub rest : List (List ℕ)
  pub are : all ≡ first ++ rest
