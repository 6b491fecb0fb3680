-- Sets of numbers below a limit.
use Rattle.std.specs.Prelude.{ℕ, Bool, List, filter, length}

-- how many numbers are in a set, of which it is told for each number below the limit whether it is in
abbrev pub size_of : List Bool → ℕ
size_of marks = length (filter (λ mark. mark) marks)
