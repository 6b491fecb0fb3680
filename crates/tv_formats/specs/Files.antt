-- What a directory reads, name by name, and how a call changes it.
use Rattle.std.specs.Prelude.{◌≡◌, ◌≢◌, ◌⊎◌, ◌<◌, ◌≤◌, ◌+◌, ℕ, List, Option, Bool, not, ◌==◌}
use Rattle.std.specs.List.{list_all}

-- the bytes that each name reads, where there is such a file
abbrev pub Reads : Type 0
Reads = List ℕ → Option (List ℕ)

-- each name reads what it read
abbrev pub Same : Reads → Reads → Type 0
Same old new = (n : List ℕ) → new n ≡ old n

-- every other name reads what it read
abbrev pub KeepsOthers : Reads → Reads → List ℕ → Type 0
KeepsOthers old new name = (n : List ℕ) → n ≢ name → new n ≡ old n

-- this name reads this, and every other name what it read
pub record Sets (old new : Reads) (name : List ℕ) (value : Option (List ℕ)) : Type 0 where
  pub changed : new name ≡ value
  pub others : KeepsOthers old new name

-- this name reads this or what it read, and every other name what it read
pub record MaySet (old new : Reads) (name : List ℕ) (value : Option (List ℕ)) : Type 0 where
  pub either : (new name ≡ value) ⊎ (new name ≡ old name)
  pub others : KeepsOthers old new name

-- what was told: each piece with its moment
abbrev pub Heard : Type 0
Heard = List (ℕ × List ℕ)

-- a count rose; one that is kept in 64 bits may also stand at their end
abbrev pub Rose : ℕ → ℕ → Type 0
Rose before now = (before < now) ⊎ (now ≡ 18446744073709551615)

-- a count rose by at least so much, or stands at the end of 64 bits
abbrev pub RoseBy : ℕ → ℕ → ℕ → Type 0
RoseBy n before now = (before + n ≤ now) ⊎ (18446744073709551615 ≤ now)

-- no line feed stands in the line
abbrev pub has_no_feed : List ℕ → Bool
has_no_feed bytes = list_all (λ b. not (b == 10)) bytes
