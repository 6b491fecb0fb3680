-- Which of the numbers and lengths that an event makes it spends.
use Rattle.std.proofs.Common.{◌⊎◌, inl, inr}

-- and one that gives no number none of these
pub only_length : {P : Type 0} → ⊥ ⊎ P → P
only_length (inl never) = absurd never
only_length (inr p) = p
