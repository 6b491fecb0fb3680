-- With what a store was opened that is shared.
use Rattle.std.specs.Prelude.{ℕ}
use Rattle.tv_machine.specs.State.{State}
use Rattle.tv_shared.specs.declared.opening.Opening.{Ghosts}

-- The states that the store could be taken for, how many calls its outside had refused, and whether it was a sound
-- start that is told.
pub record Name : Type 1 where
  pub start : State → Type 0
  pub faults : ℕ
  pub sound : Type 0

-- what a type parameter names that stands for it
abbrev pub name_of : {N : Type 0} → Ghosts N → Name
name_of n = record { start = n.start; faults = n.faults; sound = n.sound }
