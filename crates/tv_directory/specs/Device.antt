-- The device of a directory in memory.
use Rattle.std.specs.Prelude.{ℕ, ◌≡◌, ◌≤◌, ◌==◌, ◌&&◌, Bool, true, false, nat_lt, List}
use Rattle.std.specs.List.{list_any}
use Rattle.tv_base.specs.Texts.{counted, last}

-- the numbers of the calls that are refused, the number of the next call, and how many calls and how many
-- deletes were refused
pub record DeviceState : Type 0 where
  pub fail_at : List ℕ
  pub call : ℕ
  pub faults : ℕ
  pub refusals : ℕ

-- the next call is refused: its number is in the list, and it isn't the last one
abbrev pub is_refused : DeviceState → Bool
is_refused device = nat_lt device.call last && list_any (λ n. n == device.call) device.fail_at

-- after a call took its number
abbrev pub after_call : DeviceState → DeviceState
after_call device = record device { call = counted device.call }

-- after a refused call that isn't a delete was counted
abbrev pub after_fault : DeviceState → DeviceState
after_fault device = record device { faults = counted device.faults }

-- after a refused delete was counted
abbrev pub after_refusal : DeviceState → DeviceState
after_refusal device = record device { refusals = counted device.refusals }

-- the next call took its number, and is refused or isn't
pub record TakesNumber (old new : DeviceState) (refused : Bool) : Type 0 where
  pub answer : refused ≡ is_refused old
  pub number : new ≡ after_call old
  pub fits : old.refusals ≤ last

-- a call that wasn't refused: it took its number
pub record Passed (old new : DeviceState) : Type 0 where
  pub isnt : is_refused old ≡ false
  pub after : new ≡ after_call old

-- a refused call that isn't a delete: it took its number, and was counted as a fault
pub record Faulted (old new : DeviceState) : Type 0 where
  pub is : is_refused old ≡ true
  pub after : new ≡ after_fault (after_call old)

-- a refused delete: it took its number, and was counted as a refusal
pub record Refused (old new : DeviceState) : Type 0 where
  pub is : is_refused old ≡ true
  pub after : new ≡ after_refusal (after_call old)
