-- What writes a file, and a writer that counts.
use Rattle.std.specs.Prelude.{ℕ, ◌≡◌, ◌++◌, Bool, true, false, List, Result, IfErr, OnOk}
use Rattle.tv_formats.specs.Files.{Rose}
use Rattle.tv_base.specs.Causes.{IoCause}
use Rattle.tv_base.specs.declared.io.IoError.{IoError}

-- what is told of a writer: the bytes that were taken; how many calls the device has refused; and whether no
-- further call may be made, since the end was told or a call was refused
pub record WriterView : Type 0 where
  pub taken : List ℕ
  pub faults : ℕ
  pub ended : Bool

-- A call fails where the device refused it, and then no further call may be made; or where memory was wanted,
-- and then, as at Ok, more may follow and the count stands still.
pub record WriteFaults {A : Type 0} (old new : WriterView) (result : Result A IoError) : Type 0 where
  pub quiet : OnOk result (new.faults ≡ old.faults)
  pub cause : IfErr result (IoCause (Rose old.faults new.faults) (new.faults ≡ old.faults))
  pub going : OnOk result (new.ended ≡ false)
  pub over : IfErr result (IoCause (new.ended ≡ true) (new.ended ≡ false))

-- All of these bytes were taken. Where memory is wanted, none of them is; how many a refused call has taken
-- isn't said.
pub record TakesAll {A : Type 0} (old new : WriterView) (bytes : List ℕ)
    (result : Result A IoError) : Type 0 where
  pub ok : OnOk result (new.taken ≡ old.taken ++ bytes)
  pub memory : IfErr result (IoCause (Unit {0}) (new.taken ≡ old.taken))

-- Nothing more was taken, unless the device refused the call.
pub record TakesNone {A : Type 0} (old new : WriterView) (result : Result A IoError) : Type 0 where
  pub ok : OnOk result (new.taken ≡ old.taken)
  pub memory : IfErr result (IoCause (Unit {0}) (new.taken ≡ old.taken))

-- The end was told, or that was tried: no further call may be made. A writer that keeps what was taken, keeps
-- it, unless the device refused the call.
pub record Ends {A : Type 0} (keeps : Type 0) (old new : WriterView)
    (result : Result A IoError) : Type 0 where
  pub ended : new.ended ≡ true
  pub quiet : OnOk result (new.faults ≡ old.faults)
  pub cause : IfErr result (IoCause (Rose old.faults new.faults) (new.faults ≡ old.faults))
  pub ok : keeps → OnOk result (new.taken ≡ old.taken)
  pub memory : keeps → IfErr result (IoCause (Unit {0}) (new.taken ≡ old.taken))

-- the writer below, and how many bytes were written through the one that counts
pub record Counting (W : Type 0) : Type 0 where
  pub writer : W
  pub written : ℕ
