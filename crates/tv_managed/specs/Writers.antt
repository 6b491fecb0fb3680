-- Writers that keep a checksum.
use Rattle.std.specs.Prelude.{ℕ, ◌≡◌, List, Result, IfErr, OnOk}
use Rattle.tv_base.specs.Causes.{IoCause}
use Rattle.tv_base.specs.declared.io.IoError.{IoError}
use Rattle.tv_checksum.specs.Crc32.{HasTaken}
use Rattle.tv_device.specs.Calls.{IsNewWriter, HandsBack}
use Rattle.tv_device.specs.View.{WriterState}
use Rattle.tv_device.specs.declared.directory.Directory.{Ghosts}
use Rattle.tv_managed.specs.declared.writer.ManagedWriter.{ManagedWriter}

-- the checksum is that of what was written
abbrev pub IsSummed : {D W C : Type 0} → (W → WriterState) → ManagedWriter D W C → Type 0
IsSummed state_of w = HasTaken w.checksum (state_of w.writer).written

-- a writer that was just opened for a name, with the checksum of nothing
pub record IsNewManaged {D W C : Type 0} (g : Ghosts D W C) (directory : D) (name : List ℕ)
    (w : ManagedWriter D W C) : Type 0 where
  pub writer : IsNewWriter g.told (g.view directory) g.state_of name w.writer
  pub summed : IsSummed g.state_of w

-- a writer keeps its name, what it has written, and the checksum of that
pub record KeepsWritten {D W C : Type 0} (state_of : W → WriterState)
    (before after : ManagedWriter D W C) : Type 0 where
  pub state : state_of after.writer ≡ state_of before.writer
  pub summed : IsSummed state_of before → IsSummed state_of after

-- A writer may be handed in again, and has the checksum of what was written where it had, unless the device
-- refused the call.
pub record HandsOn {A D W C : Type 0} (g : Ghosts D W C) (old new : D) (before after : ManagedWriter D W C)
    (result : Result A IoError) : Type 0 where
  pub hands_back : HandsBack g.told (g.view old) (g.view new) before.writer after.writer result
  pub summed : OnOk result (IsSummed g.state_of before → IsSummed g.state_of after)
  pub memory : IfErr result (IoCause (Unit {0}) (IsSummed g.state_of before → IsSummed g.state_of after))
