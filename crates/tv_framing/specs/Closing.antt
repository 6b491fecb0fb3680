-- How a composite file is closed, and why it can't be.
use Rattle.std.specs.Prelude.{ℕ, ◌≡◌, ◌≤◌, ◌^◌, ◌⊎◌, ◌++◌, true, false, List, length, Result, IfErr, OnOk}
use Rattle.tv_formats.specs.Files.{Rose}
use Rattle.tv_base.specs.Causes.{IsDevice}
use Rattle.tv_base.specs.declared.io.IoKind.TheVariants.{InvalidData}
use Rattle.tv_base.specs.declared.io.IoError.{IoError}
use Rattle.tv_base.specs.declared.io.IoError.TheVariants as io
use Rattle.tv_base.specs.declared.writers.TerminatingWrite.{Ghosts}
use Rattle.tv_framing.specs.Faults.{IsFault}
use Rattle.tv_framing.specs.Composite.{composite, footing, list_too_long}
use Rattle.tv_framing.specs.Composing.{Composing}
use Rattle.tv_framing.specs.Sealing.{SealsAll}
use Rattle.tv_framing.specs.Starts.{footing_text, list_text}
use Rattle.tv_framing.specs.declared.starts.Start.{Start}

-- what is true of each answer: where the list is too long, where the device refused a call, and where memory
-- was wanted
abbrev pub CloseCause : (long refused wanted : Type 0) → IoError → Type 0
CloseCause long refused wanted (io.Fault fault) =
    (IsFault InvalidData list_too_long fault × long) ⊎ (IsDevice fault × refused)
CloseCause long refused wanted io.Memory = wanted

-- nothing more was taken by a writer that goes on; or all of these bytes, and then the end was told
abbrev pub StopsShort : {W : Type 0} → Ghosts W → W → W → List ℕ → Type 0
StopsShort w old new bytes =
    (((w.view new).taken ≡ (w.view old).taken) × ((w.view new).ended ≡ false))
    ⊎ ((w.keeps → (w.view new).taken ≡ bytes) × ((w.view new).ended ≡ true))

-- Why a writer isn't given the rest of these bytes and its end. Where the list is too long, nothing was done;
-- where the device refused a call, no further one may be made.
pub record EndFaults {W A : Type 0} (w : Ghosts W) (long : Type 0) (old new : W) (bytes : List ℕ)
    (result : Result A IoError) : Type 0 where
  pub quiet : OnOk result ((w.view new).faults ≡ (w.view old).faults)
  pub ended : OnOk result ((w.view new).ended ≡ true)
  pub cause : IfErr result (CloseCause (long × (new ≡ old))
      (Rose (w.view old).faults (w.view new).faults × ((w.view new).ended ≡ true))
      (((w.view new).faults ≡ (w.view old).faults) × StopsShort w old new bytes))

-- the list of these starts is written, behind what was taken; and why it isn't
abbrev pub SealsList : {W A : Type 0} → Ghosts W → List Start → W → W → Result A IoError → Type 0
SealsList w starts old new result = SealsAll w old new ((w.view old).taken ++ list_text starts) result

-- why the list of these starts isn't written: it is too long, or the writer refused it, or memory was wanted
abbrev pub ListFaults : {W A : Type 0} → Ghosts W → List Start → W → W → Result A IoError → Type 0
ListFaults w starts old new result =
    EndFaults w (2 ^ 32 ≤ length (footing_text starts)) old new
    ((w.view old).taken ++ list_text starts) result

-- all bytes of the file that is closed
abbrev pub whole_file : {W : Type 0} → Composing W → List ℕ
whole_file c = c.before ++ composite c.parts

-- why it can't be closed, and what the writer is then
abbrev pub CloseFaults : {W A : Type 0} → Ghosts W → Composing W → W → Result A IoError → Type 0
CloseFaults w c new result =
    EndFaults w (2 ^ 32 ≤ length (footing c.parts)) c.writer new (whole_file c) result
