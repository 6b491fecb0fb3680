-- What several calls on one writer leave, and what they make.
use Rattle.std.specs.Prelude.{ℕ, ◌≡◌, false, List, [], ◌∷◌, Result, OnOk}
use Rattle.tv_base.specs.declared.io.IoError.{IoError}
use Rattle.tv_base.specs.declared.writers.TerminatingWrite.{Ghosts}

-- these are the writer after each of some calls, the last of them as it is then; where there was none, it is
-- as before
abbrev pub Follow : {W : Type 0} → (W → W → Type 0) → W → List W → W → Type 0
Follow stays old [] new = new ≡ old
Follow stays old (next ∷ rest) new = stays old next × Follow stays next rest new

-- Only calls were made on the writer, each of which left what a call leaves.
pub record Steps {W : Type 0} (stays : W → W → Type 0) (old new : W) : Type 0 where
  pub after : List W
  pub each : Follow stays old after new

-- Some bytes were taken by a writer that goes on, with which these are all that it has taken; and then the
-- end was told.
pub record SealedAfter {W : Type 0} (w : Ghosts W) (old new : W) (bytes : List ℕ) : Type 0 where
  pub between : W
  pub stays : w.stays old between
  pub going : (w.view between).ended ≡ false
  pub taken : (w.view between).taken ≡ bytes
  pub sealed : w.sealed between new bytes

-- These are all bytes that the writer was given when the end was told, whether or not it keeps them.
pub record SealsAll {W A : Type 0} (w : Ghosts W) (old new : W) (bytes : List ℕ)
    (result : Result A IoError) : Type 0 where
  pub sealed : OnOk result (SealedAfter w old new bytes)
  pub kept : w.keeps → OnOk result ((w.view new).taken ≡ bytes)
