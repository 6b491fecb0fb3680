-- A writer that ends with a footer.
use Rattle.std.specs.Prelude.{ℕ, ◌≡◌, ◌++◌, ◌||◌, not, true, false, is_some, List, Option, Some, None, Result, IfErr, OnOk}
use Rattle.tv_formats.specs.Footer.{footer}
use Rattle.tv_base.specs.Causes.{IoCause}
use Rattle.tv_base.specs.Writers.{WriterView}
use Rattle.tv_base.specs.declared.io.IoError.{IoError}
use Rattle.tv_base.specs.declared.writers.TerminatingWrite.{Ghosts}
use Rattle.tv_checksum.specs.declared.Checksum.{Ghosts as Sum}
use Rattle.tv_framing.specs.Composing.{before_last}
use Rattle.tv_framing.specs.Sealing.{SealedAfter, Steps}

-- the writer below, the checksum of what was written until the end is told, and how long the footer is that
-- was written
pub record Proxied (W C : Type 0) : Type 0 where
  pub writer : W
  pub sum : Option C
  pub footer_len : ℕ

-- What is told of it: what was taken, without the footer. It has ended where the writer below has, and where
-- the end was told.
abbrev pub seen : {W C : Type 0} → (W → WriterView) → Proxied W C → WriterView
seen view p = record {
  taken = before_last p.footer_len (view p.writer).taken;
  faults = (view p.writer).faults;
  ended = (view p.writer).ended || not (is_some p.sum);
}

-- the checksum is that of these bytes
abbrev pub SumsUp : {C : Type 0} → (C → List ℕ → Type 0) → Option C → List ℕ → Type 0
SumsUp has_taken None body = ⊥
SumsUp has_taken (Some sum) body = has_taken sum body

-- These bytes were summed up too. Where memory is wanted, none of them was.
pub record AddsUp {C A : Type 0} (c : Sum C) (old new : Option C) (bytes : List ℕ)
    (result : Result A IoError) : Type 0 where
  pub ok : (body : List ℕ) → SumsUp c.has_taken old body
      → OnOk result (SumsUp c.has_taken new (body ++ bytes))
  pub memory : IfErr result (IoCause (Unit {0}) (new ≡ old))

-- The writer below was given these bytes, and then a body of which this is the checksum. The footer isn't
-- begun.
pub record HasSummed {W C : Type 0} (w : Ghosts W) (c : Sum C) (front : List ℕ)
    (p : Proxied W C) : Type 0 where
  pub body : List ℕ
  pub sums : SumsUp c.has_taken p.sum body
  pub taken : (w.view p.writer).taken ≡ front ++ body
  pub bare : p.footer_len ≡ 0

-- Only calls were made on the writer below; and as long as it goes on, the checksum is that of all that came
-- behind the same bytes.
pub record ProxyStays {W C : Type 0} (w : Ghosts W) (c : Sum C) (old new : Proxied W C) : Type 0 where
  pub below : Steps w.stays old.writer new.writer
  pub summed : (seen w.view new).ended ≡ false → (front : List ℕ) → HasSummed w c front old
      → HasSummed w c front new

-- These bytes, and behind them the footer of the body, are all that the writer below was given when its end
-- was told.
abbrev pub SealedWithFooter : {W C : Type 0} → Ghosts W → Sum C → Proxied W C → Proxied W C → List ℕ → Type 0
SealedWithFooter w c old new bytes =
    (body : List ℕ) → SumsUp c.has_taken old.sum body
    → SealedAfter w old.writer new.writer (bytes ++ footer (c.checksum body))

-- What the proxy was given, and behind it the footer of the body, is all that the writer below was given
-- when its end was told.
abbrev pub SealsProxy : {W C : Type 0} → Ghosts W → Sum C → Proxied W C → Proxied W C → Type 0
SealsProxy w c old new = SealedWithFooter w c old new (seen w.view old).taken

-- At Ok the writer below has ended; and if it keeps what was taken, that is what it had taken before and the
-- footer of the body that was summed up.
pub record EndsWithFooter {W C A : Type 0} (w : Ghosts W) (c : Sum C) (old new : Proxied W C)
    (result : Result A IoError) : Type 0 where
  pub ended : OnOk result ((w.view new.writer).ended ≡ true)
  pub kept : w.keeps → (body : List ℕ) → SumsUp c.has_taken old.sum body
      → OnOk result ((w.view new.writer).taken ≡ (w.view old.writer).taken ++ footer (c.checksum body))
