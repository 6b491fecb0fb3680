-- Bytes that come in pieces.
use Rattle.std.specs.Prelude.{ℕ, ◌≡◌, List, [], ◌++◌, Option, Some, Result, IfErr, OnOk}
use Rattle.tv_formats.specs.Files.{Rose}
use Rattle.tv_base.specs.Causes.{IsDevice}
use Rattle.tv_base.specs.declared.io.IoFault.{IoFault}

-- what is told of a source: the bytes that are still to come, where it tells them, and how many reads were
-- refused
pub record SourceView : Type 0 where
  pub left : Option (List ℕ)
  pub faults : ℕ

-- A read fails where the device refused it, and the count rose; else the count stands still.
pub record SourceFaults {A : Type 0} (old new : SourceView) (result : Result A IoFault) : Type 0 where
  pub quiet : OnOk result (new.faults ≡ old.faults)
  pub cause : IfErr result (λ fault. IsDevice fault × Rose old.faults new.faults)

-- the piece came off the front of what was left, where that is told
abbrev pub ReadsPiece : List ℕ → Option (List ℕ) → Option (List ℕ) → Type 0
ReadsPiece piece before after =
    (left : List ℕ) → before ≡ Some left → (rest : List ℕ) × (after ≡ Some rest) × (left ≡ piece ++ rest)

-- nothing is left, where that is told
abbrev pub IsAtEnd : Option (List ℕ) → Type 0
IsAtEnd before = (left : List ℕ) → before ≡ Some left → left ≡ []

-- what is left stays the same, where it is told
abbrev pub KeepsLeft : Option (List ℕ) → Option (List ℕ) → Type 0
KeepsLeft before after = (left : List ℕ) → before ≡ Some left → after ≡ Some left

-- the piece came to the end of what was taken, where that is told
abbrev pub Takes : List ℕ → Option (List ℕ) → Option (List ℕ) → Type 0
Takes piece before after = (taken : List ℕ) → before ≡ Some taken → after ≡ Some (taken ++ piece)

-- a first part of the piece, which may be empty, came to the end of what was taken, where that is told
abbrev pub TakesPart : List ℕ → Option (List ℕ) → Option (List ℕ) → Type 0
TakesPart piece before after =
    (taken : List ℕ) → before ≡ Some taken
    → (part : List ℕ) × (rest : List ℕ) × (piece ≡ part ++ rest) × (after ≡ Some (taken ++ part))

-- a sink in memory: what it took, how many bytes it may take in all, and how many calls it refused
pub record SinkState : Type 0 where
  pub taken : List ℕ
  pub room : ℕ
  pub faults : ℕ
