-- Why bytes are refused.
use Rattle.std.specs.Prelude.{ℕ, ◌≡◌, List, string_bytes}
use Rattle.tv_base.specs.declared.io.IoKind.{IoKind}
use Rattle.tv_base.specs.declared.io.IoFault.{IoFault}
use Rattle.tv_base.specs.declared.io.IoError.{IoError}
use Rattle.tv_base.specs.declared.io.IoError.TheVariants as io

-- the fault is of this kind and has this text
abbrev pub IsFault : IoKind → List ℕ → IoFault → Type 0
IsFault kind text fault = (fault.kind ≡ kind) × (string_bytes fault.text ≡ text)

-- this is true of the fault; want of memory says nothing
abbrev pub OfFault : (IoFault → Type 0) → IoError → Type 0
OfFault P (io.Fault fault) = P fault
OfFault P io.Memory = Unit {0}
