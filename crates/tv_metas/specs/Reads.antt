-- What is read of a text or of a tree, or isn't.
use Rattle.std.specs.Prelude.{◌≡◌, Option, Some, None, Result, Ok, Err}
use Rattle.tv_metas.specs.declared.read_error.ReadError.{ReadError}
use Rattle.tv_metas.specs.declared.read_error.ReadError.TheVariants.{Corrupt, Memory}

-- a fact of what is corrupt; memory may be wanted at any time
abbrev pub IfCorrupt : ReadError → Type 0 → Type 0
IfCorrupt Corrupt fact = fact
IfCorrupt Memory fact = Unit {0}

-- the value, as it is seen, is what there is to read, and where there is nothing it is corrupt
abbrev pub Gives : {X Y : Type 0} → (X → Y) → Result X ReadError → Option Y → Type 0
Gives seen (Ok x) found = found ≡ Some (seen x)
Gives seen (Err e) found = IfCorrupt e (found ≡ None)
