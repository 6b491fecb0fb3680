-- How the list of a composite file is read.
use Rattle.std.specs.Prelude.{ℕ, ◌≡◌, ◌≤◌, ◌+◌, List, [], ◌∷◌, ◌++◌, map}
use Rattle.tv_formats.specs.Footer.{four_bytes}
use Rattle.tv_formats.specs.VInt.{vint}
use Rattle.tv_framing.specs.declared.address.FileAddr.{FileAddr}
use Rattle.tv_framing.specs.declared.entries.PartEntry.{PartEntry}
use Rattle.tv_framing.specs.declared.starts.Start.{Start}
use Rattle.tv_framing.specs.Composite.{AreDistinct}

-- one entry, and several
abbrev pub entry_text : PartEntry → List ℕ
entry_text entry = vint entry.gap ++ (four_bytes entry.addr.field ++ vint entry.addr.idx)

-- the spelling of entries, one behind the other
abbrev pub entries_text : List PartEntry → List ℕ
entries_text [] = []
entries_text (entry ∷ entries) = entry_text entry ++ entries_text entries

-- where the bodies begin
abbrev pub starts_after : ℕ → List PartEntry → List Start
starts_after offset [] = []
starts_after offset (entry ∷ entries) =
    record { addr = entry.addr; offset = offset + entry.gap } ∷ starts_after (offset + entry.gap) entries

-- the addresses of entries, in their order
abbrev pub entry_addresses : List PartEntry → List FileAddr
entry_addresses entries = map (λ entry. entry.addr) entries

-- how far the last one begins behind the first byte
abbrev pub gaps : List PartEntry → ℕ
gaps [] = 0
gaps (entry ∷ entries) = entry.gap + gaps entries

-- the first begins at 0; without entries there are no bytes
abbrev pub BeginsAtFirst : List PartEntry → ℕ → Type 0
BeginsAtFirst [] len = len ≡ 0
BeginsAtFirst (entry ∷ entries) len = entry.gap ≡ 0

-- these are the entries of bodies that have so many bytes
pub record IsLayout (entries : List PartEntry) (len : ℕ) : Type 0 where
  pub first : BeginsAtFirst entries len
  pub within : gaps entries ≤ len
  pub distinct : AreDistinct (entry_addresses entries)
