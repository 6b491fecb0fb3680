-- Numbers that fit.
use Rattle.std.specs.Prelude.{ℕ, ◌≡◌, ◌<◌, ◌^◌, List, ◌++◌, length}
use Rattle.std.specs.List.{AllByRecursion}
use Rattle.tv_formats.specs.VInt.{vint}
use Rattle.tv_framing.specs.declared.entries.PartEntry.{PartEntry}
use Rattle.tv_framing.specs.Composite.{IsAddress}
use Rattle.tv_framing.specs.declared.starts.Start.{Start}
use Rattle.tv_framing.specs.Entries.{IsLayout, entries_text, starts_after}

-- the numbers of an entry fit
abbrev pub EntryFits : PartEntry → Type 0
EntryFits entry = (entry.gap < 2 ^ 64) × IsAddress entry.addr

-- the bytes spell these entries behind their number
pub record SpellsEntries (bytes : List ℕ) (entries : List PartEntry) : Type 0 where
  pub fits : AllByRecursion EntryFits entries
  pub text : bytes ≡ vint (length entries) ++ entries_text entries

-- the starts are those of entries that the bytes spell, and whose bodies have so many bytes
pub record AreListed (bytes : List ℕ) (len : ℕ) (starts : List Start) : Type 0 where
  pub entries : List PartEntry
  pub spells : SpellsEntries bytes entries
  pub layout : IsLayout entries len
  pub made : starts ≡ starts_after 0 entries
