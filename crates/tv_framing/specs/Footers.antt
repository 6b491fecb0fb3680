-- Footers, in any spelling.
use Rattle.std.specs.Prelude.{ℕ, ◌≡◌, ◌≢◌, ◌⊎◌, ◌<◌, ◌≤◌, ◌+◌, ◌-◌, List, ◌++◌, length, take, drop, codes}
use Rattle.std.specs.Fmt.{decimal}
use Rattle.serde_json.specs.Data.{Data}
use Rattle.tv_formats.specs.FooterForm.{FooterNumbers}
use Rattle.tv_formats.specs.FooterForm as form
use Rattle.tv_formats.specs.Footer.{body_of, four_bytes, footer_magic, stated}
use Rattle.tv_formats.specs.Footer as model
use Rattle.tv_base.specs.declared.io.IoKind.TheVariants.{InvalidData, UnexpectedEof}
use Rattle.tv_base.specs.declared.io.IoFault.{IoFault}
use Rattle.tv_base.specs.Versions.{library_version}
use Rattle.tv_framing.specs.Faults.{IsFault}
use Rattle.tv_framing.specs.declared.footer.Footer.{Footer}

-- the numbers of a footer
abbrev pub numbers_of : Footer → FooterNumbers
numbers_of footer = record {
  major = footer.version.major;
  minor = footer.version.minor;
  patch = footer.version.patch;
  format = footer.version.index_format_version;
  crc = footer.crc;
}

-- The tree is an object that has the fields of the footer of a body of this length, whatever else it has. The
-- formats that are read so far don't look at the length.
abbrev pub HasFooterFields : Data → (length : ℕ) → Footer → Type 0
HasFooterFields d length footer = form.IsFooter d length (numbers_of footer)

-- The JSON text spells the footer of a body of this length. The formats that are read so far don't look at
-- the length.
abbrev pub SpellsFooter : List ℕ → (length : ℕ) → Footer → Type 0
SpellsFooter json length footer = form.Spells json length (numbers_of footer)

-- the footer that this library writes for a body of this checksum
abbrev pub own_footer : ℕ → Footer
own_footer crc = record { version = library_version; crc = crc }

-- the numbers of a footer fit 32 bits
abbrev pub HasFittingNumbers : Footer → Type 0
HasFittingNumbers footer = form.FooterFits (numbers_of footer)

-- the file in four parts: its body, the JSON of the footer, the JSON's length, and the number by which a
-- footer is known
abbrev pub IsFramedAs : List ℕ → Footer → List ℕ → Type 0
IsFramedAs bytes footer body = model.IsFramed bytes (numbers_of footer) body

-- the file can't be seen so
abbrev pub IsNotFramed : List ℕ → Type 0
IsNotFramed bytes = (footer : Footer) (body : List ℕ) → IsFramedAs bytes footer body → ⊥

-- the last four bytes, and the bytes before the last eight that the number in the first four of those means
abbrev pub last_four : List ℕ → List ℕ
last_four bytes = drop (length bytes - 4) bytes

-- the bytes that stand for the footer's JSON: as many as the stated length says, before the last eight
abbrev pub stated_json : List ℕ → List ℕ
stated_json bytes = take (stated bytes) (drop (length bytes - (stated bytes + 8)) bytes)

-- what is said of a file with another magic number
abbrev pub other_magic_text : List ℕ
other_magic_text =
    codes "Footer magic byte mismatch. File corrupted or index was created using old an tantivy "
    ++ (codes "version which is not supported anymore. Please use tantivy 0.15 or above to "
    ++ codes "recreate the index.")

-- what is said of a file that states a footer of so many bytes
abbrev pub too_long_text : ℕ → List ℕ
too_long_text size =
    codes "Footer seems invalid as it suggests a footer len of " ++ (decimal size
    ++ (codes ". File is corrupted, or the index was created with a different & old version of "
    ++ codes "tantivy."))

-- what is said of a file that is shorter than a footer of so many bytes
abbrev pub cut_off_text : ℕ → List ℕ
cut_off_text size =
    codes "File corrupted. The file is smaller than it's footer bytes (len=" ++ (decimal size
    ++ codes ").")

-- why a file is refused, each where no earlier reason holds
pub record IsTooSmall (bytes : List ℕ) (fault : IoFault) : Type 0 where
  pub small : length bytes < 8
  pub is : IsFault UnexpectedEof (codes "File corrupted. The file is smaller than 8 bytes (len="
      ++ (decimal (length bytes) ++ codes ").")) fault

-- A file is refused whose last four bytes aren't the magic number of footers.
pub record HasOtherMagic (bytes : List ℕ) (fault : IoFault) : Type 0 where
  pub large : 8 ≤ length bytes
  pub other : last_four bytes ≢ four_bytes footer_magic
  pub is : IsFault InvalidData other_magic_text fault

-- A file is refused that states a footer of more than 50,000 bytes.
pub record StatesTooMuch (bytes : List ℕ) (fault : IoFault) : Type 0 where
  pub large : 8 ≤ length bytes
  pub magic : last_four bytes ≡ four_bytes footer_magic
  pub long : 50000 < stated bytes
  pub is : IsFault InvalidData (too_long_text (stated bytes)) fault

-- A file is refused that is shorter than the footer which it states.
pub record IsCutOff (bytes : List ℕ) (fault : IoFault) : Type 0 where
  pub large : 8 ≤ length bytes
  pub magic : last_four bytes ≡ four_bytes footer_magic
  pub short : stated bytes ≤ 50000
  pub cut : length bytes < stated bytes + 8
  pub is : IsFault UnexpectedEof (cut_off_text (stated bytes + 8)) fault

-- A file is refused whose footer isn't spelled as JSON of the footer's form, for a body of the length of the
-- one before it. The formats that are read so far don't look at the length.
pub record IsNoFooter (bytes : List ℕ) (fault : IoFault) : Type 0 where
  pub magic : last_four bytes ≡ four_bytes footer_magic
  pub short : stated bytes ≤ 50000
  pub whole : stated bytes + 8 ≤ length bytes
  pub other : (footer : Footer) → SpellsFooter (stated_json bytes) (length (body_of bytes)) footer → ⊥
  pub is : IsFault InvalidData (codes "Footer is not of the stated form.") fault

-- Why a file isn't read as one with a footer: the first of five reasons that holds, each with its fault.
abbrev pub Refuses : List ℕ → IoFault → Type 0
Refuses bytes fault =
    IsTooSmall bytes fault ⊎ (HasOtherMagic bytes fault
    ⊎ (StatesTooMuch bytes fault ⊎ (IsCutOff bytes fault ⊎ IsNoFooter bytes fault)))

-- the footer as it is written
abbrev pub footer_json : Footer → List ℕ
footer_json footer = form.written_json (numbers_of footer)

-- the footer as it stands at a file's end: its JSON, the length of that, and the magic number
abbrev pub footer_text : Footer → List ℕ
footer_text footer =
    footer_json footer ++ (four_bytes (length (footer_json footer)) ++ four_bytes footer_magic)
