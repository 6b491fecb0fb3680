-- The JSON of a footer, in any spelling.
use Rattle.std.specs.Prelude.{ℕ, ◌≡◌, ◌<◌, ◌^◌, List, codes, IsUtf8, nat_lt, if◌then◌else◌, Option, Some, None, option_and_then}
use Rattle.serde_json.specs.Data.{Data, unsigned, number, object, no_members, member}
use Rattle.serde_json.specs.Find.{get, as_number, as_u64}
use Rattle.serde_json.specs.Read.{read}
use Rattle.serde_json.specs.Written.{compact_text}

-- the numbers of a footer: the version of the library that wrote the file, the format of the file, and the
-- checksum of its body
pub record FooterNumbers : Type 0 where
  pub major : ℕ
  pub minor : ℕ
  pub patch : ℕ
  pub format : ℕ
  pub crc : ℕ

-- a number of 32 bits
abbrev pub if_u32 : ℕ → Option ℕ
if_u32 n = if nat_lt n (2 ^ 32) then Some n else None

-- the field at this key, where it is such a number; of a repeated key the last counts
abbrev pub u32_at : List ℕ → Data → Option ℕ
u32_at key d = option_and_then if_u32 (option_and_then as_u64 (option_and_then as_number (get key d)))

-- The tree is an object that has the fields of a footer behind a body of this length, whatever else it has.
-- The formats that are read so far don't look at the length.
pub record IsFooter (d : Data) (length : ℕ) (footer : FooterNumbers) : Type 0 where
  pub version : Data
  pub version_at : get (codes "version") d ≡ Some version
  pub major : u32_at (codes "major") version ≡ Some footer.major
  pub minor : u32_at (codes "minor") version ≡ Some footer.minor
  pub patch : u32_at (codes "patch") version ≡ Some footer.patch
  pub format : u32_at (codes "index_format_version") version ≡ Some footer.format
  pub crc : u32_at (codes "crc") d ≡ Some footer.crc

-- The JSON text spells the footer of a body of this length. The formats that are read so far don't look at
-- the length.
pub record Spells (json : List ℕ) (length : ℕ) (footer : FooterNumbers) : Type 0 where
  pub text : IsUtf8 json
  pub tree : Data
  pub parsed : read json ≡ Some tree
  pub form : IsFooter tree length footer

-- the numbers fit 32 bits
pub record FooterFits (footer : FooterNumbers) : Type 0 where
  pub major : footer.major < 2 ^ 32
  pub minor : footer.minor < 2 ^ 32
  pub patch : footer.patch < 2 ^ 32
  pub format : footer.format < 2 ^ 32
  pub crc : footer.crc < 2 ^ 32

-- the numbers of a version as JSON
abbrev pub version_tree : FooterNumbers → Data
version_tree footer =
    object (member (codes "major") (number (unsigned footer.major))
    (member (codes "minor") (number (unsigned footer.minor))
    (member (codes "patch") (number (unsigned footer.patch))
    (member (codes "index_format_version") (number (unsigned footer.format)) no_members))))

-- these numbers as JSON
abbrev pub footer_tree : FooterNumbers → Data
footer_tree footer =
    object (member (codes "version") (version_tree footer)
    (member (codes "crc") (number (unsigned footer.crc)) no_members))

-- the JSON of these numbers as it is written, without blanks
abbrev pub written_json : FooterNumbers → List ℕ
written_json footer = compact_text (footer_tree footer)
