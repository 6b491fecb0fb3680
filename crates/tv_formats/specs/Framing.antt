-- The footer of a file as a function of its bytes, and whether the checksum in it is that of the body.
use Rattle.std.specs.Prelude.{ℕ, ◌==◌, ◌&&◌, nat_le, Bool, List, ◌++◌, length, take, drop, codes, Option, Some, None, option_map, if◌then◌else◌}
use Rattle.std.specs.Str.{is_utf8}
use Rattle.serde_json.specs.Data.{Data}
use Rattle.serde_json.specs.Find.{get}
use Rattle.serde_json.specs.Read.{read}
use Rattle.tv_formats.specs.Names.{is}
use Rattle.tv_formats.specs.Checksum.{crc32}
use Rattle.tv_formats.specs.FooterForm.{FooterNumbers, u32_at}
use Rattle.tv_formats.specs.Footer.{four_bytes, footer_magic, stated, body_of}

infixl 10 ◌>>=◌
abbrev pub ◌>>=◌ : {A B : Type 0} → Option A → (A → Option B) → Option B
None >>= f = None
(Some x) >>= f = f x

-- The numbers of a tree that has the form of a footer behind a body of this length. The formats that are read
-- so far don't look at the length.
abbrev pub footer_in : (length : ℕ) → Data → Option FooterNumbers
footer_in length d = do
  version ← get (codes "version") d
  major ← u32_at (codes "major") version
  minor ← u32_at (codes "minor") version
  patch ← u32_at (codes "patch") version
  format ← u32_at (codes "index_format_version") version
  crc ← u32_at (codes "crc") d
  Some (record { major = major; minor = minor; patch = patch; format = format; crc = crc })

-- The footer of a body of this length that a JSON text spells. The formats that are read so far don't look at
-- the length.
abbrev pub spelled_footer : (length : ℕ) → List ℕ → Option FooterNumbers
spelled_footer length json = if is_utf8 json then read json >>= footer_in length else None

-- what stands between the body of a file and its last eight bytes
abbrev pub stated_json : List ℕ → List ℕ
stated_json bytes = take (stated bytes) (drop (length (body_of bytes)) bytes)

-- what stands behind the body of a file whose footer has this JSON
abbrev pub footer_end : List ℕ → List ℕ
footer_end json = json ++ (four_bytes (length json) ++ four_bytes footer_magic)

-- the file is in four parts: the body, a text that isn't too long, its length, and the number by which a
-- footer is known
abbrev pub has_parts : List ℕ → Bool
has_parts bytes =
    nat_le (length (stated_json bytes)) 50000 && is (body_of bytes ++ footer_end (stated_json bytes)) bytes

-- the footer of a file that has one, whatever its format is
abbrev pub footer_of : List ℕ → Option FooterNumbers
footer_of bytes =
    if has_parts bytes then spelled_footer (length (body_of bytes)) (stated_json bytes) else None

-- whether the checksum in the footer is that of the body
abbrev pub is_intact : List ℕ → Option Bool
is_intact bytes = option_map (λ footer. footer.crc == crc32 (body_of bytes)) (footer_of bytes)
