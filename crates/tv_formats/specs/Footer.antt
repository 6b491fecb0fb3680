-- A sealed file: what was written, and a footer with its checksum. And any other file that has a footer.
use Rattle.std.specs.Prelude.{ℕ, ◌≡◌, ◌≤◌, ◌/◌, ◌%◌, ◌+◌, ◌*◌, ◌-◌, List, [], ◌∷◌, ◌++◌, length, take, drop}
use Rattle.tv_formats.specs.Checksum.{crc32}
use Rattle.tv_formats.specs.FooterForm.{FooterNumbers, Spells, written_json}

-- four bytes of a number, the lowest first
abbrev pub four_bytes : ℕ → List ℕ
four_bytes n = n % 256 ∷ n / 256 % 256 ∷ n / 65536 % 256 ∷ n / 16777216 % 256 ∷ []

-- the numbers of a footer that this library writes: version 0.26.2, format 7, and the checksum of the body
abbrev pub own_footer : (crc : ℕ) → FooterNumbers
own_footer crc = record { major = 0; minor = 26; patch = 2; format = 7; crc = crc }

-- the JSON of the footer that this library writes behind a body with this checksum
abbrev pub footer_json : (crc : ℕ) → List ℕ
footer_json crc = written_json (own_footer crc)

-- the number by which a footer is known
abbrev pub footer_magic : ℕ
footer_magic = 1337

-- the JSON, its length, and that number
abbrev pub footer : ℕ → List ℕ
footer crc = footer_json crc ++ four_bytes (length (footer_json crc)) ++ four_bytes footer_magic

-- the bytes of a sealed file
abbrev pub sealed : List ℕ → List ℕ
sealed body = body ++ footer (crc32 body)

-- the file in four parts: its body, the JSON of its footer, the JSON's length, and the number by which a
-- footer is known
pub record IsFramed (bytes : List ℕ) (footer : FooterNumbers) (body : List ℕ) : Type 0 where
  pub json : List ℕ
  pub whole : bytes ≡ body ++ (json ++ (four_bytes (length json) ++ four_bytes footer_magic))
  pub short : length json ≤ 50000
  pub spells : Spells json (length body) footer

-- files of these formats are read
abbrev pub IsReadFormat : ℕ → Type 0
IsReadFormat format = (4 ≤ format) × (format ≤ 7)

-- files of this format aren't read
abbrev pub IsOtherFormat : ℕ → Type 0
IsOtherFormat format = IsReadFormat format → ⊥

-- the bytes have this body, and a good footer behind it: one of a format that is read, in any spelling,
-- whatever its checksum is
pub record HasBody (bytes body : List ℕ) : Type 0 where
  pub footer : FooterNumbers
  pub framed : IsFramed bytes footer body
  pub format : IsReadFormat footer.format

-- a file that can be read: it has a body and a good footer
pub record IsGood (bytes : List ℕ) : Type 0 where
  pub body : List ℕ
  pub has_body : HasBody bytes body

-- the number that some bytes spell, the lowest first
abbrev pub little_endian : List ℕ → ℕ
little_endian [] = 0
little_endian (b ∷ bytes) = b + 256 * little_endian bytes

-- the number in the four bytes before the last four: the length of the footer's JSON, in a file that has a
-- footer; of other bytes it says nothing
abbrev pub stated : List ℕ → ℕ
stated bytes = little_endian (take 4 (drop (length bytes - 8) bytes))

-- The body of a file that has one: where `HasBody` holds, this is it (the law `files_keep_their_body` says
-- so). It is a list for any other bytes too, which means nothing.
abbrev pub body_of : List ℕ → List ℕ
body_of bytes = take (length bytes - (stated bytes + 8)) bytes
