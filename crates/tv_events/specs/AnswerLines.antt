-- How answers are spelled.
use Rattle.std.specs.Prelude.{ℕ, List, [], ◌∷◌, ◌++◌, codes, Option, Some, None}
use Rattle.hex.specs.Hex.{encode_lower}
use Rattle.std.specs.Fmt.{decimal}
use Rattle.tv_formats.specs.declared.segment.LiveSegment.{LiveSegment}
use Rattle.tv_formats.specs.Segments.{num_docs}

-- the words after the text, each behind a space
abbrev pub line : List ℕ → List (List ℕ) → List ℕ
line text [] = text
line text (word ∷ words) = line (text ++ 32 ∷ word) words

-- a payload: `-` where there is none, else `+` and its bytes in lower-case digits
abbrev pub payload_word : Option (List ℕ) → List ℕ
payload_word None = codes "-"
payload_word (Some text) = codes "+" ++ encode_lower text

-- a segment, and how many living documents it has
abbrev pub segment_word : List ℕ × LiveSegment → List ℕ
segment_word e = encode_lower e.0 ++ 61 ∷ decimal (num_docs e.1)

-- bytes in lower-case digits, `-` where there are none
abbrev pub bytes_word : List ℕ → List ℕ
bytes_word [] = codes "-"
bytes_word (b ∷ bytes) = encode_lower (b ∷ bytes)
