-- How the printed form of a commit is told, in which the text of the schema may nest too deep to be
-- read: with the schema without fields in its place.
use Rattle.std.specs.Prelude.{ℕ, ◌≡◌, ◌==◌, List, ◌++◌, Bool, true, not, codes, Option, Some, None}
use Rattle.std.specs.List.{list_all}
use Rattle.serde_json.specs.Data.{Data}
use Rattle.tv_formats.specs.Commits.{Commit, Settings}
use Rattle.tv_formats.specs.Meaning.{IsPrinted, IsNotPrinted}
use Rattle.tv_formats.specs.MetaJson.{SpellsMeta}
use Rattle.tv_metas.specs.declared.reading.Body.{Body}
use Rattle.tv_metas.specs.MetaReading.{held_by}

-- no bracket is closed
abbrev pub has_no_bracket : List ℕ → Bool
has_no_bracket bytes = list_all (λ b. not (b == 93)) bytes

-- the bytes are these two, and between them the first bracket that is closed, the key of the
-- schema and this schema
pub record IsAround (schema bytes front back : List ℕ) : Type 0 where
  pub unclosed : has_no_bracket front ≡ true
  pub bytes_are : bytes ≡ front ++ (codes "],\"schema\":" ++ (schema ++ back))

-- the bytes are no two around this schema
abbrev pub IsAroundNone : (schema bytes : List ℕ) → Type 0
IsAroundNone schema bytes = (front back : List ℕ) → IsAround schema bytes front back → ⊥

-- the text is the printed form under the schema without fields of each commit whose printed form
-- under this schema the bytes are
abbrev pub IsBared : (schema bytes text : List ℕ) → Type 0
IsBared schema bytes text =
    (settings : Settings) (commit : Commit) → IsPrinted settings schema bytes commit
    → IsPrinted settings (codes "[]") text commit

-- the text spells what was read, with some schema
abbrev pub SpellsBody : List ℕ → Body → Type 0
SpellsBody text body =
    (schema : Data)
    × SpellsMeta text (held_by body schema).settings (held_by body schema).commit schema

-- the bytes are no printed form under the expected schema, where one is expected
abbrev pub IsUnprinted : (expected : Option (List ℕ)) → List ℕ → Type 0
IsUnprinted None bytes = Unit {0}
IsUnprinted (Some schema) bytes = IsNotPrinted schema bytes
