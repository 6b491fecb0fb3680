-- What becomes of the bytes of `meta.json` where a schema is expected, or none.
use Rattle.std.specs.Prelude.{◌≡◌, ℕ, List, codes, Option, Some, None, option_map, string_bytes}
use Rattle.serde_json.specs.Data.{Data}
use Rattle.serde_json.specs.Read.{read}
use Rattle.serde_json.specs.Written.{compact_text}
use Rattle.tv_formats.specs.Commits.{Commit, Settings}
use Rattle.tv_formats.specs.Names.{meta_name}
use Rattle.tv_formats.specs.Meaning.{MeansOther, MeansNothing}
use Rattle.tv_formats.specs.MetaJson.{SpellsMeta}
use Rattle.tv_base.specs.declared.error.TantivyError.{TantivyError}
use Rattle.tv_base.specs.declared.error.TantivyError.TheVariants as errors

-- the schema is the expected one; where none was expected, it is the text of its tree with the keys in the
-- order of their bytes and without blanks
abbrev pub IsForExpected : (expected : Option (List ℕ)) → (schema : List ℕ) → Type 0
IsForExpected None schema = option_map compact_text (read schema) ≡ Some schema
IsForExpected (Some expected) schema = schema ≡ expected

-- where no schema is expected, the bytes spell this commit as JSON, under these settings
abbrev pub SpellsUnlessExpected : (expected : Option (List ℕ)) → List ℕ → Settings → Commit → Type 0
SpellsUnlessExpected None bytes settings commit =
    (tree : Data) × SpellsMeta bytes settings commit tree
SpellsUnlessExpected (Some schema) bytes settings commit = Unit {0}

-- a commit of another schema than the expected one
abbrev pub MeansOtherThan : (expected : Option (List ℕ)) → List ℕ → Type 0
MeansOtherThan None bytes = ⊥
MeansOtherThan (Some schema) bytes = MeansOther schema bytes

-- Why bytes aren't taken: they mean no commit, which is told of the file `meta.json`, or one of another
-- schema; and for nothing else, but for want of memory.
abbrev pub ParseCause : (expected : Option (List ℕ)) → List ℕ → TantivyError → Type 0
ParseCause expected bytes (errors.DataCorruption why) =
    (option_map string_bytes why.filepath ≡ Some meta_name) × MeansNothing expected bytes
ParseCause expected bytes (errors.SchemaError text) =
    (string_bytes text ≡ codes "An index exists but the schema does not match.")
    × MeansOtherThan expected bytes
ParseCause expected bytes errors.Memory = Unit {0}
ParseCause expected bytes other = ⊥
