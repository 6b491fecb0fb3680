-- Schemas, and why bytes spell none.
use Rattle.std.specs.Prelude.{◌≡◌, ℕ, List, codes, Some, string_bytes}
use Rattle.serde_json.specs.Data.{Data}
use Rattle.serde_json.specs.Read.{read}
use Rattle.serde_json.specs.Written.{compact_text}
use Rattle.tv_formats.specs.Schemas.{IsSchemaText, IsSchemaTree, IsNoSchema}
use Rattle.tv_base.specs.declared.error.TantivyError.{TantivyError}
use Rattle.tv_base.specs.declared.error.TantivyError.TheVariants as errors

-- the text is a schema's
pub record HasSchemaTree (text : List ℕ) : Type 0 where
  pub tree : Data
  pub text_is : IsSchemaText text tree

-- the text is a schema's, with fields of these names
pub record HasNames (text : List ℕ) (names : List (List ℕ)) : Type 0 where
  pub tree : Data
  pub text_is : IsSchemaText text tree
  pub form : IsSchemaTree tree names

-- the text is no schema's
abbrev pub IsNoSchemaText : List ℕ → Type 0
IsNoSchemaText text = (tree : Data) → IsSchemaText text tree → ⊥

-- What is kept of a schema: its text, the names of its fields, and the text of its tree with the keys in the
-- order of their bytes and without blanks.
pub record IsKept (text : List ℕ) (names : List (List ℕ)) (canonical : List ℕ) : Type 0 where
  pub tree : Data
  pub text_is : IsSchemaText text tree
  pub form : IsSchemaTree tree names
  pub canonical_is : canonical ≡ compact_text tree
  pub reads : read canonical ≡ Some tree

-- bytes are refused where they spell no schema, and only there, but for want of memory
abbrev pub SchemaCause : List ℕ → TantivyError → Type 0
SchemaCause bytes (errors.InvalidArgument text) =
    (string_bytes text ≡ codes "the schema is not of the stated form") × IsNoSchema bytes
SchemaCause bytes errors.Memory = Unit {0}
SchemaCause bytes other = ⊥
