-- What the bytes of `meta.json` mean under an expected schema.
use Rattle.std.specs.Prelude.{ℕ, ◌≡◌, ◌≢◌, ◌⊎◌, ◌<◌, ◌^◌, List, [], ◌∷◌, ◌++◌, Option, Some, None}
use Rattle.serde_json.specs.Data.{Data}
use Rattle.serde_json.specs.Read.{read}
use Rattle.tv_formats.specs.Schemas.{IsSchemaText}
use Rattle.tv_formats.specs.Commits.{Commit, Settings, IsCommit, printed}
use Rattle.tv_formats.specs.MetaJson.{SpellsMeta}

-- bytes are the printed form of this commit, with a line feed, under these settings and a schema of
-- this text
pub record IsPrinted (settings : Settings) (schema bytes : List ℕ) (commit : Commit) : Type 0 where
  pub is_commit : IsCommit commit
  pub blocksize : settings.blocksize < 2 ^ 64
  pub printed_is : bytes ≡ printed settings schema commit ++ 10 ∷ []

-- bytes are the printed form of no commit under a schema of this text, whatever the settings
abbrev pub IsNotPrinted : (schema bytes : List ℕ) → Type 0
IsNotPrinted schema bytes =
    (settings : Settings) (commit : Commit) → IsPrinted settings schema bytes commit → ⊥

-- bytes of `meta.json` mean this commit under these settings, where a schema of this text is expected:
-- they are its printed form; or they are the printed form of none, and spell it as JSON, with a schema
-- whose tree is that of the text
pub record Means (settings : Settings) (schema bytes : List ℕ) (commit : Commit) : Type 0 where
  pub tree : Data
  pub schema_is : IsSchemaText schema tree
  pub said : IsPrinted settings schema bytes commit
      ⊎ (IsNotPrinted schema bytes × SpellsMeta bytes settings commit tree)

-- bytes of `meta.json` mean a commit of another schema than this one: they are the printed form of none
-- under this one, and spell a commit with another schema's tree
pub record MeansOther (schema bytes : List ℕ) : Type 0 where
  pub unprinted : IsNotPrinted schema bytes
  pub settings : Settings
  pub commit : Commit
  pub tree : Data
  pub spelled : SpellsMeta bytes settings commit tree
  pub other : read schema ≢ Some tree

-- bytes of `meta.json` spell no commit as JSON, of whatever schema
abbrev pub SpellsNothing : List ℕ → Type 0
SpellsNothing bytes =
    (settings : Settings) (commit : Commit) (tree : Data) → SpellsMeta bytes settings commit tree → ⊥

-- bytes of `meta.json` mean no commit: they spell none as JSON, and where a schema is expected they are
-- the printed form of none under it
abbrev pub MeansNothing : (expected : Option (List ℕ)) → List ℕ → Type 0
MeansNothing None bytes = SpellsNothing bytes
MeansNothing (Some schema) bytes = IsNotPrinted schema bytes × SpellsNothing bytes
