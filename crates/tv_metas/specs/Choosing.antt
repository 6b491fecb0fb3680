-- Which schema a commit gets that was read.
use Rattle.std.specs.Prelude.{◌≢◌, ℕ, List, Option, Some, None}
use Rattle.serde_json.specs.Data.{Data}
use Rattle.serde_json.specs.Read.{read}
use Rattle.tv_formats.specs.Meaning.{Means}
use Rattle.tv_formats.specs.Schemas.{IsSchemaText}
use Rattle.tv_metas.specs.declared.index_meta.UntrackedIndexMeta.{UntrackedIndexMeta}
use Rattle.tv_metas.specs.Metas.{commit_of, settings_of}
use Rattle.tv_metas.specs.Parsing.{IsForExpected, MeansOtherThan, SpellsUnlessExpected}

-- the expected schema has another tree
abbrev pub IsOtherThan : (expected : Option (List ℕ)) → Data → Type 0
IsOtherThan None tree = ⊥
IsOtherThan (Some schema) tree = read schema ≢ Some tree

-- a schema with this tree, which is the expected one where there is one; none where that has another tree
abbrev pub Chooses : (expected : Option (List ℕ)) → Data → Option (List ℕ) → Type 0
Chooses expected tree None = IsOtherThan expected tree
Chooses expected tree (Some schema) = IsSchemaText schema tree × IsForExpected expected schema

-- the commit that the bytes mean, under such a schema
abbrev pub ReadsMeta : (expected : Option (List ℕ)) → List ℕ → Option UntrackedIndexMeta → Type 0
ReadsMeta expected bytes None = MeansOtherThan expected bytes
ReadsMeta expected bytes (Some meta) =
    Means (settings_of meta) meta.schema bytes (commit_of meta) × IsForExpected expected meta.schema
    × SpellsUnlessExpected expected bytes (settings_of meta) (commit_of meta)
