-- The JSON of `meta.json`, in any spelling.
use Rattle.std.specs.Prelude.{ℕ, ◌≡◌, ◌≤◌, List, [], ◌∷◌, map, codes, Option, Some, None, IsUtf8, IsPermutation}
use Rattle.std.specs.List.Sorted.{IsStrictlySortedBy}
use Rattle.serde_json.specs.Data.{Data, string, array, object, Items, no_items, item, Members}
use Rattle.serde_json.specs.Find.{get}
use Rattle.serde_json.specs.Read.{read}
use Rattle.tv_formats.specs.declared.segment.DeleteMeta.{DeleteMeta}
use Rattle.tv_formats.specs.declared.segment.LiveSegment.{LiveSegment}
use Rattle.tv_formats.specs.Names.{byte_cmp}
use Rattle.tv_formats.specs.Segments.{num_deleted}
use Rattle.tv_formats.specs.JsonFields.{field, u32_of, u64_of, id_of, bool_or, u64_or, IsOptional}
use Rattle.tv_formats.specs.Schemas.{IsSchemaTree}
use Rattle.tv_formats.specs.Commits.{Commit, Settings, default_settings}

-- nothing is compressed, and nothing else is read
abbrev pub IsUncompressed : Option Data → Type 0
IsUncompressed None = Unit {0}
IsUncompressed (Some d) = d ≡ string (codes "none")

-- an object, each part of which that is left out has its default
pub record AreSettings (d : Data) (settings : Settings) : Type 0 where
  pub members : Members
  pub is_object : d ≡ object members
  pub compression : IsUncompressed (get (codes "docstore_compression") d)
  pub thread : bool_or default_settings.dedicated_thread (codes "docstore_compress_dedicated_thread") d
      ≡ Some settings.dedicated_thread
  pub blocksize : u64_or default_settings.blocksize (codes "docstore_blocksize") d ≡ Some settings.blocksize

-- the settings, which may be left out
abbrev pub AreSettingsAt : Option Data → Settings → Type 0
AreSettingsAt None settings = settings ≡ default_settings
AreSettingsAt (Some d) settings = AreSettings d settings

-- an object with the parts of a segment's deletes
pub record IsDeleteMeta (d : Data) (meta : DeleteMeta) : Type 0 where
  pub num_deleted_docs : field u32_of (codes "num_deleted_docs") d ≡ Some meta.num_deleted_docs
  pub opstamp : field u64_of (codes "opstamp") d ≡ Some meta.opstamp

-- an object with the parts of a segment; no more documents are deleted than there are
pub record SpellsSegment (d : Data) (e : List ℕ × LiveSegment) : Type 0 where
  pub segment_id : field id_of (codes "segment_id") d ≡ Some e.0
  pub max_doc : field u32_of (codes "max_doc") d ≡ Some e.1.max_doc
  pub deletes : IsOptional IsDeleteMeta (get (codes "deletes") d) e.1.deletes
  pub within : num_deleted e.1.deletes ≤ e.1.max_doc

-- each item spells the segment at its place
abbrev pub SpellEach : Items → List (List ℕ × LiveSegment) → Type 0
SpellEach no_items [] = Unit {0}
SpellEach no_items (e ∷ es) = ⊥
SpellEach (item d ds) [] = ⊥
SpellEach (item d ds) (e ∷ es) = SpellsSegment d e × SpellEach ds es

-- the segments that the items spell, which may stand in any order, in the order of their ids, none of which
-- stands twice
pub record SpellSegments (items : Items) (segments : List (List ℕ × LiveSegment)) : Type 0 where
  pub found : List (List ℕ × LiveSegment)
  pub each : SpellEach items found
  pub same : IsPermutation found segments
  pub ordered : IsStrictlySortedBy byte_cmp (map (λ e. e.0) segments)

-- an object with these settings, the parts of this commit, and a schema that has this tree, whatever else it
-- has
pub record IsMetaTree (d : Data) (settings : Settings) (commit : Commit) (schema : Data) : Type 0 where
  pub settings_at : AreSettingsAt (get (codes "index_settings") d) settings
  pub items : Items
  pub list : get (codes "segments") d ≡ Some (array items)
  pub segments : SpellSegments items commit.segments
  pub schema_at : get (codes "schema") d ≡ Some schema
  pub names : List (List ℕ)
  pub schema_form : IsSchemaTree schema names
  pub opstamp : field u64_of (codes "opstamp") d ≡ Some commit.opstamp
  pub payload :
      IsOptional (λ d text. (d ≡ string text) × IsUtf8 text) (get (codes "payload") d) commit.payload

-- the bytes spell this commit under these settings, and a schema of this tree
pub record SpellsMeta (bytes : List ℕ) (settings : Settings) (commit : Commit) (schema : Data) : Type 0 where
  pub utf8 : IsUtf8 bytes
  pub tree : Data
  pub parsed : read bytes ≡ Some tree
  pub form : IsMetaTree tree settings commit schema
