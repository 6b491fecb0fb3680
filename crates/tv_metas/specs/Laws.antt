-- What the laws speak of: bytes that are no commit, and commits that are read back.
use Rattle.std.specs.Prelude.{◌≡◌, ◌≢◌, ◌<◌, ℕ, List, codes, Some, option_map, string_bytes}
use Rattle.serde_json.specs.Data.{Data, Items, array, string}
use Rattle.serde_json.specs.Find.{get, get_item}
use Rattle.serde_json.specs.Read.{read}
use Rattle.tv_base.specs.declared.error.TantivyError.{TantivyError}
use Rattle.tv_base.specs.declared.error.TantivyError.TheVariants as errors
use Rattle.tv_formats.specs.JsonFields.{field, u32_of}
use Rattle.tv_formats.specs.Names.{meta_name}
use Rattle.tv_metas.specs.Metas.{commit_of, settings_of}
use Rattle.tv_metas.specs.declared.index_meta.UntrackedIndexMeta.{UntrackedIndexMeta}

-- the settings name another compression than none
pub record NamesCompression (bytes : List ℕ) : Type 0 where
  pub tree : Data
  pub parsed : read bytes ≡ Some tree
  pub settings : Data
  pub settings_at : get (codes "index_settings") tree ≡ Some settings
  pub compression : Data
  pub compression_at : get (codes "docstore_compression") settings ≡ Some compression
  pub is_other : compression ≢ string (codes "none")

-- a segment has more deleted documents than documents
pub record DeletesTooMany (bytes : List ℕ) : Type 0 where
  pub tree : Data
  pub parsed : read bytes ≡ Some tree
  pub segments : Items
  pub segments_at : get (codes "segments") tree ≡ Some (array segments)
  pub place : ℕ
  pub segment : Data
  pub segment_at : get_item place segments ≡ Some segment
  pub max_doc : ℕ
  pub max_doc_at : field u32_of (codes "max_doc") segment ≡ Some max_doc
  pub deletes : Data
  pub deletes_at : get (codes "deletes") segment ≡ Some deletes
  pub num_deleted : ℕ
  pub num_deleted_at : field u32_of (codes "num_deleted_docs") deletes ≡ Some num_deleted
  pub more : max_doc < num_deleted

-- it says that `meta.json` is corrupt; memory may be wanted at any time
abbrev pub SaysCorrupt : TantivyError → Type 0
SaysCorrupt (errors.DataCorruption why) = option_map string_bytes why.filepath ≡ Some meta_name
SaysCorrupt errors.Memory = Unit {0}
SaysCorrupt other = ⊥

-- the same commit, under the same settings and the same schema
pub record ReadsBack (meta other : UntrackedIndexMeta) : Type 0 where
  pub settings : settings_of other ≡ settings_of meta
  pub schema : other.schema ≡ meta.schema
  pub commit : commit_of other ≡ commit_of meta
