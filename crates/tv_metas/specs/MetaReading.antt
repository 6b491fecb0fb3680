-- How the tree of `meta.json` is read.
use Rattle.std.specs.Prelude.{ℕ, List, [], map, codes, true, if◌then◌else◌, Option, Some, None, option_map, option_and_then, string_bytes}
use Rattle.std.specs.Str.{bytes_eq}
use Rattle.serde_json.specs.Data.{Data}
use Rattle.serde_json.specs.Find.{get, as_str, as_array, as_object}
use Rattle.tv_formats.specs.declared.segment.LiveSegment.{LiveSegment}
use Rattle.tv_formats.specs.Commits.{Commit, Settings}
use Rattle.tv_formats.specs.JsonFields.{field, u64_of, or_default, bool_or, u64_or}
use Rattle.tv_metas.specs.declared.index_settings.Compressor.{Compressor}
use Rattle.tv_metas.specs.declared.index_settings.Compressor.TheVariants as compressors
use Rattle.tv_metas.specs.declared.index_settings.IndexSettings.{IndexSettings}
use Rattle.tv_metas.specs.declared.reading.Body.{Body}
use Rattle.tv_metas.specs.SchemaReading.{names_of}
use Rattle.tv_metas.specs.Segments.{entry_of, gathered, optional}
use Rattle.tv_metas.specs.Settings.{default_index_settings, settings_view}

-- the one compressor
abbrev pub compressor_of : Data → Option Compressor
compressor_of d =
    option_and_then (λ text. if bytes_eq text (codes "none") then Some compressors.None else None) (as_str d)

-- the compressor that settings name, which may be left out
abbrev pub compressor_or : Data → Option Compressor
compressor_or d = or_default compressors.None compressor_of (get (codes "docstore_compression") d)

-- the settings that an object spells
abbrev pub index_settings_of : Data → Option IndexSettings
index_settings_of d =
    option_and_then (λ _. option_and_then (λ compression.
    option_and_then (λ thread. option_map (λ blocksize. record {
      docstore_compression = compression;
      docstore_compress_dedicated_thread = thread;
      docstore_blocksize = blocksize;
    }) (u64_or 16384 (codes "docstore_blocksize") d))
    (bool_or true (codes "docstore_compress_dedicated_thread") d)) (compressor_or d)) (as_object d)

-- the settings, which may be left out
abbrev pub index_settings_or : Option Data → Option IndexSettings
index_settings_or found = or_default default_index_settings index_settings_of found

-- the segments of a commit, in the order of their ids
abbrev pub segments_at : Data → Option (List (List ℕ × LiveSegment))
segments_at d = option_and_then (gathered []) (field as_array (codes "segments") d)

-- the tree at `schema`, where it is a schema's
abbrev pub schema_at : Data → Option Data
schema_at d = option_and_then (λ tree. option_map (λ _. tree) (names_of tree)) (get (codes "schema") d)

-- what `meta.json` holds
pub record Held : Type 0 where
  pub settings : Settings
  pub commit : Commit
  pub schema : Data

-- what an object of a commit holds, where it is one
abbrev pub held_of : Data → Option Held
held_of d =
    option_and_then (λ settings. option_and_then
    (λ segments. option_and_then (λ schema. option_and_then (λ opstamp. option_map (λ payload. record {
      settings = settings_view settings;
      commit = record { opstamp = opstamp; payload = payload; segments = segments };
      schema = schema;
    }) (optional as_str (get (codes "payload") d))) (field u64_of (codes "opstamp") d)) (schema_at d))
    (segments_at d))
    (index_settings_or (get (codes "index_settings") d))

-- what was read of a commit, with a tree of the schema
abbrev pub held_by : Body → Data → Held
held_by body schema = record {
  settings = settings_view body.index_settings;
  commit = record {
    opstamp = body.opstamp;
    payload = option_map string_bytes body.payload;
    segments = map entry_of body.segments.items;
  };
  schema = schema;
}
