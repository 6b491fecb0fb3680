-- What is read of the tree of `meta.json` is what it spells.
use Rattle.std.proofs.Common.{◌≡◌, ℕ, Bool, true, cond, List, [], codes, Option, Some, None, option_map, option_and_then, refl, sym, ap, ◌∙◌, subst}
use Rattle.std.specs.Prelude.{IsUtf8, IfSome}
use Rattle.std.specs.Str.{bytes_eq}
use Rattle.std.proofs.lemmas.Slice.Eq.{bytes_eq-Decides}
use Rattle.serde_json.specs.Data.{Data, string}
use Rattle.serde_json.specs.Find.{get, as_array, as_object, as_str}
use Rattle.tv_formats.specs.Commits.{Commit, Settings}
use Rattle.tv_formats.specs.JsonFields.{IsOptional, field, or_default, bool_or, u64_or, u64_of}
use Rattle.tv_formats.specs.MetaJson.{AreSettingsAt, IsMetaTree, IsUncompressed}
use Rattle.tv_formats.specs.Schemas.{IsSchemaTree}
use Rattle.tv_formats.proofs.Options.{and_then_some, where_some}
use Rattle.tv_metas.specs.declared.index_settings.Compressor.{Compressor}
use Rattle.tv_metas.specs.declared.index_settings.Compressor.TheVariants as compressors
use Rattle.tv_metas.specs.declared.index_settings.IndexSettings.{IndexSettings}
use Rattle.tv_metas.specs.MetaReading.{compressor_of, compressor_or, index_settings_or, segments_at, schema_at, Held, held_of}
use Rattle.tv_metas.specs.Settings.{default_index_settings}
use Rattle.tv_metas.specs.SchemaReading.{names_of}
use Rattle.tv_metas.specs.Segments.{gathered, optional}
use Rattle.tv_metas.specs.Settings.{settings_view}
use Rattle.tv_metas.proofs.Options.{map_some, and_then_is}
use Rattle.tv_metas.proofs.SchemaForms.{array_is, object_is, string_is, schema_to, schema_back}
use Rattle.tv_metas.proofs.SegmentForms.{optional_to, optional_back, segments_to, segments_back}

-- ---- settings

compressor_to : (found : Option Data) (c : Compressor) → or_default compressors.None compressor_of found ≡ Some c → IsUncompressed found
compressor_to None c h = tt
compressor_to (Some d) c h =
    let a = and_then_some (λ text. cond (bytes_eq text (codes "none")) (Some compressors.None) None) (as_str d) c h in
    let b = where_some (bytes_eq a.0 (codes "none")) (Some compressors.None) c a.2 in
    string_is d a.0 a.1 ∙ ap string ((bytes_eq-Decides a.0 (codes "none")).0 b.0)

compressor_back : (found : Option Data) → IsUncompressed found → or_default compressors.None compressor_of found ≡ Some compressors.None
compressor_back None h = refl
compressor_back (Some d) h =
    ap compressor_of h ∙ ap (λ (b : Bool). cond b (Some compressors.None) None) ((bytes_eq-Decides (codes "none") (codes "none")).1 refl)

-- the settings of an index with these
abbrev index_settings : Settings → IndexSettings
index_settings settings = record {
  docstore_compression = compressors.None;
  docstore_compress_dedicated_thread = settings.dedicated_thread;
  docstore_blocksize = settings.blocksize;
}

settings_to : (found : Option Data) (s : IndexSettings) → index_settings_or found ≡ Some s → AreSettingsAt found (settings_view s)
settings_to None s h = let e : default_index_settings ≡ s = cc in ap settings_view (sym e)
settings_to (Some d) s h =
    let a = and_then_some _ (as_object d) s h in
    let b = and_then_some _ (compressor_or d) s a.2 in
    let c = and_then_some _ (bool_or true (codes "docstore_compress_dedicated_thread") d) s b.2 in
    let e = map_some _ (u64_or 16384 (codes "docstore_blocksize") d) s c.2 in
    record {
      members = a.0;
      is_object = object_is d a.0 a.1;
      compression = compressor_to (get (codes "docstore_compression") d) b.0 b.1;
      thread = c.1 ∙ ap (λ (x : IndexSettings). Some x.docstore_compress_dedicated_thread) e.2;
      blocksize = e.1 ∙ ap (λ (x : IndexSettings). Some x.docstore_blocksize) e.2;
    }

settings_back : (found : Option Data) (settings : Settings) → AreSettingsAt found settings → index_settings_or found ≡ Some (index_settings settings)
settings_back None settings h = ap (λ (s : Settings). Some (index_settings s)) (sym h)
settings_back (Some d) settings h =
    and_then_is _ (as_object d) h.members (Some (index_settings settings)) (ap as_object h.is_object)
    (and_then_is _ (compressor_or d) compressors.None (Some (index_settings settings)) (compressor_back (get (codes "docstore_compression") d) h.compression)
    (and_then_is _ (bool_or true (codes "docstore_compress_dedicated_thread") d) settings.dedicated_thread (Some (index_settings settings)) h.thread
    (ap (λ (o : Option ℕ). option_map (λ n. record {
      docstore_compression = compressors.None;
      docstore_compress_dedicated_thread = settings.dedicated_thread;
      docstore_blocksize = n;
    }) o) h.blocksize)))

-- ---- the payload

abbrev IsText : Data → List ℕ → Type 0
IsText d text = (d ≡ string text) × IsUtf8 text

with_utf8 : (o : Option Data) (payload : Option (List ℕ)) → IsOptional (λ d text. d ≡ string text) o payload → IfSome payload IsUtf8
    → IsOptional IsText o payload
with_utf8 o None h u = h
with_utf8 o (Some text) (d, is, h) u = (d, is, (h, u))

payload_to : (o : Option Data) (payload : Option (List ℕ)) → optional as_str o ≡ Some payload → IfSome payload IsUtf8 → IsOptional IsText o payload
payload_to o payload h u = with_utf8 o payload (optional_to as_str (λ d text. d ≡ string text) string_is o payload h) u

payload_back : (o : Option Data) (payload : Option (List ℕ)) → IsOptional IsText o payload → optional as_str o ≡ Some payload
payload_back o payload h = optional_back as_str IsText (λ d text t. ap as_str t.0) refl o payload h

-- ---- the whole

pub held_to : (d : Data) (held : Held) → held_of d ≡ Some held → IfSome held.commit.payload IsUtf8 → IsMetaTree d held.settings held.commit held.schema
held_to d held h utf8 =
    let a = and_then_some _ (index_settings_or (get (codes "index_settings") d)) held h in
    let b = and_then_some _ (segments_at d) held a.2 in
    let c = and_then_some _ (schema_at d) held b.2 in
    let n = and_then_some _ (field u64_of (codes "opstamp") d) held c.2 in
    let p = map_some _ (optional as_str (get (codes "payload") d)) held n.2 in
    let list = and_then_some (gathered []) (field as_array (codes "segments") d) b.0 b.1 in
    let value = and_then_some as_array (get (codes "segments") d) list.0 list.1 in
    let tree = and_then_some _ (get (codes "schema") d) c.0 c.1 in
    let names = map_some _ (names_of tree.0) c.0 tree.2 in
    let same : tree.0 ≡ held.schema = names.2 ∙ ap (λ (x : Held). x.schema) p.2 in
    record {
      settings_at = subst (AreSettingsAt (get (codes "index_settings") d)) (ap (λ (x : Held). x.settings) p.2)
          (settings_to (get (codes "index_settings") d) a.0 a.1);
      items = list.0;
      list = value.1 ∙ ap Some (array_is value.0 list.0 value.2);
      segments = segments_to list.0 held.commit.segments (list.2 ∙ ap (λ (x : Held). Some x.commit.segments) p.2);
      schema_at = tree.1 ∙ ap Some same;
      names = names.0;
      schema_form = subst (λ (t : Data). IsSchemaTree t names.0) same (schema_to tree.0 names.0 names.1);
      opstamp = n.1 ∙ ap (λ (x : Held). Some x.commit.opstamp) p.2;
      payload = payload_to (get (codes "payload") d) held.commit.payload (p.1 ∙ ap (λ (x : Held). Some x.commit.payload) p.2) utf8;
    }

pub held_back : (d : Data) (settings : Settings) (commit : Commit) (schema : Data) → IsMetaTree d settings commit schema
    → held_of d ≡ Some (record { settings = settings; commit = commit; schema = schema })
held_back d settings commit schema h =
    let held : Held = record { settings = settings; commit = commit; schema = schema } in
    and_then_is _ (index_settings_or (get (codes "index_settings") d)) (index_settings settings) (Some held)
    (settings_back (get (codes "index_settings") d) settings h.settings_at)
    (and_then_is _ (segments_at d) commit.segments (Some held)
    (and_then_is (gathered []) (field as_array (codes "segments") d) h.items (Some commit.segments) (ap (option_and_then as_array) h.list)
    (segments_back h.items commit.segments h.segments))
    (and_then_is _ (schema_at d) schema (Some held)
    (and_then_is _ (get (codes "schema") d) schema (Some schema) h.schema_at (ap (option_map (λ _. schema)) (schema_back schema h.names h.schema_form)))
    (and_then_is _ (field u64_of (codes "opstamp") d) commit.opstamp (Some held) h.opstamp
    (ap (λ (o : Option (Option (List ℕ))). option_map (λ payload. record {
      settings = settings;
      commit = record { opstamp = commit.opstamp; payload = payload; segments = commit.segments };
      schema = schema;
    }) o) (payload_back (get (codes "payload") d) commit.payload h.payload)))))
