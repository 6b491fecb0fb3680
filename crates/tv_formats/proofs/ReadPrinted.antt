-- The printed form of a commit, with a line feed, means that commit; where its schema can be read one level deeper, it spells it as JSON.
use Rattle.std.proofs.Common.{◌≡◌, inl, inr, ℕ, ◌<◌, ◌≤◌, ◌^◌, Bool, true, false, cond, List, [], ◌∷◌, ◌++◌, map, Option, Some, None, option_and_then, refl, sym, ap, ◌∙◌, arith}
use Rattle.std.specs.Prelude.{IsSome}
use Rattle.std.specs.List.{AllByRecursion}
use Rattle.std.specs.List.Sorted.{IsStrictlySortedBy}
use Rattle.std.proofs.lemmas.Bool.{lt-ltb}
use Rattle.std.proofs.lemmas.List.Elements.{All-from_get_or}
use Rattle.std.proofs.lemmas.List.Sorted.{IsPermutation-refl}
use Rattle.std.proofs.lemmas.Str.{IsUtf8-append}
use Rattle.json.specs.Tree.{depth}
use Rattle.json.proofs.Printed.Utf8.{IsUtf8-are_ascii}
use Rattle.serde_json.specs.Data.{Data}
use Rattle.serde_json.specs.Data as trees
use Rattle.serde_json.specs.Read.{read}
use Rattle.serde_json.specs.View.{items_of}
use Rattle.uuid.specs.Text.{lower}
use Rattle.uuid.proofs.RoundTrips.{parses_hyphenated}
use Rattle.tv_formats.specs.declared.segment.DeleteMeta.{DeleteMeta}
use Rattle.tv_formats.specs.Names.{byte_cmp}
use Rattle.tv_formats.specs.Segments.{num_deleted, delete_opstamp}
use Rattle.tv_formats.specs.FooterForm.{if_u32}
use Rattle.tv_formats.specs.JsonFields.{if_u64, IsOptional}
use Rattle.tv_formats.specs.Schemas.{IsSchemaTree, IsSchemaText}
use Rattle.tv_formats.specs.MetaJson.{AreSettings, IsDeleteMeta, SpellsSegment, SpellEach, SpellSegments, IsMetaTree, SpellsMeta}
use Rattle.tv_formats.specs.Meaning.{Means}
use Rattle.tv_formats.specs.Commits.{Commit, Settings, IsSegment, IsCommit, deletes_tree, printed, segment_tree, settings_tree}
use Rattle.tv_formats.proofs.JsonReadBack.{Spelled, spelled, read_of_tokens, inside_shallow}
use Rattle.tv_formats.proofs.JsonTrees.{items_ordered, ordered}
use Rattle.tv_formats.proofs.PrintedTrees.{Entry, meta_json, meta_tree, meta_depth, meta_reads, line_tokens, printed_utf8}
use Rattle.tv_formats.proofs.Options.{some_value}

-- ---- what the tree spells

fits_wide : (n : ℕ) → n < 2 ^ 64 → if_u64 n ≡ Some n
fits_wide n h = ap (λ b. cond b (Some n) None) (lt-ltb n (2 ^ 64) h)

fits : (n : ℕ) → n < 2 ^ 32 → option_and_then if_u32 (if_u64 n) ≡ Some n
fits n h =
    let wide : n < 2 ^ 64 = omega arith in
    ap (option_and_then if_u32) (fits_wide n wide) ∙ ap (λ b. cond b (Some n) None) (lt-ltb n (2 ^ 32) h)

settings_are : (b : Bool) (n : ℕ) → n < 2 ^ 64 → AreSettings (ordered (settings_tree (record { dedicated_thread = b; blocksize = n }))) (record { dedicated_thread = b; blocksize = n })
settings_are true n h = record { members = _; is_object = refl; compression = refl; thread = refl; blocksize = fits_wide n h }
settings_are false n h = record { members = _; is_object = refl; compression = refl; thread = refl; blocksize = fits_wide n h }

deletes_are : (o : Option DeleteMeta) → num_deleted o < 2 ^ 32 → delete_opstamp o < 2 ^ 64 → IsOptional IsDeleteMeta (Some (ordered (deletes_tree o))) o
deletes_are None h g = inr refl
deletes_are (Some meta) h g = (ordered (deletes_tree (Some meta)), refl, record { num_deleted_docs = fits meta.num_deleted_docs h; opstamp = fits_wide meta.opstamp g })

segment_is : (e : Entry) → IsSegment e → SpellsSegment (ordered (segment_tree e)) e
segment_is e h = record {
  segment_id = sym (parses_hyphenated lower e.0 (inl refl) h.id.size (All-from_get_or (λ b. b < 256) e.0 0 (λ i lt. h.id.bytes i)));
  max_doc = fits e.1.max_doc h.max_doc;
  deletes = deletes_are e.1.deletes (omega (arith, h.deletes, h.max_doc)) h.opstamp;
  within = h.deletes;
}

each_is : (es : List Entry) → AllByRecursion IsSegment es → SpellEach (items_ordered (items_of (map segment_tree es))) es
each_is [] h = tt
each_is (e ∷ es) h = (segment_is e h.0, each_is es h.1)

segments_are : (es : List Entry) → AllByRecursion IsSegment es → IsStrictlySortedBy byte_cmp (map (λ e. e.0) es) → SpellSegments (items_ordered (items_of (map segment_tree es))) es
segments_are es h ordered = record { found = es; each = each_is es h; same = IsPermutation-refl es; ordered = ordered }

abbrev commit_of : ℕ → Option (List ℕ) → List Entry → Commit
commit_of n o es = record { opstamp = n; payload = o; segments = es }

tree_is : (settings : Settings) (n : ℕ) (o : Option (List ℕ)) (es : List Entry) (t : Data) (names : List (List ℕ))
    → settings.blocksize < 2 ^ 64 → IsCommit (commit_of n o es) → IsSchemaTree t names
    → IsMetaTree (meta_tree settings (commit_of n o es) t) settings (commit_of n o es) t
tree_is settings n None es t names small c form = record {
  settings_at = settings_are settings.dedicated_thread settings.blocksize small;
  items = items_ordered (items_of (map segment_tree es));
  list = refl;
  segments = segments_are es c.segments c.ordered;
  schema_at = refl;
  names = names;
  schema_form = form;
  opstamp = fits_wide n c.opstamp;
  payload = inl refl;
}
tree_is settings n (Some text) es t names small c form = record {
  settings_at = settings_are settings.dedicated_thread settings.blocksize small;
  items = items_ordered (items_of (map segment_tree es));
  list = refl;
  segments = segments_are es c.segments c.ordered;
  schema_at = refl;
  names = names;
  schema_form = form;
  opstamp = fits_wide n c.opstamp;
  payload = (trees.string text, refl, (refl, c.payload));
}

-- ---- what the printed form spells

-- what is known of the text of a schema
pub schema_spelled : (schema : List ℕ) (tree : Data) (s : IsSchemaText schema tree) → Spelled (91 ∷ s.rest) tree
schema_spelled schema tree s = spelled (91 ∷ s.rest) tree (ap read (sym s.begins) ∙ s.parsed)

module _ (settings : Settings) (schema : List ℕ) (tree : Data) (commit : Commit) (c : IsCommit commit) (small : settings.blocksize < 2 ^ 64)
    (s : IsSchemaText schema tree) where
  -- where the schema nests one level less than is read
  pub shallow_spells : (text : Spelled (91 ∷ s.rest) tree) → depth text.tree ≤ 126 → SpellsMeta (printed settings schema commit ++ 10 ∷ []) settings commit tree
  shallow_spells text shallow = record {
    utf8 = IsUtf8-append (printed settings schema commit) (10 ∷ []) (printed_utf8 settings commit small c schema s.utf8) (IsUtf8-are_ascii (10 ∷ []) refl);
    tree = meta_tree settings commit tree;
    parsed =
        ap (λ (l : List ℕ). read (printed settings l commit ++ 10 ∷ [])) s.begins
        ∙ read_of_tokens (printed settings (91 ∷ s.rest) commit ++ 10 ∷ []) (meta_json settings commit text.tree)
        (line_tokens settings commit small c s.rest text.tree text.numbers text.same) (meta_depth settings commit text.tree shallow)
        ∙ meta_reads settings commit small c text.tree tree text.means;
    form = tree_is settings commit.opstamp commit.payload commit.segments tree s.names small c s.form;
  }

  -- where its text is read inside an array too
  pub printed_spells : IsSome (read (91 ∷ schema ++ 93 ∷ [])) → SpellsMeta (printed settings schema commit ++ 10 ∷ []) settings commit tree
  printed_spells h =
      let text : Spelled (91 ∷ s.rest) tree = schema_spelled schema tree s in
      let inside = some_value (read (91 ∷ schema ++ 93 ∷ [])) h in
      shallow_spells text (inside_shallow s.rest tree inside.0 text (ap (λ (l : List ℕ). read (91 ∷ l ++ 93 ∷ [])) (sym s.begins) ∙ inside.1))

  pub printed_means : Means settings schema (printed settings schema commit ++ 10 ∷ []) commit
  printed_means = record { tree = tree; schema_is = s; said = inl (record { is_commit = c; blocksize = small; printed_is = refl }) }
