-- What the laws follow from.
use Rattle.std.proofs.Common.{◌≡◌, inl, inr, ℕ, zero, suc, ◌<◌, ◌^◌, Bool, true, false, List, [], ◌∷◌, ◌++◌, codes, length, map, Option, Some, None, Result, Ok, Err, refl, sym, ap, ◌∙◌, subst, arith, append_assoc, append-nil}
use Rattle.std.specs.Prelude.{Contains, IfErr, IfOk, IsErrAnd, IsSome, MatchResult}
use Rattle.std.specs.Fmt.{decimal}
use Rattle.std.specs.List.{slice_index_or}
use Rattle.std.specs.Str.Iter.{HasSubslice}
use Rattle.std.proofs.lemmas.Option.{same_Some}
use Rattle.json.specs.Print.{escape_byte}
use Rattle.serde_json.specs.Data.{Data, null, array, Items, no_items, item}
use Rattle.serde_json.specs.Find.{as_array, get, get_item}
use Rattle.serde_json.specs.Read.{read}
use Rattle.serde_json.specs.View.{items_of}
use Rattle.serde_json.specs.Written.{comma_if, compact_text, items_text, members_text}
use Rattle.tv_base.specs.declared.error.TantivyError.{TantivyError}
use Rattle.tv_base.specs.declared.error.TantivyError.TheVariants as errors
use Rattle.tv_formats.specs.declared.segment.DeleteMeta.{DeleteMeta}
use Rattle.tv_formats.specs.declared.segment.LiveSegment.{LiveSegment}
use Rattle.tv_formats.specs.Commits.{Commit, IsCommit, Settings, last_members, printed, segment_tree, segments_tree, settings_tree}
use Rattle.tv_formats.specs.JsonFields.{IsOptional, field, u32_of}
use Rattle.tv_formats.specs.Meaning.{Means, SpellsNothing}
use Rattle.tv_formats.specs.MetaJson.{AreSettings, AreSettingsAt, IsDeleteMeta, IsUncompressed, SpellEach, SpellsSegment}
use Rattle.tv_formats.specs.Names.{has}
use Rattle.tv_formats.specs.Schemas.{IsSchemaText}
use Rattle.tv_formats.specs.Segments.{num_deleted}
use Rattle.tv_formats.proofs.MeansOne.{means_no_other, means_one, means_something, means_spelled, spelled_means}
use Rattle.tv_formats.proofs.ReadPrinted.{printed_means}
use Rattle.tv_metas.specs.Laws.{DeletesTooMany, NamesCompression, ReadsBack, SaysCorrupt}
use Rattle.tv_metas.specs.Metas.{commit_of, settings_of}
use Rattle.tv_metas.specs.Parsing.{ParseCause}
use Rattle.tv_metas.specs.Schemas.{HasSchemaTree}
use Rattle.tv_metas.specs.declared.index_meta.UntrackedIndexMeta.{UntrackedIndexMeta}

-- ---- bytes that mean no commit

-- the segment that an item spells
item_spells : (items : Items) (found : List (List ℕ × LiveSegment)) (place : ℕ) (d : Data) → SpellEach items found → get_item place items ≡ Some d → (e : List ℕ × LiveSegment) × SpellsSegment d e
item_spells no_items found place d each is = absurd cc
item_spells (item first items) [] place d each is = absurd each
item_spells (item first items) (e ∷ found) zero d each is = (e, subst (λ (x : Data). SpellsSegment x e) (same_Some first d is) each.0)
item_spells (item first items) (e ∷ found) (suc place) d each is = item_spells items found place d each.1 is

-- how many documents are deleted
deleted_is : (o : Option Data) (deletes : Option DeleteMeta) (d : Data) (n : ℕ) → IsOptional IsDeleteMeta o deletes → o ≡ Some d → field u32_of (codes "num_deleted_docs") d ≡ Some n
    → num_deleted deletes ≡ n
deleted_is o None d n (inl none) is at = absurd cc
deleted_is o None d n (inr is_null) is at =
    let same : d ≡ null = same_Some d null (sym is ∙ is_null) in
    let two : None ≡ Some n = ap (field u32_of (codes "num_deleted_docs")) (sym same) ∙ at in absurd cc
deleted_is o (Some meta) d n (e, found, spelled) is at =
    let same : e ≡ d = same_Some e d (sym found ∙ is) in
    same_Some meta.num_deleted_docs n (sym spelled.num_deleted_docs ∙ ap (field u32_of (codes "num_deleted_docs")) same ∙ at)

pub deletes_mean_nothing : (bytes : List ℕ) → DeletesTooMany bytes → SpellsNothing bytes
deletes_mean_nothing bytes h settings commit schema s =
    let same : s.tree ≡ h.tree = same_Some s.tree h.tree (sym s.parsed ∙ h.parsed) in
    let list : array s.form.items ≡ array h.segments = same_Some (array s.form.items) (array h.segments) (sym s.form.list ∙ ap (get (codes "segments")) same ∙ h.segments_at) in
    let items : s.form.items ≡ h.segments = same_Some s.form.items h.segments (ap as_array list) in
    let there = item_spells s.form.items s.form.segments.found h.place h.segment s.form.segments.each (ap (get_item h.place) items ∙ h.segment_at) in
    let documents : there.0.1.max_doc ≡ h.max_doc = same_Some there.0.1.max_doc h.max_doc (sym there.1.max_doc ∙ h.max_doc_at) in
    let deleted : num_deleted there.0.1.deletes ≡ h.num_deleted = deleted_is (get (codes "deletes") h.segment) there.0.1.deletes h.deletes h.num_deleted there.1.deletes h.deletes_at h.num_deleted_at in
    omega (arith, there.1.within, documents, deleted, h.more)

pub compressions_mean_nothing : (bytes : List ℕ) → NamesCompression bytes → SpellsNothing bytes
compressions_mean_nothing bytes h settings commit schema s =
    let same : s.tree ≡ h.tree = same_Some s.tree h.tree (sym s.parsed ∙ h.parsed) in
    let at : get (codes "index_settings") s.tree ≡ Some h.settings = ap (get (codes "index_settings")) same ∙ h.settings_at in
    let are : AreSettings h.settings settings = subst (λ o. AreSettingsAt o settings) at s.form.settings_at in
    h.is_other (subst IsUncompressed h.compression_at are.compression)

says_corrupt : (expected : Option (List ℕ)) (bytes : List ℕ) (error : TantivyError) → SpellsNothing bytes → ParseCause expected bytes error → SaysCorrupt error
says_corrupt expected bytes (errors.DataCorruption why) nothing cause = cause.0
says_corrupt None bytes (errors.SchemaError text) nothing cause = cause.1
says_corrupt (Some schema) bytes (errors.SchemaError text) nothing cause = nothing cause.1.settings cause.1.commit cause.1.tree cause.1.spelled
says_corrupt expected bytes errors.Memory nothing cause = tt
says_corrupt expected bytes _ nothing cause = absurd cause

-- such bytes are refused
pub refused_as_corrupt : (expected : Option (List ℕ)) (bytes : List ℕ) (result : Result UntrackedIndexMeta TantivyError) → SpellsNothing bytes → IsSome (read bytes)
    → IfOk result (λ meta. Means (settings_of meta) meta.schema bytes (commit_of meta)) → IfErr result (ParseCause expected bytes) → IsErrAnd result SaysCorrupt
refused_as_corrupt expected bytes (Ok meta) nothing there means cause =
    absurd (nothing (settings_of meta) (commit_of meta) means.tree (means_spelled (settings_of meta) meta.schema bytes (commit_of meta) means there))
refused_as_corrupt expected bytes (Err error) nothing there means cause = says_corrupt expected bytes error nothing cause

-- bytes that are read as JSON mean the same commit under a schema with the same tree
pub same_means : (schema other : List ℕ) → HasSchemaTree other → read schema ≡ read other → (settings : Settings) (bytes : List ℕ) (commit : Commit)
    → IsSome (read bytes) → Means settings schema bytes commit → Means settings other bytes commit
same_means schema other has same settings bytes commit there m =
    let tree : has.tree ≡ m.tree = same_Some has.tree m.tree (sym has.text_is.parsed ∙ sym same ∙ m.schema_is.parsed) in
    spelled_means settings other bytes commit m.tree (subst (IsSchemaText other) tree has.text_is) (means_spelled settings schema bytes commit m there)

-- ---- what is printed

-- a text that occurs in a part occurs in the whole
in_back : (text front back : List ℕ) → HasSubslice back text → HasSubslice (front ++ back) text
in_back text front back (a, b, is) = (front ++ a, b, ap (λ (l : List ℕ). front ++ l) is ∙ sym (append_assoc front a (text ++ b)))

in_part : (text part whole : List ℕ) → HasSubslice part text → HasSubslice whole part → HasSubslice whole text
in_part text part whole (a, b, is) (front, back, within) = (front ++ a, b ++ back, within ∙ ap (λ (l : List ℕ). front ++ (l ++ back)) is ∙ simp append_assoc)

in_commit : (text front segments b schema last : List ℕ) → HasSubslice segments text → HasSubslice (front ++ segments ++ b ++ schema ++ last) text
in_commit text front segments b schema last (before, after, is) =
    (front ++ before, after ++ b ++ schema ++ last, ap (λ (l : List ℕ). front ++ l ++ b ++ schema ++ last) is ∙ simp append_assoc)

abbrev Entry : Type 0
Entry = List ℕ × LiveSegment

-- the text of a segment among those of all
segment_in : (later : Bool) (es : List Entry) (e : Entry) (k : ℕ) → k < length es → slice_index_or es k e ≡ e
    → HasSubslice (items_text later (items_of (map segment_tree es))) (compact_text (segment_tree e))
segment_in later [] e k lt is = absurd (omega (arith, lt))
segment_in later (x ∷ es) e zero lt is =
    let rest = items_text true (items_of (map segment_tree es)) in
    (comma_if later, rest, ap (λ (z : Entry). comma_if later ++ (compact_text (segment_tree z) ++ rest)) is)
segment_in later (x ∷ es) e (suc k) lt is =
    in_back (compact_text (segment_tree e)) (comma_if later) _
    (in_back (compact_text (segment_tree e)) (compact_text (segment_tree x)) _ (segment_in true es e k (omega (arith, lt)) is))

pieces : (front name word number end : List ℕ) → front ++ (name ++ (word ++ (number ++ end))) ≡ (front ++ name) ++ ((word ++ number ++ end) ++ [])
pieces front name word number end = simp (append_assoc, append-nil)

null_among : (id number : List ℕ) → HasSubslice (codes "{\"segment_id\":\"" ++ ((id ++ codes "\"") ++ (codes ",\"max_doc\":" ++ (number ++ codes ",\"deletes\":null}"))))
    (codes ",\"max_doc\":" ++ number ++ codes ",\"deletes\":null}")
null_among id number =
    (codes "{\"segment_id\":\"" ++ (id ++ codes "\""), [], pieces (codes "{\"segment_id\":\"") (id ++ codes "\"") (codes ",\"max_doc\":") number (codes ",\"deletes\":null}"))

-- without deletes it has `null`
null_in : (e : Entry) (deletes : Option DeleteMeta) → deletes ≡ None
    → HasSubslice (compact_text (segment_tree (e.0, record e.1 { deletes = deletes }))) (codes ",\"max_doc\":" ++ decimal e.1.max_doc ++ codes ",\"deletes\":null}")
unfolding escape_byte
null_in e (Some meta) none = absurd cc
null_in e None none = null_among _ (decimal e.1.max_doc)

-- so has what is printed of a commit with such a segment
pub printed_null : (settings : Settings) (schema : List ℕ) (commit : Commit) (e : Entry) → Contains commit.segments e → e.1.deletes ≡ None
    → HasSubslice (printed settings schema commit) (codes ",\"max_doc\":" ++ decimal e.1.max_doc ++ codes ",\"deletes\":null}")
printed_null settings schema commit e (k, lt, is) none =
    in_part (codes ",\"max_doc\":" ++ decimal e.1.max_doc ++ codes ",\"deletes\":null}") (compact_text (segment_tree e)) (printed settings schema commit) (null_in e e.1.deletes none)
    (in_commit (compact_text (segment_tree e)) (codes "{\"index_settings\":" ++ compact_text (settings_tree settings) ++ codes ",\"segments\":")
    (compact_text (segments_tree commit.segments)) (codes ",\"schema\":") schema (members_text true (last_members commit.opstamp commit.payload))
    (in_back (compact_text (segment_tree e)) (91 ∷ []) _ (segment_in false commit.segments e k lt is)))

-- why the text of a commit is refused: for want of memory alone
only_memory : (settings : Settings) (schema bytes : List ℕ) (commit : Commit) (error : TantivyError) → Means settings schema bytes commit → ParseCause (Some schema) bytes error → error ≡ errors.Memory
only_memory settings schema bytes commit (errors.DataCorruption why) means cause = absurd (means_something settings schema bytes commit means cause.1)
only_memory settings schema bytes commit (errors.SchemaError text) means cause = absurd (means_no_other settings schema bytes commit means cause.1)
only_memory settings schema bytes commit errors.Memory means cause = refl
only_memory settings schema bytes commit _ means cause = absurd cause

-- what was printed is read as the same commit
pub reads_back : (meta : UntrackedIndexMeta) (bytes : List ℕ) (result : Result UntrackedIndexMeta TantivyError) → HasSchemaTree meta.schema → (settings_of meta).blocksize < 2 ^ 64
    → bytes ≡ printed (settings_of meta) meta.schema (commit_of meta) ++ 10 ∷ []
    → IfOk result (λ other. Means (settings_of other) other.schema bytes (commit_of other)) → IfOk result (λ other. other.schema ≡ meta.schema)
    → IfErr result (ParseCause (Some meta.schema) bytes) → IsCommit (commit_of meta) → MatchResult result (ReadsBack meta) (λ error. error ≡ errors.Memory)
reads_back meta bytes result has small is means schema cause commit =
    let own : Means (settings_of meta) meta.schema bytes (commit_of meta) =
    subst (λ (l : List ℕ). Means (settings_of meta) meta.schema l (commit_of meta)) (sym is) (printed_means (settings_of meta) meta.schema has.tree (commit_of meta) commit small has.text_is) in
    elim result as (λ r. IfOk r (λ other. Means (settings_of other) other.schema bytes (commit_of other)) → IfOk r (λ other. other.schema ≡ meta.schema) → IfErr r (ParseCause (Some meta.schema) bytes) → MatchResult r (ReadsBack meta) (λ error. error ≡ errors.Memory)) [
      | Ok other ↦ λ m s e.
          let one = means_one (settings_of other) (settings_of meta) meta.schema bytes (commit_of other) (commit_of meta) (subst (λ (l : List ℕ). Means (settings_of other) l bytes (commit_of other)) s m) own in
          record { settings = one.0; schema = s; commit = one.1 }
      | Err error ↦ λ m s e. only_memory (settings_of meta) meta.schema bytes (commit_of meta) error own e
    ] means schema cause
