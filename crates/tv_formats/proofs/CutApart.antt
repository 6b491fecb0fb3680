-- A printed form is cut apart at its first closing bracket: what stands before it is that of the settings and the segments, and the schema's text stands behind it.
use Rattle.std.proofs.Common.{◌≡◌, if◌then◌else◌, nat_lt, ℕ, zero, suc, ◌+◌, ◌-◌, ◌<◌, ◌==◌, ◌&&◌, Bool, true, false, true≢false, not, List, [], ◌∷◌, ◌++◌, map, Option, Some, None, codes, decimal, refl, sym, ap, ap₂, ◌∙◌, subst, arith, append_assoc}
use Rattle.std.specs.List.{list_all}
use Rattle.std.proofs.lemmas.Bool.{and_parts}
use Rattle.std.proofs.lemmas.List.Folds.{list_all-append}
use Rattle.std.proofs.lemmas.Bool.Decides.{nat_tests}
use Rattle.std.proofs.lemmas.List.{append_cancel_left}
use Rattle.json.specs.Lex.{lex, punctuate, tokens}
use Rattle.json.specs.Print.{escape, escape_byte}
use Rattle.json.specs.Json as json
use Rattle.json.specs.Tree.{json_tokens}
use Rattle.serde_json.specs.Data.{Items, no_items, item}
use Rattle.serde_json.specs.Data as trees
use Rattle.serde_json.specs.View.{items_of}
use Rattle.serde_json.specs.Written.{comma_if, compact_text, items_text, members_text}
use Rattle.uuid.specs.Text.{hyphenated_text, lower, hyphen, nibble, digit_place, is_hyphen_place, by_index}
use Rattle.uuid.specs.Text as uuid
use Rattle.uuid.proofs.TextLemmas.{nibble_small}
use Rattle.json.proofs.Printed.Utf8.{IsUtf8-are_ascii}
use Rattle.tv_formats.specs.declared.segment.DeleteMeta.{DeleteMeta}
use Rattle.tv_formats.specs.Names.{is_name_byte}
use Rattle.tv_formats.specs.Schemas.{IsSchemaText}
use Rattle.tv_formats.specs.MetaJson.{SpellsMeta}
use Rattle.tv_formats.specs.Meaning.{IsPrinted}
use Rattle.tv_formats.specs.Commits.{Commit, Settings, deletes_tree, last_members, printed, segment_tree, settings_tree}
use Rattle.tv_formats.proofs.PlainNames.{all-append, all_more, both, decimal_all}
use Rattle.tv_formats.proofs.JsonReadBack.{Spelled, read_of_tokens}
use Rattle.tv_formats.proofs.JsonTrees.{name_itself}
use Rattle.tv_formats.proofs.PrintedTrees.{Entry}
use Rattle.tv_formats.proofs.ReadPrinted.{shallow_spells}
use Rattle.tv_formats.proofs.OneMeaning.{one_meaning}

-- ---- no closing bracket stands before that of the segments

abbrev not_close : ℕ → Bool
not_close b = not (b == 93)

abbrev is_free : List ℕ → Bool
is_free = list_all not_close

free_both : (xs ys : List ℕ) → is_free xs ≡ true → is_free ys ≡ true → is_free (xs ++ ys) ≡ true
free_both = all-append not_close

free_number : (n : ℕ) → is_free (decimal n) ≡ true
free_number n = decimal_all not_close n (λ c e. grind (arith, nat_tests))

-- an id has no byte that is escaped, and no closing bracket
abbrev is_id_byte : ℕ → Bool
is_id_byte b = is_name_byte b && not (b == 93)

each_byte : (n : ℕ) (f : ℕ → ℕ) → ((k : ℕ) → is_id_byte (f k) ≡ true) → list_all is_id_byte (by_index n f) ≡ true
unfolding by_index
each_byte zero f h = refl
each_byte (suc n) f h = all-append is_id_byte (by_index n f) (f n ∷ []) (each_byte n f h) (rw (h n) refl)

digit_by : (d : ℕ) (b : Bool) → nat_lt d 10 ≡ b → d < 16 → is_id_byte (if b then 48 + d else (97 + d - 10)) ≡ true
digit_by d true is h = grind (arith, nat_tests)
digit_by d false is h = grind (arith, nat_tests)

hyphen_or : (b : Bool) (x : ℕ) → is_id_byte x ≡ true → is_id_byte (if b then hyphen else x) ≡ true
hyphen_or true x h = refl
hyphen_or false x h = h

id_bytes : (id : List ℕ) → list_all is_id_byte (hyphenated_text lower id) ≡ true
id_bytes id =
    each_byte 36 (λ k. if is_hyphen_place k then hyphen else uuid.hex_digit lower (nibble id (digit_place k)))
    (λ k. let n = nibble id (digit_place k) in hyphen_or (is_hyphen_place k) (uuid.hex_digit lower n) (digit_by n (nat_lt n 10) refl (nibble_small id (digit_place k))))

id_escapes : (id : List ℕ) → escape (hyphenated_text lower id) ≡ hyphenated_text lower id
id_escapes id =
    name_itself (hyphenated_text lower id) (all_more is_id_byte is_name_byte (hyphenated_text lower id) (λ b h. (both (is_name_byte b) (not (b == 93)) h).0) (id_bytes id))

free_id : (id : List ℕ) → is_free (escape (hyphenated_text lower id)) ≡ true
free_id id =
    ap is_free (id_escapes id)
    ∙ all_more is_id_byte not_close (hyphenated_text lower id) (λ b h. (both (is_name_byte b) (not_close b) h).1) (id_bytes id)

free_settings : (b : Bool) (n : ℕ) → is_free (compact_text (settings_tree (record { dedicated_thread = b; blocksize = n }))) ≡ true
unfolding escape_byte
free_settings true n = simp (list_all-append, free_number)
free_settings false n = simp (list_all-append, free_number)

free_deletes : (o : Option DeleteMeta) → is_free (compact_text (deletes_tree o)) ≡ true
unfolding escape_byte
free_deletes None = refl
free_deletes (Some meta) = simp (list_all-append, free_number)

free_segment : (e : Entry) → is_free (compact_text (segment_tree e)) ≡ true
unfolding escape_byte
free_segment e = simp (list_all-append, free_id, free_number, free_deletes)

-- the items of an array, without its closing bracket
abbrev open_text : Bool → Items → List ℕ
open_text later no_items = []
open_text later (item d ds) = comma_if later ++ (compact_text d ++ open_text true ds)

closed : (later : Bool) (ds : Items) → items_text later ds ≡ open_text later ds ++ 93 ∷ []
closed later no_items = refl
closed later (item d ds) =
    ap (λ (l : List ℕ). comma_if later ++ (compact_text d ++ l)) (closed true ds) ∙ within (comma_if later) (compact_text d) (open_text true ds)
  where
    within : (c t l : List ℕ) → c ++ (t ++ (l ++ 93 ∷ [])) ≡ (c ++ (t ++ l)) ++ 93 ∷ []
    within c t l = simp append_assoc

free_comma : (later : Bool) → is_free (comma_if later) ≡ true
free_comma true = refl
free_comma false = refl

free_segments : (later : Bool) (es : List Entry) → is_free (open_text later (items_of (map segment_tree es))) ≡ true
free_segments later [] = refl
free_segments later (e ∷ es) =
    free_both (comma_if later) _ (free_comma later) (free_both (compact_text (segment_tree e)) _ (free_segment e) (free_segments true es))

-- what stands before the bracket that ends the segments
abbrev pub before_close : Settings → Commit → List ℕ
before_close settings commit =
    codes "{\"index_settings\":" ++ compact_text (settings_tree settings) ++ codes ",\"segments\":[" ++ open_text false (items_of (map segment_tree commit.segments))

-- what stands behind the schema
abbrev pub after_schema : Commit → List ℕ
after_schema commit = members_text true (last_members commit.opstamp commit.payload) ++ 10 ∷ []

pub free_before : (settings : Settings) (commit : Commit) → list_all (λ b. not (b == 93)) (before_close settings commit) ≡ true
free_before settings commit =
    let s = compact_text (settings_tree settings) in
    free_both (codes "{\"index_settings\":" ++ s ++ codes ",\"segments\":[") (open_text false (items_of (map segment_tree commit.segments)))
    (free_both (codes "{\"index_settings\":" ++ s) (codes ",\"segments\":[")
    (free_both (codes "{\"index_settings\":") s refl (free_settings settings.dedicated_thread settings.blocksize)) refl)
    (free_segments false commit.segments)

parted : (a s b l c t e f : List ℕ) → (a ++ s ++ b ++ (91 ∷ (l ++ 93 ∷ [])) ++ c ++ t ++ e) ++ f ≡ (a ++ s ++ (b ++ 91 ∷ []) ++ l) ++ (93 ∷ (c ++ (t ++ (e ++ f))))
parted a s b l c t e f = simp append_assoc

pub printed_cut : (settings : Settings) (schema : List ℕ) (commit : Commit)
    → printed settings schema commit ++ 10 ∷ []
    ≡ before_close settings commit ++ (93 ∷ (codes ",\"schema\":" ++ (schema ++ after_schema commit)))
printed_cut settings schema commit =
    let s = compact_text (settings_tree settings) in
    let last = members_text true (last_members commit.opstamp commit.payload) in
    let items = items_of (map segment_tree commit.segments) in
    ap (λ (l : List ℕ). (codes "{\"index_settings\":" ++ s ++ codes ",\"segments\":" ++ (91 ∷ l) ++ codes ",\"schema\":" ++ schema ++ last) ++ 10 ∷ []) (closed false items)
    ∙ parted (codes "{\"index_settings\":") s (codes ",\"segments\":") (open_text false items) (codes ",\"schema\":") schema last (10 ∷ [])

-- ---- texts that are cut apart at the first bracket

cut_one : (xs ys us vs : List ℕ) → is_free xs ≡ true → is_free ys ≡ true → xs ++ 93 ∷ us ≡ ys ++ 93 ∷ vs → (xs ≡ ys) × (us ≡ vs)
cut_one [] [] us vs f g e = (refl, cc)
cut_one [] (y ∷ ys) us vs f g e =
    let first : 93 ≡ y = cc in absurd (true≢false (sym (and_parts (not_close y) (is_free ys) g).0 ∙ ap not_close (sym first)))
cut_one (x ∷ xs) [] us vs f g e =
    let first : x ≡ 93 = cc in absurd (true≢false (sym (and_parts (not_close x) (is_free xs) f).0 ∙ ap not_close first))
cut_one (x ∷ xs) (y ∷ ys) us vs f g e =
    let first : x ≡ y = cc in
    let rest : xs ++ 93 ∷ us ≡ ys ++ 93 ∷ vs = cc in
    let c = cut_one xs ys us vs (and_parts (not_close x) (is_free xs) f).1 (and_parts (not_close y) (is_free ys) g).1 rest in
    (ap₂ (λ (z : ℕ) (zs : List ℕ). z ∷ zs) first c.0, c.1)

-- printed forms that are the same under one schema are the same under another
pub printed_under : (first second : Settings) (schema other : List ℕ) (commit last : Commit)
    → printed first schema commit ++ 10 ∷ [] ≡ printed second schema last ++ 10 ∷ []
    → printed first other commit ++ 10 ∷ [] ≡ printed second other last ++ 10 ∷ []
printed_under first second schema other commit last e =
    let c = cut_one (before_close first commit) (before_close second last) (codes ",\"schema\":" ++ (schema ++ after_schema commit))
    (codes ",\"schema\":" ++ (schema ++ after_schema last)) (free_before first commit) (free_before second last)
    (sym (printed_cut first schema commit) ∙ e ∙ printed_cut second schema last) in
    let behind : after_schema commit ≡ after_schema last =
    append_cancel_left schema (after_schema commit) (after_schema last)
    (append_cancel_left (codes ",\"schema\":") (schema ++ after_schema commit) (schema ++ after_schema last) c.1) in
    printed_cut first other commit
    ∙ ap₂ (λ (a b : List ℕ). a ++ (93 ∷ (codes ",\"schema\":" ++ (other ++ b)))) c.0 behind
    ∙ sym (printed_cut second other last)

-- ---- the schema without fields

pub bare_tokens : tokens (91 ∷ 93 ∷ []) ≡ json_tokens (json.array json.no_items)
unfolding lex punctuate
bare_tokens = refl

abbrev pub bare_text : IsSchemaText (91 ∷ 93 ∷ []) (trees.array trees.no_items)
bare_text = record {
  utf8 = IsUtf8-are_ascii (91 ∷ 93 ∷ []) refl;
  rest = 93 ∷ [];
  begins = refl;
  parsed = read_of_tokens (91 ∷ 93 ∷ []) (json.array json.no_items) bare_tokens (omega arith);
  names = [];
  form = record { items = trees.no_items; is_array = refl; bounded = refl; fields = tt; distinct = refl };
}

abbrev bare_spelled : Spelled (91 ∷ 93 ∷ []) (trees.array trees.no_items)
bare_spelled = record { tree = json.array json.no_items; same = bare_tokens; means = refl; numbers = tt; shallow = omega arith }

-- the printed form under the schema without fields spells its commit
pub bare_spells : (settings : Settings) (schema bytes : List ℕ) (commit : Commit) → IsPrinted settings schema bytes commit
    → SpellsMeta (printed settings (91 ∷ 93 ∷ []) commit ++ 10 ∷ []) settings commit (trees.array trees.no_items)
bare_spells settings schema bytes commit p =
    shallow_spells settings (91 ∷ 93 ∷ []) (trees.array trees.no_items) commit p.is_commit p.blocksize bare_text bare_spelled (omega arith)

-- bytes are the printed form of one commit at most, under one settings
pub printed_one : (first second : Settings) (schema bytes : List ℕ) (commit last : Commit) → IsPrinted first schema bytes commit
    → IsPrinted second schema bytes last → (first ≡ second) × (commit ≡ last)
printed_one first second schema bytes commit last p q =
    let same : printed first (91 ∷ 93 ∷ []) commit ++ 10 ∷ [] ≡ printed second (91 ∷ 93 ∷ []) last ++ 10 ∷ [] =
    printed_under first second schema (91 ∷ 93 ∷ []) commit last (sym p.printed_is ∙ q.printed_is) in
    let one = one_meaning (printed second (91 ∷ 93 ∷ []) last ++ 10 ∷ []) first second commit last (trees.array trees.no_items) (trees.array trees.no_items)
    (subst (λ (l : List ℕ). SpellsMeta l first commit (trees.array trees.no_items)) same (bare_spells first schema bytes commit p))
    (bare_spells second schema bytes last q) in
    (one.0, one.1)
