-- The printed form of a commit is the text of a JSON tree, with the schema's text inside.
use Rattle.std.proofs.Common.{◌≡◌, inl, ℕ, ◌+◌, ◌-◌, ◌<◌, ◌≤◌, ◌^◌, Bool, true, false, List, [], ◌∷◌, ◌++◌, map, fold, Option, Some, None, option_map, codes, refl, sym, ap, ap₂, ◌∙◌, arith, append_assoc}
use Rattle.std.specs.Prelude.{IfSome, IsUtf8}
use Rattle.std.specs.List.{AllByRecursion}
use Rattle.std.proofs.lemmas.List.Sums.{fold-append}
use Rattle.std.proofs.lemmas.Str.{IsUtf8-append, IsUtf8-from_ascii}
use Rattle.json.specs.Token.{Token, begin_object, key}
use Rattle.json.specs.Word.{ends_word}
use Rattle.json.specs.Lex.{tokens}
use Rattle.json.specs.Print.{escape_byte, ends, print_from, print}
use Rattle.json.specs.Json as json
use Rattle.json.specs.Tree.{json_tokens, members_tokens, depth, items_depth, members_depth, HasNumbers}
use Rattle.json.proofs.Printed.Tokens.{print_from-append}
use Rattle.json.proofs.Printed.Utf8.{IsUtf8-are_ascii}
use Rattle.serde_json.specs.Data.{Data, object, Members, no_members, put}
use Rattle.serde_json.specs.Read.{of_json}
use Rattle.serde_json.specs.View.{items_of}
use Rattle.serde_json.specs.Written.{outline, items_outline, members_outline, compact_text, members_text}
use Rattle.serde_json.proofs.Texts.{print-outline}
use Rattle.uuid.specs.Text.{hyphenated_text, lower}
use Rattle.uuid.proofs.TextLemmas.{hyphenated_ascii}
use Rattle.tv_formats.specs.declared.segment.DeleteMeta.{DeleteMeta}
use Rattle.tv_formats.specs.declared.segment.LiveSegment.{LiveSegment}
use Rattle.tv_formats.specs.Segments.{num_deleted, delete_opstamp}
use Rattle.tv_formats.specs.Commits.{Commit, Settings, IsSegment, IsCommit, deletes_tree, last_members, payload_members, printed, segment_tree, segments_tree, settings_tree}
use Rattle.tv_formats.proofs.JsonReadBack.{around_tokens, before_line_feed, json_ends}
use Rattle.tv_formats.proofs.JsonTrees.{Fits, ItemsFit, Known, MembersFit, ascii_then, known, members_known, members_ordered, ordered}

abbrev pub Entry : Type 0
Entry = List ℕ × LiveSegment

-- ---- the tree

-- the whole, with a schema of this value
abbrev pub meta_json : Settings → Commit → json.Json → json.Json
meta_json settings commit j =
    json.object (json.member (codes "index_settings") (outline (settings_tree settings))
    (json.member (codes "segments") (outline (segments_tree commit.segments)) (json.member (codes "schema") j (members_outline (last_members commit.opstamp commit.payload)))))

-- what that is read as, with a schema of this tree
abbrev up_to_schema : Settings → List Entry → Data → Members
up_to_schema settings es t =
    put (codes "schema") t (put (codes "segments") (ordered (segments_tree es)) (put (codes "index_settings") (ordered (settings_tree settings)) no_members))

abbrev pub meta_tree : Settings → Commit → Data → Data
meta_tree settings commit t = object (members_ordered (last_members commit.opstamp commit.payload) (up_to_schema settings commit.segments t))

-- ---- what stands before the schema, and behind it

abbrev pub front : Settings → List Entry → List Token
front settings es =
    begin_object ∷ key (codes "index_settings") ∷ (json_tokens (outline (settings_tree settings))
    ++ key (codes "segments") ∷ (json_tokens (outline (segments_tree es)) ++ key (codes "schema") ∷ []))

abbrev pub front_text : Settings → List Entry → List ℕ
front_text settings es =
    codes "{\"index_settings\":" ++ compact_text (settings_tree settings) ++ codes ",\"segments\":" ++ compact_text (segments_tree es) ++ codes ",\"schema\":"

after_tree : (d : Data) (ts : List Token) → print_from false (json_tokens (outline d) ++ ts) ≡ compact_text d ++ print_from true ts
after_tree d ts =
    print_from-append false (json_tokens (outline d)) ts
    ∙ ap₂ (λ (x y : List ℕ). x ++ y) (print-outline d) (ap (λ b. print_from b ts) (json_ends false (outline d)))

flattened : (x s y a z : List ℕ) → x ++ (s ++ (y ++ (a ++ z))) ≡ x ++ s ++ y ++ a ++ z
flattened x s y a z = simp append_assoc

pub front_print : (settings : Settings) (es : List Entry) → print (front settings es) ≡ front_text settings es
unfolding print_from escape_byte
front_print settings es =
    let S = settings_tree settings in
    let last = key (codes "schema") ∷ [] in
    ap (λ (l : List ℕ). codes "{\"index_settings\":" ++ l)
    (after_tree S (key (codes "segments") ∷ (json_tokens (outline (segments_tree es)) ++ last))
    ∙ ap (λ (l : List ℕ). compact_text S ++ (codes ",\"segments\":" ++ l)) (after_tree (segments_tree es) last))
    ∙ flattened (codes "{\"index_settings\":") (compact_text S) (codes ",\"segments\":") (compact_text (segments_tree es)) (codes ",\"schema\":")

back_print : (n : ℕ) (o : Option (List ℕ)) → print_from true (members_tokens (members_outline (last_members n o))) ≡ members_text true (last_members n o)
unfolding print_from escape_byte
back_print n None = refl
back_print n (Some text) = refl

-- the last members alone, behind a comma
pub last_print : (n : ℕ) (o : Option (List ℕ)) → 44 ∷ print (members_tokens (members_outline (last_members n o))) ≡ members_text true (last_members n o)
unfolding print_from escape_byte
last_print n None = refl
last_print n (Some text) = refl

printed_parts : (settings : Settings) (schema : List ℕ) (commit : Commit)
    → printed settings schema commit ≡ print (front settings commit.segments) ++ (schema ++ print_from true (members_tokens (members_outline (last_members commit.opstamp commit.payload))))
printed_parts settings schema commit =
    append_assoc (front_text settings commit.segments) schema (members_text true (last_members commit.opstamp commit.payload))
    ∙ ap₂ (λ (f b : List ℕ). f ++ (schema ++ b)) (sym (front_print settings commit.segments)) (sym (back_print commit.opstamp commit.payload))

opens : (settings : Settings) (es : List Entry) → fold (λ _ t. ends t) false (front settings es) ≡ false
opens settings es =
    let last = key (codes "schema") ∷ [] in
    fold-append (λ _ t. ends t) false (json_tokens (outline (settings_tree settings)))
    (key (codes "segments") ∷ (json_tokens (outline (segments_tree es)) ++ last))
    ∙ fold-append (λ _ t. ends t) false (json_tokens (outline (segments_tree es))) last

in_two : (S A J B : List Token)
    → begin_object ∷ key (codes "index_settings") ∷ (S ++ key (codes "segments") ∷ (A ++ key (codes "schema") ∷ (J ++ B)))
    ≡ (begin_object ∷ key (codes "index_settings") ∷ (S ++ key (codes "segments") ∷ (A ++ key (codes "schema") ∷ []))) ++ (J ++ B)
in_two S A J B = simp append_assoc

goes_on : (n : ℕ) (o : Option (List ℕ)) → ends_word (members_text true (last_members n o)) ≡ true
goes_on n o = refl

-- ---- numbers and texts

settings_fit : (b : Bool) (n : ℕ) → n < 2 ^ 64 → Fits (settings_tree (record { dedicated_thread = b; blocksize = n }))
settings_fit true n h = (refl, IsUtf8-are_ascii _ refl, (refl, h, tt))
settings_fit false n h = (refl, IsUtf8-are_ascii _ refl, (refl, tt, (refl, h, tt)))

deletes_fit : (o : Option DeleteMeta) → num_deleted o < 2 ^ 64 → delete_opstamp o < 2 ^ 64 → Fits (deletes_tree o)
deletes_fit None h g = tt
deletes_fit (Some meta) h g = (refl, h, (refl, g, tt))

segments_fit : (es : List Entry) → AllByRecursion IsSegment es → ItemsFit (items_of (map segment_tree es))
segments_fit [] h = tt
segments_fit (e ∷ es) h = (
  (
    refl,
    IsUtf8-from_ascii (hyphenated_text lower e.0) (hyphenated_ascii lower e.0 (inl refl)),
    (refl, omega (arith, h.0.max_doc), (refl, deletes_fit e.1.deletes (omega (arith, h.0.deletes, h.0.max_doc)) h.0.opstamp, tt)),
  ),
  segments_fit es h.1,
)

payload_fits : (o : Option (List ℕ)) → IfSome o IsUtf8 → MembersFit (payload_members o)
payload_fits None h = tt
payload_fits (Some text) h = (refl, h, tt)

module _ (settings : Settings) (commit : Commit) (small : settings.blocksize < 2 ^ 64) (c : IsCommit commit) where
  first_known : Known (settings_tree settings)
  first_known = known (settings_tree settings) (settings_fit settings.dedicated_thread settings.blocksize small)

  list_known : Known (segments_tree commit.segments)
  list_known = known (segments_tree commit.segments) (segments_fit commit.segments c.segments)

  back_fits : MembersFit (last_members commit.opstamp commit.payload)
  back_fits = (refl, c.opstamp, payload_fits commit.payload c.payload)

  meta_numbers : (j : json.Json) → HasNumbers j → HasNumbers (meta_json settings commit j)
  meta_numbers j numbers =
      (first_known.1, (list_known.1, (numbers, (members_known true (last_members commit.opstamp commit.payload) no_members back_fits).1)))

  printed_tokens : (rest : List ℕ) (j : json.Json) → HasNumbers j → tokens (91 ∷ rest) ≡ json_tokens j
      → tokens (printed settings (91 ∷ rest) commit) ≡ json_tokens (meta_json settings commit j)
  printed_tokens rest j numbers same =
      let after = members_tokens (members_outline (last_members commit.opstamp commit.payload)) in
      ap tokens (printed_parts settings (91 ∷ rest) commit)
      ∙ around_tokens (front settings commit.segments) after (meta_json settings commit j) j rest (meta_numbers j numbers) numbers same
      (in_two (json_tokens (outline (settings_tree settings))) (json_tokens (outline (segments_tree commit.segments))) (json_tokens j) after)
      (opens settings commit.segments) (ap ends_word (back_print commit.opstamp commit.payload) ∙ goes_on commit.opstamp commit.payload)

  -- the tokens of the printed form with its line feed
  pub line_tokens : (rest : List ℕ) (j : json.Json) → HasNumbers j → tokens (91 ∷ rest) ≡ json_tokens j
      → tokens (printed settings (91 ∷ rest) commit ++ 10 ∷ []) ≡ json_tokens (meta_json settings commit j)
  line_tokens rest j numbers same =
      before_line_feed (printed settings (91 ∷ rest) commit) (meta_json settings commit j) (meta_numbers j numbers) (printed_tokens rest j numbers same)

  pub meta_reads : (j : json.Json) (t : Data) → of_json j ≡ Some t → of_json (meta_json settings commit j) ≡ Some (meta_tree settings commit t)
  meta_reads j t is =
      rw (first_known.0, list_known.0, is)
      (ap (option_map object) (members_known true (last_members commit.opstamp commit.payload) (up_to_schema settings commit.segments t) back_fits).0)

  pub printed_utf8 : (schema : List ℕ) → IsUtf8 schema → IsUtf8 (printed settings schema commit)
  printed_utf8 schema u =
      let parts = IsUtf8-append in
      parts _ _ (parts _ _ (parts _ _ (parts _ _ (parts _ _ (ascii_then (codes "{\"index_settings\":") _ refl first_known.2) (IsUtf8-are_ascii _ refl)) list_known.2) (IsUtf8-are_ascii _ refl)) u)
      (members_known true (last_members commit.opstamp commit.payload) no_members back_fits).2

-- ---- depth

settings_depth : (b : Bool) (n : ℕ) → depth (outline (settings_tree (record { dedicated_thread = b; blocksize = n }))) ≤ 1
settings_depth true n = omega arith
settings_depth false n = omega arith

deletes_depth : (o : Option DeleteMeta) → depth (outline (deletes_tree o)) ≤ 1
deletes_depth None = omega arith
deletes_depth (Some meta) = omega arith

segments_depth : (es : List Entry) → items_depth (items_outline (items_of (map segment_tree es))) ≤ 2
segments_depth [] = omega arith
segments_depth (e ∷ es) = omega (arith, deletes_depth e.1.deletes, segments_depth es)

payload_depth : (o : Option (List ℕ)) → members_depth (members_outline (payload_members o)) ≤ 0
payload_depth None = omega arith
payload_depth (Some text) = omega arith

pub meta_depth : (settings : Settings) (commit : Commit) (j : json.Json) → depth j ≤ 126 → depth (meta_json settings commit j) ≤ 127
meta_depth settings commit j h =
    omega (arith, settings_depth settings.dedicated_thread settings.blocksize, segments_depth commit.segments, payload_depth commit.payload)

pub schema_depth : (settings : Settings) (commit : Commit) (j : json.Json) → depth (meta_json settings commit j) ≤ 127 → depth j ≤ 126
schema_depth settings commit j h = omega (arith, h)
