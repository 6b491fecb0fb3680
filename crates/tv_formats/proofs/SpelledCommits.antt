-- What bytes spell is a commit: its numbers are in their ranges, its ids have sixteen bytes, and its segments are in order.
use Rattle.std.proofs.Common.{◌≡◌, ℕ, zero, suc, ◌+◌, ◌*◌, ◌<◌, ◌^◌, ◌==◌, nat_lt, Bool, true, false, cond, ◌&&◌, List, [], ◌∷◌, length, take, drop, Option, Some, None, option_and_then, sym, subst, arith, eqb-true, codes, ⊎_elim}
use Rattle.std.specs.Prelude.{All, IfSome, IsUtf8, slice_index}
use Rattle.std.specs.List.{AllByRecursion, list_all}
use Rattle.std.proofs.lemmas.Bool.{and_parts, ltb-true}
use Rattle.std.proofs.lemmas.Bool.Decides.{nat_tests}
use Rattle.std.proofs.lemmas.List.Elements.{All-from_recursion, recursion_from_All}
use Rattle.std.proofs.lemmas.List.Sorted.{All-permutation}
use Rattle.std.proofs.lemmas.Option.{cond_some}
use Rattle.serde_json.specs.Data.{Data, string, Items, no_items, item}
use Rattle.serde_json.specs.Find.{get, as_number, as_u64, as_str}
use Rattle.uuid.specs.Text.{is_hex_digit, value_of, byte_of_digits, by_index, parsed_simple, parsed_hyphenated, parsed_braced, parsed_urn, parsed, digits_of}
use Rattle.uuid.proofs.TextLemmas.{by_index_length, by_index_at}
use Rattle.tv_formats.specs.declared.segment.DeleteMeta.{DeleteMeta}
use Rattle.tv_formats.specs.declared.segment.LiveSegment.{LiveSegment}
use Rattle.tv_formats.specs.FooterForm.{if_u32}
use Rattle.tv_formats.specs.Ids.{IsId}
use Rattle.tv_formats.specs.JsonFields.{field, if_u64, u32_of, u64_of, id_of, or_default, IsOptional}
use Rattle.tv_formats.specs.MetaJson.{IsDeleteMeta, SpellsSegment, SpellEach, AreSettingsAt, IsMetaTree, SpellsMeta}
use Rattle.tv_formats.specs.Meaning.{IsPrinted, IsNotPrinted, Means}
use Rattle.tv_formats.specs.Segments.{delete_opstamp}
use Rattle.tv_formats.specs.Commits.{Commit, Settings, IsSegment, IsCommit, default_settings}
use Rattle.tv_formats.proofs.Options.{and_then_some}

-- ---- numbers

wide : (n x : ℕ) → if_u64 x ≡ Some n → n < 2 ^ 64
wide n x h = let c = cond_some (nat_lt x (2 ^ 64)) x n h in subst (λ (y : ℕ). y < 2 ^ 64) c.1 (ltb-true x (2 ^ 64) c.0)

u64_small : (d : Data) (n : ℕ) → u64_of d ≡ Some n → n < 2 ^ 64
u64_small d n h = let a = and_then_some if_u64 (option_and_then as_u64 (as_number d)) n h in wide n a.0 a.2

u64_at_small : (key : List ℕ) (d : Data) (n : ℕ) → field u64_of key d ≡ Some n → n < 2 ^ 64
u64_at_small key d n h = let a = and_then_some u64_of (get key d) n h in u64_small a.0 n a.2

u32_at_small : (key : List ℕ) (d : Data) (n : ℕ) → field u32_of key d ≡ Some n → n < 2 ^ 32
u32_at_small key d n h =
    let a = and_then_some u32_of (get key d) n h in
    let b = and_then_some if_u32 (u64_of a.0) n a.2 in
    let c = cond_some (nat_lt b.0 (2 ^ 32)) b.0 n b.2 in subst (λ (y : ℕ). y < 2 ^ 32) c.1 (ltb-true b.0 (2 ^ 32) c.0)

or_small : (o : Option Data) (n : ℕ) → or_default default_settings.blocksize u64_of o ≡ Some n → n < 2 ^ 64
or_small None n h = let e : 16384 ≡ n = cc in omega arith
or_small (Some d) n h = u64_small d n h

-- ---- ids

abbrev IsRead : List ℕ → Type 0
IsRead id = (length id ≡ 16) × All (λ b. b < 256) id

digit_small : (c : ℕ) → is_hex_digit c ≡ true → value_of c < 16
digit_small c h = grind (arith, nat_tests)

all_at : (p : ℕ → Bool) (xs : List ℕ) (k : ℕ) → list_all p xs ≡ true → k < length xs → p (slice_index xs k) ≡ true
all_at p [] k h lt = absurd (omega arith)
all_at p (x ∷ xs) zero h lt = (and_parts (p x) (list_all p xs) h).0
all_at p (x ∷ xs) (suc k) h lt = all_at p xs k (and_parts (p x) (list_all p xs) h).1 (omega arith)

digit_at : (hex : List ℕ) (k : ℕ) → list_all is_hex_digit hex ≡ true → k < length hex → value_of (slice_index hex k) < 16
digit_at hex k h lt = digit_small (slice_index hex k) (all_at is_hex_digit hex k h lt)

simple_is : (hex id : List ℕ) → parsed_simple hex ≡ Some id → IsRead id
simple_is hex id h =
    let c = cond_some ((length hex == 32) && list_all is_hex_digit hex) (by_index 16 (byte_of_digits hex)) id h in
    let p = and_parts (length hex == 32) (list_all is_hex_digit hex) c.0 in
    let long : length hex ≡ 32 = eqb-true (length hex) 32 p.0 in
    let size : length (by_index 16 (byte_of_digits hex)) ≡ 16 = by_index_length 16 (byte_of_digits hex) in
    let bytes : All (λ b. b < 256) (by_index 16 (byte_of_digits hex)) = λ k d lt.
    let within : k < 16 = omega arith in
    let high : value_of (slice_index hex (2 * k)) < 16 = digit_at hex (2 * k) p.1 (omega arith) in
    let low : value_of (slice_index hex (2 * k + 1)) < 16 = digit_at hex (2 * k + 1) p.1 (omega arith) in
    let whole : value_of (slice_index hex (2 * k)) * 16 + value_of (slice_index hex (2 * k + 1)) < 256 = omega arith in
    subst (λ (b : ℕ). b < 256) (sym (by_index_at 16 (byte_of_digits hex) k d within)) whole in
    subst IsRead c.1 (size, bytes)

then_is : (b : Bool) (o : Option (List ℕ)) (y : List ℕ) → cond b o None ≡ Some y → o ≡ Some y
then_is true o y h = h
then_is false o y h = cc

choice : (b : Bool) (x y : Option (List ℕ)) (id : List ℕ) → (x ≡ Some id → IsRead id) → (y ≡ Some id → IsRead id) → cond b x y ≡ Some id → IsRead id
choice true x y id f g h = f h
choice false x y id f g h = g h

hyphenated_is : (s id : List ℕ) → parsed_hyphenated s ≡ Some id → IsRead id
hyphenated_is s id h = simple_is (digits_of s) id (then_is _ (parsed_simple (digits_of s)) id h)

no_id : (id : List ℕ) → None ≡ Some id → IsRead id
no_id id e = cc

text_is : (s id : List ℕ) → parsed s ≡ Some id → IsRead id
text_is s id h =
    choice (length s == 32) (parsed_simple s) _ id (simple_is s id)
    (choice (length s == 36) (parsed_hyphenated s) _ id (hyphenated_is s id)
    (choice (length s == 38) (parsed_braced s) _ id (λ e. hyphenated_is (take 36 (drop 1 s)) id (then_is _ (parsed_hyphenated (take 36 (drop 1 s))) id e))
    (choice (length s == 45) (parsed_urn s) None id (λ e. hyphenated_is (drop 9 s) id (then_is _ (parsed_hyphenated (drop 9 s)) id e)) (no_id id)))) h

byte_at : (xs : List ℕ) (i : ℕ) → AllByRecursion (λ b. b < 256) xs → slice_index xs i < 256
byte_at [] i h = omega arith
byte_at (x ∷ xs) zero h = h.0
byte_at (x ∷ xs) (suc i) h = byte_at xs i h.1

id_is : (d : Data) (id : List ℕ) → field id_of (codes "segment_id") d ≡ Some id → IsId id
id_is d id h =
    let a = and_then_some id_of (get (codes "segment_id") d) id h in
    let b = and_then_some parsed (as_str a.0) id a.2 in
    let read = text_is b.0 id b.2 in
    record { size = read.0; bytes = λ i. byte_at id i (recursion_from_All (λ b. b < 256) id read.1) }

-- ---- segments

stamp_small : (o : Option Data) (deletes : Option DeleteMeta) → IsOptional IsDeleteMeta o deletes → delete_opstamp deletes < 2 ^ 64
stamp_small o None h = omega arith
stamp_small o (Some meta) (d, e, r) = u64_at_small (codes "opstamp") d meta.opstamp r.opstamp

segment_is : (d : Data) (e : List ℕ × LiveSegment) → SpellsSegment d e → IsSegment e
segment_is d e h = record {
  id = id_is d e.0 h.segment_id;
  max_doc = u32_at_small (codes "max_doc") d e.1.max_doc h.max_doc;
  deletes = h.within;
  opstamp = stamp_small (get (codes "deletes") d) e.1.deletes h.deletes;
}

each_is : (items : Items) (es : List (List ℕ × LiveSegment)) → SpellEach items es → AllByRecursion IsSegment es
each_is no_items [] h = tt
each_is no_items (e ∷ es) h = absurd h
each_is (item d items) [] h = tt
each_is (item d items) (e ∷ es) h = (segment_is d e h.0, each_is items es h.1)

-- ---- the whole

settings_small : (o : Option Data) (settings : Settings) → AreSettingsAt o settings → settings.blocksize < 2 ^ 64
settings_small None settings h = subst (λ (x : Settings). x.blocksize < 2 ^ 64) (sym h) (omega arith)
settings_small (Some d) settings h = or_small (get (codes "docstore_blocksize") d) settings.blocksize h.blocksize

payload_is : (o : Option Data) (payload : Option (List ℕ)) → IsOptional (λ d text. (d ≡ string text) × IsUtf8 text) o payload → IfSome payload IsUtf8
payload_is o None h = tt
payload_is o (Some text) (d, e, r) = r.1

-- what a tree spells
tree_spells : (d : Data) (settings : Settings) (commit : Commit) (t : Data) → IsMetaTree d settings commit t → IsCommit commit × (settings.blocksize < 2 ^ 64)
tree_spells d settings commit t h =
    let found = h.segments.found in
    let all = All-permutation IsSegment found commit.segments h.segments.same (All-from_recursion IsSegment found (each_is h.items found h.segments.each)) in (
      record {
        ordered = h.segments.ordered;
        segments = recursion_from_All IsSegment commit.segments all;
        opstamp = u64_at_small (codes "opstamp") d commit.opstamp h.opstamp;
        payload = payload_is (get (codes "payload") d) commit.payload h.payload;
      },
      settings_small (get (codes "index_settings") d) settings h.settings_at,
    )

pub spells_commit : (bytes : List ℕ) (settings : Settings) (commit : Commit) (t : Data) → SpellsMeta bytes settings commit t
    → IsCommit commit × (settings.blocksize < 2 ^ 64)
spells_commit bytes settings commit t h = tree_spells h.tree settings commit t h.form

-- what bytes mean is a commit
pub means_commit : (settings : Settings) (schema bytes : List ℕ) (commit : Commit) → Means settings schema bytes commit
    → IsCommit commit × (settings.blocksize < 2 ^ 64)
means_commit settings schema bytes commit h =
    ⊎_elim (λ (p : IsPrinted settings schema bytes commit). (p.is_commit, p.blocksize))
    (λ (s : IsNotPrinted schema bytes × SpellsMeta bytes settings commit h.tree). spells_commit bytes settings commit h.tree s.1) h.said
