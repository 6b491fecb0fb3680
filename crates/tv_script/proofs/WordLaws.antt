-- What a word of a line is read to stand for is what it spells, and what it spells is read so.
use Rattle.std.proofs.Common.{◌≡◌, ℕ, zero, suc, ◌<◌, ◌^◌, ◌==◌, ◌/◌, ◌%◌, Bool, true, false, not, List, [], ◌∷◌, ◌++◌, Some, Result, Ok, Err, refl, sym, ap, ◌∙◌, arith, cond, map, ◌&&◌, Option, None, length, subst, codes}
use Rattle.std.specs.List.{list_all, slice_split, join_with_byte, AllByRecursion}
use Rattle.std.specs.Fmt.{decimal}
use Rattle.std.specs.Str.{all_ascii_digits}
use Rattle.std.specs.Char.{is_ascii_digit}
use Rattle.std.specs.Prelude.{slice_index, find, IfSome, IsUtf8, option_map}
use Rattle.std.specs.Str.{is_utf8}
use Rattle.std.specs.Cmp.Lexicographic.{bytes_decides}
use Rattle.std.proofs.lemmas.Bool.{eqb-true, and_parts, not-true}
use Rattle.std.proofs.lemmas.Str.{IsUtf8-from_is_utf8, is_utf8-from_IsUtf8}
use Rattle.std.proofs.lemmas.Bool.Decides.{nat_tests}
use Rattle.std.proofs.lemmas.Fmt.{digits_decimal}
use Rattle.std.proofs.lemmas.Str.Parse.{numerals_by_value, tells_all_ascii_digits}
use Rattle.hex.specs.Hex.{encode_lower, encode_with, lower_digits, decode_sized, decode_of, is_hex_digit}
use Rattle.hex.specs.declared.error.FromHexError.{FromHexError}
use Rattle.hex.proofs.HexLemmas.{decode_sized-encode_lower, decode_sized-ok, decode_sized-twice, decode_of-ok}
use Rattle.tv_formats.specs.Ids.{IsId}
use Rattle.tv_formats.specs.Names.{is}
use Rattle.tv_script.specs.Fields.{id_at, printed_id, component_at, bytes_at, some_bytes, payload_at, policy_at, signed_text_at, some_text, text_at}
use Rattle.tv_script.proofs.Numbers.{chosen, number_found, number_again}
use Rattle.std.proofs.lemmas.List.Elements.{recursion_from_All}
use Rattle.tv_formats.specs.declared.segment.SegmentComponent.{SegmentComponent}
use Rattle.tv_formats.specs.declared.segment.SegmentComponent.TheVariants.{Postings}
use Rattle.tv_formats.specs.Segments.{components, extension}
use Rattle.tv_events.specs.Script.{WordKind, Word, Id, Component, Bytes, SmallNumber, Number, Payload, Policy, WordValue, LineWord, word, line_of, IsWithin, SpellsPayload, policy_word, Spells, AllSpell}
use Rattle.tv_script.specs.EventWords.{value_at}
use Rattle.std.proofs.lemmas.Option.{same_Some}
use Rattle.tv_events.specs.declared.event.Event.{Event}
use Rattle.tv_events.specs.declared.event.Event.TheVariants as events
use Rattle.tv_events.specs.declared.reload_policy.ReloadPolicy.{ReloadPolicy}
use Rattle.tv_events.specs.declared.reload_policy.ReloadPolicy.TheVariants.{Manual, OnCommitWithDelay}

abbrev pub is_space : ℕ → Bool
is_space b = b == 32

-- no space stands in the word
abbrev pub has_no_space : List ℕ → Bool
has_no_space word = list_all (λ b. not (b == 32)) word

abbrev pub NoSpace : List ℕ → Type 0
NoSpace word = has_no_space word ≡ true

-- ---- splitting

split_word : (word rest : List ℕ) → NoSpace word → slice_split is_space (word ++ 32 ∷ rest) ≡ word ∷ slice_split is_space rest
split_word [] rest h = refl
split_word (b ∷ word) rest h =
    let t = and_parts (not (b == 32)) (has_no_space word) h in
    rw (not-true (b == 32) t.0, split_word word rest t.1) refl

split_last : (word : List ℕ) → NoSpace word → slice_split is_space word ≡ word ∷ []
split_last [] h = refl
split_last (b ∷ word) h =
    let t = and_parts (not (b == 32)) (has_no_space word) h in
    rw (not-true (b == 32) t.0, split_last word t.1) refl

pub split_joined : (word : List ℕ) (words : List (List ℕ)) → AllByRecursion NoSpace (word ∷ words) → slice_split is_space (join_with_byte 32 (word ∷ words)) ≡ word ∷ words
split_joined word [] h = split_last word h.0
split_joined word (next ∷ words) h = split_word word (join_with_byte 32 (next ∷ words)) h.0 ∙ ap (λ (ws : List (List ℕ)). word ∷ ws) (split_joined next words h.1)

-- ---- words without a space

at_any : (xs : List ℕ) (k : ℕ) → has_no_space xs ≡ true → (slice_index xs k == 32) ≡ false
at_any [] k h = refl
at_any (x ∷ xs) zero h = not-true (x == 32) (and_parts (not (x == 32)) (has_no_space xs) h).0
at_any (x ∷ xs) (suc k) h = at_any xs k (and_parts (not (x == 32)) (has_no_space xs) h).1

pub id_has_no_space : (id : List ℕ) → NoSpace (encode_lower id)
unfolding encode_with
id_has_no_space [] = refl
id_has_no_space (b ∷ id) = rw (at_any lower_digits (b / 16) refl, at_any lower_digits (b % 16) refl) (id_has_no_space id)

digit_has_no_space : (c : ℕ) → is_ascii_digit c ≡ true → (c == 32) ≡ false
digit_has_no_space c h = grind (arith, nat_tests)

digits_have_no_space : (ds : List ℕ) → all_ascii_digits ds ≡ true → NoSpace ds
digits_have_no_space [] h = refl
digits_have_no_space (c ∷ ds) h =
    let t = and_parts (is_ascii_digit c) (all_ascii_digits ds) h in
    rw (digit_has_no_space c t.0) (digits_have_no_space ds t.1)

pub number_has_no_space : (n : ℕ) → n < 2 ^ 64 → NoSpace (decimal n)
number_has_no_space n small = digits_have_no_space (decimal n) (digits_decimal (numerals_by_value (λ ds. all_ascii_digits ds ≡ true) tells_all_ascii_digits) n small)

untrue : (b : ℕ) (t : Bool) → (b == 32) ≡ t → (t ≡ true → ⊥) → t ≡ false
untrue b true e h = absurd (h refl)
untrue b false e h = refl

-- what passes a test that a space doesn't pass is none
not_space : (p : ℕ → Bool) → p 32 ≡ false → (b : ℕ) → p b ≡ true → (b == 32) ≡ false
not_space p at_space b h = untrue b (b == 32) refl (λ e. let is : b ≡ 32 = eqb-true b 32 e in let t : false ≡ true = sym at_space ∙ ap p (sym is) ∙ h in absurd cc)

pub passing_have_no_space : (p : ℕ → Bool) → p 32 ≡ false → (word : List ℕ) → AllByRecursion (λ b. p b ≡ true) word → NoSpace word
passing_have_no_space p at_space [] h = refl
passing_have_no_space p at_space (b ∷ word) h = rw (not_space p at_space b h.0) (passing_have_no_space p at_space word h.1)

-- ---- ids

printed_found : (word : List ℕ) (r : Result (List ℕ) FromHexError) (id : List ℕ) → printed_id word r ≡ Some id → (r ≡ Ok id) × (word ≡ encode_lower id)
printed_found word (Ok bytes) id e =
    let h = chosen (is (encode_lower bytes) word) bytes id e in
    (ap (λ (x : List ℕ). Ok x) h.1, sym ((bytes_decides (encode_lower bytes) word).0 h.0) ∙ ap encode_lower h.1)
printed_found word (Err d) id e = absurd cc

-- a word that spells an id is how the id is printed
pub id_found : (word id : List ℕ) → id_at word ≡ Some id → (word ≡ encode_lower id) × IsId id
id_found word id e =
    let h = printed_found word (decode_sized word 16) id e in
    let len = decode_sized-ok word 16 id h.0 in
    let d = decode_of-ok word id (sym (decode_sized-twice word 16 len) ∙ h.0) in
    (h.1, record { size = omega (arith, d.2); bytes = d.3 })

-- how an id is printed spells it
pub id_again : (id : List ℕ) → IsId id → id_at (encode_lower id) ≡ Some id
id_again id h =
    let same : is (encode_lower id) (encode_lower id) ≡ true = (bytes_decides (encode_lower id) (encode_lower id)).1 refl in
    rw (decode_sized-encode_lower id 16 h.size h.bytes, same) refl

-- ---- components

-- a component that passed the test, or one of those after it
pub passing : {P : Type 0} (b : Bool) (first : SegmentComponent) (rest : Option SegmentComponent) (c : SegmentComponent) → cond b (Some first) rest ≡ Some c → (b ≡ true → first ≡ c → P) → (rest ≡ Some c → P) → P
passing true first rest c e here later = here refl (same_Some first c e)
passing false first rest c e here later = later e

pub found_among : (all : List SegmentComponent) (word : List ℕ) (c : SegmentComponent) → find (λ component. is (extension component) word) all ≡ Some c → word ≡ extension c
found_among [] word c e = absurd cc
found_among (first ∷ others) word c e =
    passing (is (extension first) word) first (find (λ component. is (extension component) word) others) c e
    (λ t same.
    let spelled : extension first ≡ word = (bytes_decides (extension first) word).0 t in
    sym spelled ∙ ap extension same)
    (λ later. found_among others word c later)

-- a word that names a component is its extension
pub component_found : (word : List ℕ) (c : SegmentComponent) → component_at word ≡ Some c → word ≡ extension c
component_found word c e = found_among components word c e

-- its extension names it
pub component_again : (c : SegmentComponent) → component_at (extension c) ≡ Some c
component_again Postings = refl
component_again other = refl

pub extension_has_no_space : (c : SegmentComponent) → NoSpace (extension c)
extension_has_no_space Postings = refl
extension_has_no_space other = refl

-- ---- bytes

pub bytes_found : (r : Result (List ℕ) FromHexError) (bytes : List ℕ) → some_bytes r ≡ Some bytes → (r ≡ Ok bytes) × (0 < length bytes)
bytes_found (Ok []) bytes e = absurd cc
bytes_found (Ok (b ∷ bs)) bytes e = let is = same_Some (b ∷ bs) bytes e in (ap (λ (x : List ℕ). Ok x) is, rw (← is) (omega arith))
bytes_found (Err d) bytes e = absurd cc

pub bytes_again : (word bytes : List ℕ) → decode_of word ≡ Ok bytes → 0 < length bytes → bytes_at word ≡ Some bytes
bytes_again word [] e lt = absurd (omega arith)
bytes_again word (b ∷ bytes) e lt = rw e refl

pub bytes_have_no_space : (digits bytes : List ℕ) → decode_of digits ≡ Ok bytes → NoSpace digits
bytes_have_no_space digits bytes e = passing_have_no_space is_hex_digit refl digits (recursion_from_All _ _ (decode_of-ok digits bytes e).1)

-- ---- payloads

digits_found : (r : Result (List ℕ) FromHexError) (text : List ℕ) → some_text r ≡ Some text → (r ≡ Ok text) × IsUtf8 text
digits_found (Ok bytes) text e =
    let h = chosen (is_utf8 bytes) bytes text e in
    (ap (λ (x : List ℕ). Ok x) h.1, subst IsUtf8 h.1 (IsUtf8-from_is_utf8 bytes h.0))
digits_found (Err d) text e = absurd cc

pub text_again : (digits text : List ℕ) → decode_of digits ≡ Ok text → IsUtf8 text → text_at digits ≡ Some text
text_again digits text e h = rw (e, is_utf8-from_IsUtf8 text h) refl

signed_found : (word text : List ℕ) → signed_text_at word ≡ Some text → SpellsPayload (Some text) word × IsUtf8 text
signed_found [] text e = absurd cc
signed_found (sign ∷ digits) text e = plus (sign == 43) refl e where
  plus : (b : Bool) → (sign == 43) ≡ b → cond b (text_at digits) None ≡ Some text → SpellsPayload (Some text) (sign ∷ digits) × IsUtf8 text
  plus true is e = let h = digits_found (decode_of digits) text e in ((digits, h.0, ap (λ (n : ℕ). n ∷ digits) (eqb-true sign 43 is)), h.1)
  plus false is e = absurd cc

pub payload_found : (word : List ℕ) (payload : Option (List ℕ)) → payload_at word ≡ Some payload → SpellsPayload payload word × IfSome payload IsUtf8
payload_found word payload e = dash (is word (codes "-")) refl e where
  text : (found : Option (List ℕ)) → signed_text_at word ≡ found → option_map (λ t. Some t) found ≡ Some payload → SpellsPayload payload word × IfSome payload IsUtf8
  text None is e = absurd cc
  text (Some t) is e = rw (← same_Some (Some t) payload e) (signed_found word t is)

  dash : (b : Bool) → is word (codes "-") ≡ b → cond b (Some None) (option_map (λ t. Some t) (signed_text_at word)) ≡ Some payload → SpellsPayload payload word × IfSome payload IsUtf8
  dash true is e = rw (← same_Some None payload e) ((bytes_decides word (codes "-")).0 is, tt)
  dash false is e = text (signed_text_at word) refl e

pub payload_again : (payload : Option (List ℕ)) (word : List ℕ) → SpellsPayload payload word → IfSome payload IsUtf8 → payload_at word ≡ Some payload
payload_again None word h utf8 = rw h refl
payload_again (Some text) word h utf8 = rw (h.2, text_again h.0 text h.1 utf8) refl

pub payload_has_no_space : (payload : Option (List ℕ)) (word : List ℕ) → SpellsPayload payload word → NoSpace word
payload_has_no_space None word h = rw h refl
payload_has_no_space (Some text) word h = rw h.2 (bytes_have_no_space h.0 text h.1)

-- ---- policies

-- the policy that a word is found to name is the one that it spells
policy_found : (manual notices : Bool) (word : List ℕ) (policy : ReloadPolicy)
    → (manual ≡ true → word ≡ codes "manual") → (notices ≡ true → word ≡ codes "on-commit")
    → cond manual (Some Manual) (cond notices (Some OnCommitWithDelay) None) ≡ Some policy → word ≡ policy_word policy
policy_found true notices word Manual is_manual with_notices e = is_manual refl
policy_found true notices word OnCommitWithDelay is_manual with_notices e = absurd cc
policy_found false true word OnCommitWithDelay is_manual with_notices e = with_notices refl
policy_found false true word Manual is_manual with_notices e = absurd cc
policy_found false false word policy is_manual with_notices e = absurd cc

policy_again : (policy : ReloadPolicy) → policy_at (policy_word policy) ≡ Some policy
policy_again Manual = refl
policy_again OnCommitWithDelay = refl

policy_has_no_space : (policy : ReloadPolicy) → NoSpace (policy_word policy)
policy_has_no_space Manual = refl
policy_has_no_space OnCommitWithDelay = refl

-- ---- words, by their kinds

abbrev pub Within : List LineWord → Type 0
Within line = AllByRecursion (λ meant. IsWithin meant.0 meant.1) line

-- a word spells what it is read to stand for, which is within its range
pub value_found : (kind : WordKind) (word : List ℕ) (value : WordValue kind) → value_at kind word ≡ Some value → Spells kind value word × IsWithin kind value
value_found (Word text) word value e = ((bytes_decides word text).0 (chosen (is word text) tt value e).0, tt)
value_found Id word id e = id_found word id e
value_found Component word c e = (component_found word c e, tt)
value_found Bytes word bytes e = bytes_found (decode_of word) bytes e
value_found SmallNumber word n e = number_found (2 ^ 32) n word e
value_found Number word n e = number_found (2 ^ 64) n word e
value_found Payload word payload e = payload_found word payload e
value_found Policy word policy e = (policy_found (is word (codes "manual")) (is word (codes "on-commit")) word policy ((bytes_decides word (codes "manual")).0) ((bytes_decides word (codes "on-commit")).0) e, tt)

-- and is read to stand for what it spells, where that is within its range
pub value_again : (kind : WordKind) (word : List ℕ) (value : WordValue kind) → IsWithin kind value → Spells kind value word → value_at kind word ≡ Some value
value_again (Word text) word value within spells = rw ((bytes_decides word text).1 spells) refl
value_again Id word id within spells = rw spells (id_again id within)
value_again Component word c within spells = rw spells (component_again c)
value_again Bytes word bytes within spells = bytes_again word bytes spells within
value_again SmallNumber word n within spells = rw spells (number_again (2 ^ 32) n within (omega arith))
value_again Number word n within spells = rw spells (number_again (2 ^ 64) n within within)
value_again Payload word payload within spells = payload_again payload word spells within
value_again Policy word policy within spells = rw spells (policy_again policy)

-- a word that stands for itself has no space, and isn't empty
abbrev pub is_plain : LineWord → Bool
is_plain (Word text, value) = has_no_space text && not (is text [])
is_plain (other, value) = true

no_space : (kind : WordKind) (value : WordValue kind) (word : List ℕ) → is_plain (kind, value) ≡ true → IsWithin kind value → Spells kind value word → NoSpace word
no_space (Word text) value word plain within spells = rw spells (and_parts (has_no_space text) (not (is text [])) plain).0
no_space Id id word plain within spells = rw spells (id_has_no_space id)
no_space Component c word plain within spells = rw spells (extension_has_no_space c)
no_space Bytes bytes word plain within spells = bytes_have_no_space word bytes spells
no_space SmallNumber n word plain within spells = rw spells (number_has_no_space n (omega arith))
no_space Number n word plain within spells = rw spells (number_has_no_space n within)
no_space Payload payload word plain within spells = payload_has_no_space payload word spells
no_space Policy policy word plain within spells = rw spells (policy_has_no_space policy)

pub no_spaces : (line : List LineWord) (words : List (List ℕ)) → list_all is_plain line ≡ true → Within line → AllSpell line words → AllByRecursion NoSpace words
no_spaces [] [] plain within spell = tt
no_spaces [] (word ∷ words) plain within spell = absurd spell
no_spaces (meant ∷ line) [] plain within spell = absurd spell
no_spaces (meant ∷ line) (word ∷ words) plain within spell =
    let p = and_parts (is_plain meant) (list_all is_plain line) plain in (
      no_space meant.0 meant.1 word p.0 within.0 spell.0,
      no_spaces line words p.1 within.1 spell.1,
    )

plain_ids : (ids : List (List ℕ)) → list_all is_plain (map (λ id. (Id, id)) ids) ≡ true
plain_ids [] = refl
plain_ids (id ∷ ids) = plain_ids ids

pub plain_words : (e : Event) → list_all is_plain (line_of e) ≡ true
plain_words (events.Commit payload ids) = plain_ids ids
plain_words other = refl
