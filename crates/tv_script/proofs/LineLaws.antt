-- The laws of a script's lines, from what a line is.
use Rattle.std.proofs.Common.{◌≡◌, ◌≢◌, ℕ, zero, suc, ◌<◌, ◌≤◌, ◌^◌, ◌||◌, Bool, true, false, true≢false, not, List, [], ◌∷◌, ◌++◌, Option, Some, None, Ok, codes, length, get_or, map, refl, sym, ap, subst, ◌∙◌, arith, cond}
use Rattle.std.specs.Prelude.{IfSome}
use Rattle.std.specs.Cmp.Lexicographic.{bytes_decides}
use Rattle.std.specs.Fmt.{decimal}
use Rattle.std.specs.List.{AllByRecursion, join_with_byte, list_all, onto_first, slice_split}
use Rattle.std.proofs.lemmas.List.Splits.{join_with_byte-slice_split}
use Rattle.std.proofs.lemmas.Fmt.{decimal_digit, decimal_nonempty, first_decimal}
use Rattle.std.proofs.lemmas.Bool.{and_parts, not-true}
use Rattle.hex.specs.Hex.{decode_of, encode_lower, encode_with}
use Rattle.hex.proofs.HexLemmas.{decode_of-ok}
use Rattle.tv_events.specs.declared.event.Event.{Event}
use Rattle.tv_events.specs.declared.event.Event.TheVariants as events
use Rattle.tv_events.specs.declared.reload_policy.ReloadPolicy.{ReloadPolicy}
use Rattle.tv_events.specs.declared.reload_policy.ReloadPolicy.TheVariants.{Manual, OnCommitWithDelay}
use Rattle.tv_formats.specs.declared.segment.SegmentComponent.{SegmentComponent}
use Rattle.tv_formats.specs.declared.segment.SegmentComponent.TheVariants.{Postings}
use Rattle.tv_formats.specs.Ids.{IsId}
use Rattle.tv_formats.specs.Names.{has, is}
use Rattle.tv_events.specs.Script.{AllSpell, Bytes, Component, Fits, Id, IsLine, IsWithin, WordKind, LineWord, Number, Payload, Policy, SmallNumber, Spells, SpellsPayload, policy_word, WordValue, Word, line_limit, line_of}
use Rattle.tv_formats.specs.Segments.{extension}
use Rattle.tv_script.proofs.WordLaws.{has_no_space, is_plain, is_space, plain_words}
use Rattle.tv_script.proofs.GrammarLaws.{heading, heading_is, ids_spell, words_of_line}

-- what holds of no event's line, its event is none
pub no_event : (text : List ℕ) (found : Option Event) → ((e : Event) → IsLine text e → ⊥) → IfSome found (IsLine text) → found ≡ None
no_event text None never h = refl
no_event text (Some e) never h = absurd (never e h)

pub differ : (a b : List ℕ) → is a b ≡ false → a ≡ b → ⊥
differ a b apart e = true≢false (sym ((bytes_decides a b).1 e) ∙ apart)

-- ---- no leading zero

reloads : (e : Event) → heading (line_of e) ≡ codes "reload" → (n : ℕ) × (e ≡ events.Reload n)
reloads (events.Reload n) h = (n, refl)
reloads other h = absurd (differ (heading (line_of other)) (codes "reload") refl h)

-- one word and no other
alone : (meant : LineWord) (words : List (List ℕ)) → AllSpell (meant ∷ []) words → (word : List ℕ) × (words ≡ word ∷ []) × Spells meant.0 meant.1 word
alone meant [] spell = absurd spell
alone meant (word ∷ []) spell = (word, refl, spell.0)
alone meant (word ∷ next ∷ words) spell = absurd spell.1

-- a text that splits into this word alone is this word
is_alone : (text word : List ℕ) → slice_split is_space text ≡ word ∷ [] → text ≡ word
is_alone text word e = sym (join_with_byte-slice_split 32 text) ∙ ap (join_with_byte 32) e

leading : (n : ℕ) (rest : List ℕ) → n < 2 ^ 64 → 48 ∷ rest ≡ decimal n → rest ≢ [] → ⊥
leading zero rest small e some = some (let whole : 48 ∷ rest ≡ 48 ∷ [] = e ∙ decimal_digit 0 (omega arith) in cc)
leading (suc n) rest small e some =
    let first : 48 ≡ get_or (decimal (suc n)) 0 0 = ap (λ (ds : List ℕ). get_or ds 0 0) e in
    omega (arith, first, first_decimal (suc n) (omega arith) small)

pub no_leading_zero : (text rest : List ℕ) → rest ≢ [] → text ≡ codes "reload 0" ++ rest → (e : Event) → IsLine text e → ⊥
no_leading_zero text rest some is e line =
    let args = slice_split is_space (48 ∷ rest) in
    let words : codes "reload" ∷ args ≡ line.words = ap (slice_split is_space) (sym is) ∙ words_of_line text e line in
    let spell : AllSpell (line_of e) (codes "reload" ∷ args) = subst (AllSpell (line_of e)) (sym words) line.spell in
    let reload = reloads e (heading_is e (codes "reload") args spell) in
    let again : AllSpell (line_of (events.Reload reload.0)) (codes "reload" ∷ args) = subst (λ (e : Event). AllSpell (line_of e) (codes "reload" ∷ args)) reload.1 spell in
    let fits : Fits (events.Reload reload.0) = subst Fits reload.1 line.fits in
    let number = alone (Number, reload.0) args again.1 in
    leading reload.0 rest fits.0.1.0 (is_alone (48 ∷ rest) number.0 number.1 ∙ number.2) some

-- ---- no two spaces in a row

some_word : (word : List ℕ) → 0 < length word → is word [] ≡ false
some_word [] h = absurd (omega arith)
some_word (b ∷ word) h = refl

some_id : (id : List ℕ) → IsId id → is (encode_lower id) [] ≡ false
unfolding encode_with
some_id [] h = absurd (omega (arith, h.size))
some_id (b ∷ id) h = refl

some_number : (n : ℕ) → n < 2 ^ 64 → is (decimal n) [] ≡ false
some_number n small = some_word (decimal n) (decimal_nonempty n small)

some_component : (c : SegmentComponent) → is (extension c) [] ≡ false
some_component Postings = refl
some_component other = refl

some_digits : (digits bytes : List ℕ) → decode_of digits ≡ Ok bytes → 0 < length bytes → is digits [] ≡ false
some_digits digits bytes e h = some_word digits (omega (arith, h, (decode_of-ok digits bytes e).2))

some_payload : (payload : Option (List ℕ)) (word : List ℕ) → SpellsPayload payload word → is word [] ≡ false
some_payload None word h = rw h refl
some_payload (Some text) word h = rw h.2 refl

some_policy : (policy : ReloadPolicy) → is (policy_word policy) [] ≡ false
some_policy Manual = refl
some_policy OnCommitWithDelay = refl

-- no word is empty
some_spelled : (kind : WordKind) (value : WordValue kind) (word : List ℕ) → is_plain (kind, value) ≡ true → IsWithin kind value → Spells kind value word → is word [] ≡ false
some_spelled (Word text) value word plain within spells = rw spells (not-true (is text []) (and_parts (has_no_space text) (not (is text [])) plain).1)
some_spelled Id id word plain within spells = rw spells (some_id id within)
some_spelled Component c word plain within spells = rw spells (some_component c)
some_spelled Bytes bytes word plain within spells = some_digits word bytes spells within
some_spelled SmallNumber n word plain within spells = rw spells (some_number n (omega arith))
some_spelled Number n word plain within spells = rw spells (some_number n within)
some_spelled Payload payload word plain within spells = some_payload payload word spells
some_spelled Policy policy word plain within spells = rw spells (some_policy policy)

no_empty_word : (line : List LineWord) (words : List (List ℕ)) → list_all is_plain line ≡ true → AllByRecursion (λ meant. IsWithin meant.0 meant.1) line → AllSpell line words → has words [] ≡ false
no_empty_word [] [] plain within spell = refl
no_empty_word [] (word ∷ words) plain within spell = absurd spell
no_empty_word (meant ∷ line) [] plain within spell = absurd spell
no_empty_word (meant ∷ line) (word ∷ words) plain within spell =
    let p = and_parts (is_plain meant) (list_all is_plain line) plain in
    rw (some_spelled meant.0 meant.1 word p.0 within.0 spell.0) (no_empty_word line words p.1 within.1 spell.1)

-- the words after the first
abbrev behind : List (List ℕ) → List (List ℕ)
behind [] = []
behind (word ∷ words) = words

behind_longer : (b : ℕ) (words : List (List ℕ)) → has (behind words) [] ≡ true → has (behind (onto_first b words)) [] ≡ true
behind_longer b [] h = absurd cc
behind_longer b (word ∷ words) h = h

behind_cut : (words : List (List ℕ)) → has (behind words) [] ≡ true → has words [] ≡ true
behind_cut [] h = h
behind_cut (word ∷ words) h = either (is word []) where
  either : (b : Bool) → (b || has words []) ≡ true
  either true = refl
  either false = h

behind_either : (cut : Bool) (b : ℕ) (words : List (List ℕ)) → has (behind words) [] ≡ true → has (behind (cond cut ([] ∷ words) (onto_first b words))) [] ≡ true
behind_either true b words h = behind_cut words h
behind_either false b words h = behind_longer b words h

-- one of them is empty, where two spaces stand in a row
empty_behind : (front rest : List ℕ) → has (behind (slice_split is_space (front ++ 32 ∷ 32 ∷ rest))) [] ≡ true
empty_behind [] rest = refl
empty_behind (b ∷ front) rest = behind_either (is_space b) b (slice_split is_space (front ++ 32 ∷ 32 ∷ rest)) (empty_behind front rest)

pub no_two_spaces : (text front rest : List ℕ) → text ≡ front ++ 32 ∷ 32 ∷ rest → (e : Event) → IsLine text e → ⊥
no_two_spaces text front rest is e line =
    let words : slice_split is_space (front ++ 32 ∷ 32 ∷ rest) ≡ line.words = ap (slice_split is_space) (sym is) ∙ words_of_line text e line in
    true≢false (sym (behind_cut (slice_split is_space (front ++ 32 ∷ 32 ∷ rest)) (empty_behind front rest)) ∙ ap (λ (ws : List (List ℕ)). has ws []) words ∙ no_empty_word (line_of e) line.words (plain_words e) line.fits.0 line.spell)

-- ---- lower-case digits

segments : (e : Event) → heading (line_of e) ≡ codes "segment" → (id : List ℕ) × (e ≡ events.Segment id)
segments (events.Segment id) h = (id, refl)
segments other h = absurd (differ (heading (line_of other)) (codes "segment") refl h)

pub lower_case : (text word : List ℕ) (e : Event) → text ≡ codes "segment " ++ word → IsLine text e → (id : List ℕ) × (e ≡ events.Segment id) × (word ≡ encode_lower id)
lower_case text word e is line =
    let args = slice_split is_space word in
    let words : codes "segment" ∷ args ≡ line.words = ap (slice_split is_space) (sym is) ∙ words_of_line text e line in
    let spell : AllSpell (line_of e) (codes "segment" ∷ args) = subst (AllSpell (line_of e)) (sym words) line.spell in
    let segment = segments e (heading_is e (codes "segment") args spell) in
    let again : AllSpell (line_of (events.Segment segment.0)) (codes "segment" ∷ args) = subst (λ (e : Event). AllSpell (line_of e) (codes "segment" ∷ args)) segment.1 spell in
    let id = alone (Id, segment.0) args again.1 in
    (segment.0, segment.1, is_alone word id.0 id.1 ∙ id.2)

pub some_lower_case : (text word : List ℕ) (found : Option Event) → text ≡ codes "segment " ++ word → IfSome found (IsLine text)
    → IfSome found (λ e. (id : List ℕ) × (e ≡ events.Segment id) × (word ≡ encode_lower id))
some_lower_case text word None is h = tt
some_lower_case text word (Some e) is h = lower_case text word e is h

-- ---- a commit's payload

pub is_commit : (line text digits : List ℕ) (ids : List (List ℕ)) → Fits (events.Commit (Some text) ids) → decode_of digits ≡ Ok text
    → line ≡ join_with_byte 32 (codes "commit" ∷ (43 ∷ digits) ∷ map encode_lower ids) → length line ≤ line_limit → IsLine line (events.Commit (Some text) ids)
is_commit line text digits ids fits decoded is short = record {
  short = short;
  fits = fits;
  words = codes "commit" ∷ (43 ∷ digits) ∷ map encode_lower ids;
  spell = (refl, ((digits, decoded, refl), ids_spell ids));
  joined = is;
}
