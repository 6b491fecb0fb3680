-- What is read from words is the event of these words, and the words of an event are read as that event.
use Rattle.std.proofs.Common.{◌≡◌, ℕ, zero, suc, Bool, true, false, nat_lt, List, [], ◌∷◌, ◌++◌, Some, refl, sym, ap, ◌∙◌, arith, cond, map, Option, None, length, subst, ◌≤◌, codes}
use Rattle.std.specs.List.{list_all, slice_split, join_with_byte}
use Rattle.std.specs.Prelude.{IfSome}
use Rattle.std.specs.Str.{IsAscii, is_utf8}
use Rattle.std.specs.Cmp.Lexicographic.{bytes_decides}
use Rattle.std.proofs.lemmas.Bool.{ltb-true, and_parts}
use Rattle.std.proofs.lemmas.Str.{IsUtf8-from_ascii, is_utf8-from_IsUtf8}
use Rattle.hex.specs.Hex.{encode_lower}
use Rattle.tv_formats.specs.Ids.{are_distinct}
use Rattle.tv_formats.specs.Names.{is}
use Rattle.tv_script.specs.Fields.{id_at, payload_at}
use Rattle.tv_script.proofs.Numbers.{chosen}
use Rattle.tv_formats.proofs.Options.{bound, where_some}
use Rattle.tv_formats.specs.Framing.{◌>>=◌}
use Rattle.tv_events.specs.Script.{line_limit, WordKind, Word, Id, Component, Bytes, SmallNumber, Number, Policy, WordValue, LineWord, word, line_of, NamesEachOnce, Fits, IsLine, AllSpell}
use Rattle.tv_script.specs.EventWords.{value_at, text_in, Makes, are_as_many, event_of, read, ids_in, commit_event, commit_in, release_in, reload_event_by, event_by, event_in}
use Rattle.std.proofs.lemmas.List.Splits.{join_with_byte-slice_split}
use Rattle.std.proofs.lemmas.Option.{same_Some}
use Rattle.tv_events.specs.declared.event.Event.{Event}
use Rattle.tv_events.specs.declared.event.Event.TheVariants as events
use Rattle.tv_script.proofs.WordLaws.{is_space, split_joined, id_found, id_again, payload_found, payload_again, Within, value_found, value_again, no_spaces, plain_words}

-- ---- lists of ids

pub ids_found : (words ids : List (List ℕ)) → ids_in words ≡ Some ids → AllSpell (map (λ id. (Id, id)) ids) words × Within (map (λ id. (Id, id)) ids)
ids_found [] ids e = rw (← same_Some [] ids e) (tt, tt)
ids_found (word ∷ words) ids e =
    let id = bound (id_at word) (λ id. ids_in words >>= λ ids. Some (id ∷ ids)) ids e in
    let others = bound (ids_in words) (λ ids. Some (id.0 ∷ ids)) ids id.2 in
    let f = id_found word id.0 id.1 in
    let g = ids_found words others.0 others.1 in
    rw (← same_Some (id.0 ∷ others.0) ids others.2) ((f.0, g.0), (f.1, g.1))

pub ids_again : (ids words : List (List ℕ)) → Within (map (λ id. (Id, id)) ids) → AllSpell (map (λ id. (Id, id)) ids) words → ids_in words ≡ Some ids
ids_again [] [] within spell = refl
ids_again [] (word ∷ words) within spell = absurd spell
ids_again (id ∷ ids) [] within spell = absurd spell
ids_again (id ∷ ids) (word ∷ words) within spell = rw (spell.0, id_again id within.0, ids_again ids words within.1 spell.1) refl

pub ids_spell : (ids : List (List ℕ)) → AllSpell (map (λ id. (Id, id)) ids) (map encode_lower ids)
ids_spell [] = tt
ids_spell (id ∷ ids) = (refl, ids_spell ids)

-- ---- words of some kinds

-- what words of these kinds stand for
abbrev Values : List WordKind → Type 0
Values [] = Unit {0}
Values (kind ∷ kinds) = WordValue kind × Values kinds

-- the event that is made of it
abbrev made : (kinds : List WordKind) → Makes kinds → Values kinds → Event
made [] event values = event
made (kind ∷ kinds) make values = made kinds (make values.0) values.1

-- and the words of these kinds
abbrev meant : (kinds : List WordKind) → Values kinds → List LineWord
meant [] values = []
meant (kind ∷ kinds) values = (kind, values.0) ∷ meant kinds values.1

-- the words spell what an event was made of
record Reads (kinds : List WordKind) (make : Makes kinds) (words : List (List ℕ)) (e : Event) : Type 0 where
  pub values : Values kinds
  pub is : made kinds make values ≡ e
  pub within : Within (meant kinds values)
  pub spell : AllSpell (meant kinds values) words

event_of_found : (kinds : List WordKind) (make : Makes kinds) (words : List (List ℕ)) (e : Event) → are_as_many kinds words ≡ true → event_of kinds make words ≡ Some e → Reads kinds make words e
event_of_found [] event [] e many h = record { values = tt; is = same_Some event e h; within = tt; spell = tt }
event_of_found [] event (word ∷ words) e many h = absurd cc
event_of_found (kind ∷ kinds) make [] e many h = absurd cc
event_of_found (kind ∷ kinds) make (word ∷ words) e many h =
    let first = bound (value_at kind word) (λ value. event_of kinds (make value) words) e h in
    let found = value_found kind word first.0 first.1 in
    let others = event_of_found kinds (make first.0) words e many first.2 in
    record { values = (first.0, others.values); is = others.is; within = (found.1, others.within); spell = (found.0, others.spell) }

read_found : (kinds : List WordKind) (make : Makes kinds) (words : List (List ℕ)) (e : Event) → read kinds make words ≡ Some e → Reads kinds make words e
read_found kinds make words e h = let p = where_some (are_as_many kinds words) (event_of kinds make words) e h in event_of_found kinds make words e p.0 p.1

as_many : (kinds : List WordKind) (values : Values kinds) (words : List (List ℕ)) → AllSpell (meant kinds values) words → are_as_many kinds words ≡ true
as_many [] values [] spell = refl
as_many [] values (word ∷ words) spell = absurd spell
as_many (kind ∷ kinds) values [] spell = absurd spell
as_many (kind ∷ kinds) values (word ∷ words) spell = as_many kinds values.1 words spell.1

event_of_again : (kinds : List WordKind) (make : Makes kinds) (values : Values kinds) (words : List (List ℕ)) → Within (meant kinds values) → AllSpell (meant kinds values) words → event_of kinds make words ≡ Some (made kinds make values)
event_of_again [] event values words within spell = refl
event_of_again (kind ∷ kinds) make values [] within spell = absurd spell
event_of_again (kind ∷ kinds) make values (word ∷ words) within spell =
    rw (value_again kind word values.0 within.0 spell.0) (event_of_again kinds (make values.0) values.1 words within.1 spell.1)

read_again : (kinds : List WordKind) (make : Makes kinds) (values : Values kinds) (words : List (List ℕ)) → Within (meant kinds values) → AllSpell (meant kinds values) words → read kinds make words ≡ Some (made kinds make values)
read_again kinds make values words within spell = rw (as_many kinds values words spell) (event_of_again kinds make values words within spell)

-- ---- events

-- the event fits, and these words spell it
record IsReadAs (words : List (List ℕ)) (event : Event) : Type 0 where
  pub fits : Fits event
  pub spell : AllSpell (line_of event) words

-- words that stand for themselves, and others after them
names_within : (names : List (List ℕ)) (line : List LineWord) → Within line → Within (map word names ++ line)
names_within [] line within = within
names_within (name ∷ names) line within = (tt, names_within names line within)

names_spell : (names : List (List ℕ)) (line : List LineWord) (words : List (List ℕ)) → AllSpell line words → AllSpell (map word names ++ line) (names ++ words)
names_spell [] line words spell = spell
names_spell (name ∷ names) line words spell = (refl, names_spell names line words spell)

-- an event whose line is these names, and words of these kinds
module _ (names : List (List ℕ)) (kinds : List WordKind) (make : Makes kinds) (line : (v : Values kinds) → line_of (made kinds make v) ≡ map word names ++ meant kinds v) (once : (v : Values kinds) → NamesEachOnce (made kinds make v)) where
  named : (words args : List (List ℕ)) (e : Event) → words ≡ names ++ args → read kinds make args ≡ Some e → IsReadAs words e
  named words args e is h =
      let r = read_found kinds make args e h in
      subst (IsReadAs words) r.is (record {
        fits = (subst Within (sym (line r.values)) (names_within names (meant kinds r.values) r.within), once r.values);
        spell = rw (is, line r.values) (names_spell names (meant kinds r.values) args r.spell);
      })

-- an event with one keyword
one : {word : List ℕ} {args : List (List ℕ)} {e : Event} (name : List ℕ) (kinds : List WordKind) (make : Makes kinds) → ((v : Values kinds) → line_of (made kinds make v) ≡ (Word name, tt) ∷ meant kinds v) → ((v : Values kinds) → NamesEachOnce (made kinds make v)) → is word name ≡ true → read kinds make args ≡ Some e → IsReadAs (word ∷ args) e
one {word} {args} {e} name kinds make line once t h = named (name ∷ []) kinds make line once (word ∷ args) args e (ap (λ (w : List ℕ). w ∷ args) ((bytes_decides word name).0 t)) h

-- a release of such a thing
release : {word kind : List ℕ} {args : List (List ℕ)} {e : Event} → is word (codes "release") ≡ true → (name : List ℕ) (kinds : List WordKind) (make : Makes kinds) → ((v : Values kinds) → line_of (made kinds make v) ≡ (Word (codes "release"), tt) ∷ (Word name, tt) ∷ meant kinds v) → ((v : Values kinds) → NamesEachOnce (made kinds make v)) → is kind name ≡ true → read kinds make args ≡ Some e → IsReadAs (word ∷ kind ∷ args) e
release {word} {kind} {args} {e} released name kinds make line once t h =
    named (codes "release" ∷ name ∷ []) kinds make line once (word ∷ kind ∷ args) args e
    (rw ((bytes_decides word (codes "release")).0 released, (bytes_decides kind name).0 t) refl) h

-- one test of a chain
either : {A P : Type 0} {e : A} (b : Bool) (x y : Option A) → cond b x y ≡ Some e → (b ≡ true → x ≡ Some e → P) → (y ≡ Some e → P) → P
either true x y h here later = here refl h
either false x y h here later = later h

text_found : (word text : List ℕ) → text_in word ≡ Some text → word ≡ text
text_found word text e = (chosen (is_utf8 word) word text e).1

commit_found : (word : List ℕ) (args : List (List ℕ)) (e : Event) → is word (codes "commit") ≡ true → commit_in args ≡ Some e → IsReadAs (word ∷ args) e
commit_found word [] e t h = absurd cc
commit_found word (first ∷ words) e t h =
    let payload = bound (payload_at first) (λ payload. ids_in words >>= commit_event payload) e h in
    let p = payload_found first payload.0 payload.1 in
    let ids = bound (ids_in words) (commit_event payload.0) e payload.2 in
    let f = ids_found words ids.0 ids.1 in
    let c = chosen (are_distinct ids.0) (events.Commit payload.0 ids.0) e ids.2 in
    subst (IsReadAs (word ∷ first ∷ words)) c.1 (record {
      fits = ((tt, (p.1, f.1)), c.0);
      spell = ((bytes_decides word (codes "commit")).0 t, (p.0, f.0));
    })

release_found : (word : List ℕ) (args : List (List ℕ)) (e : Event) → is word (codes "release") ≡ true → release_in args ≡ Some e → IsReadAs (word ∷ args) e
release_found word [] e t h = absurd cc
release_found word (kind ∷ args) e t h =
    either _ _ _ h (release t (codes "segment") (Id ∷ []) events.ReleaseSegment (λ v. refl) (λ v. tt)) (λ h.
    either _ _ _ h (release t (codes "reader") (Number ∷ []) events.ReleaseReader (λ v. refl) (λ v. tt)) (λ h.
    either _ _ _ h (release t (codes "searcher") (Number ∷ []) events.ReleaseSearcher (λ v. refl) (λ v. tt)) (λ h.
    absurd cc)))

reload_found : (word : List ℕ) (args : List (List ℕ)) (e : Event) → reload_event_by word args ≡ Some e → IsReadAs (word ∷ args) e
reload_found word args e h =
    either _ _ _ h (one (codes "reload") (Number ∷ []) events.Reload (λ v. refl) (λ v. tt)) (λ h.
    either _ _ _ h (one (codes "reload-lock") (Number ∷ []) events.ReloadLock (λ v. refl) (λ v. tt)) (λ h.
    either _ _ _ h (one (codes "reload-open") (Number ∷ []) events.ReloadOpen (λ v. refl) (λ v. tt)) (λ h.
    either _ _ _ h (one (codes "reload-publish") (Number ∷ []) events.ReloadPublish (λ v. refl) (λ v. tt)) (λ h.
    either _ _ _ h (one (codes "deliver") [] events.Deliver (λ v. refl) (λ v. tt)) (λ h.
    absurd cc)))))

event_by_found : (word : List ℕ) (args : List (List ℕ)) (e : Event) → event_by word args ≡ Some e → IsReadAs (word ∷ args) e
event_by_found word args e h =
    either _ _ _ h (one (codes "write") (Id ∷ Component ∷ Bytes ∷ []) events.Write (λ v. refl) (λ v. tt)) (λ h.
    either _ _ _ h (commit_found word args e) (λ h.
    either _ _ _ h (one (codes "segment") (Id ∷ []) events.Segment (λ v. refl) (λ v. tt)) (λ h.
    either _ _ _ h (one (codes "docs") (Id ∷ SmallNumber ∷ []) events.Docs (λ v. refl) (λ v. tt)) (λ h.
    either _ _ _ h (one (codes "deletes") (Id ∷ SmallNumber ∷ []) events.Deletes (λ v. refl) (λ v. tt)) (λ h.
    either _ _ _ h (one (codes "open") (Id ∷ Component ∷ []) events.Open (λ v. refl) (λ v. tt)) (λ h.
    either _ _ _ h (one (codes "seal") (Id ∷ Component ∷ []) events.Seal (λ v. refl) (λ v. tt)) (λ h.
    either _ _ _ h (one (codes "gc") [] events.Gc (λ v. refl) (λ v. tt)) (λ h.
    either _ _ _ h (one (codes "gc-begin") [] events.GcBegin (λ v. refl) (λ v. tt)) (λ h.
    either _ _ _ h (one (codes "gc-step") (Number ∷ []) events.GcStep (λ v. refl) (λ v. tt)) (λ h.
    either _ _ _ h (one (codes "gc-end") (Number ∷ []) events.GcEnd (λ v. refl) (λ v. tt)) (λ h.
    either _ _ _ h (one (codes "managed") [] events.Managed (λ v. refl) (λ v. tt)) (λ h.
    either _ _ _ h (one (codes "validate") [] events.Validate (λ v. refl) (λ v. tt)) (λ h.
    either _ _ _ h (one (codes "reopen") [] events.Reopen (λ v. refl) (λ v. tt)) (λ h.
    either _ _ _ h (one (codes "reader") (Policy ∷ []) events.Reader (λ v. refl) (λ v. tt)) (λ h.
    either _ _ _ h (one (codes "searcher") (Number ∷ []) events.Searcher (λ v. refl) (λ v. tt)) (λ h.
    either _ _ _ h (one (codes "show") (Number ∷ []) events.Show (λ v. refl) (λ v. tt)) (λ h.
    either _ _ _ h (one (codes "bytes") (Number ∷ SmallNumber ∷ Component ∷ []) events.Bytes (λ v. refl) (λ v. tt)) (λ h.
    either _ _ _ h (release_found word args e) (reload_found word args e)))))))))))))))))))

event_found : (words : List (List ℕ)) (e : Event) → event_in words ≡ Some e → IsReadAs words e
event_found [] e h = absurd cc
event_found (word ∷ args) e h =
    let text = bound (text_in word) (λ keyword. event_by keyword args) e h in
    subst (λ (w : List ℕ). IsReadAs (w ∷ args) e) (sym (text_found word text.0 text.1)) (event_by_found text.0 args e text.2)

no_words : {P : Type 0} (e : Event) → AllSpell (line_of e) [] → P
no_words events.Gc spell = absurd spell
no_words other spell = absurd spell

event_by_again : (e : Event) (word : List ℕ) (args : List (List ℕ)) → Fits e → AllSpell (line_of e) (word ∷ args) → event_by word args ≡ Some e
event_by_again (events.Segment id) w args fits spell = rw (spell.0, read_again (Id ∷ []) events.Segment (id, tt) args fits.0.1 spell.1) refl
event_by_again (events.Open id c) w args fits spell = rw (spell.0, read_again (Id ∷ Component ∷ []) events.Open (id, (c, tt)) args fits.0.1 spell.1) refl
event_by_again (events.Write id c bytes) w args fits spell = rw (spell.0, read_again (Id ∷ Component ∷ Bytes ∷ []) events.Write (id, (c, (bytes, tt))) args fits.0.1 spell.1) refl
event_by_again (events.Seal id c) w args fits spell = rw (spell.0, read_again (Id ∷ Component ∷ []) events.Seal (id, (c, tt)) args fits.0.1 spell.1) refl
event_by_again (events.Docs id n) w args fits spell = rw (spell.0, read_again (Id ∷ SmallNumber ∷ []) events.Docs (id, (n, tt)) args fits.0.1 spell.1) refl
event_by_again (events.Deletes id n) w args fits spell = rw (spell.0, read_again (Id ∷ SmallNumber ∷ []) events.Deletes (id, (n, tt)) args fits.0.1 spell.1) refl
event_by_again (events.Commit payload ids) w [] fits spell = absurd spell.1
event_by_again (events.Commit payload ids) w (p ∷ args) fits spell =
    rw (spell.0, payload_again payload p spell.1.0 fits.0.1.0, ids_again ids args fits.0.1.1 spell.1.1, fits.1) refl
event_by_again events.Gc w args fits spell = rw (spell.0, read_again [] events.Gc tt args fits.0.1 spell.1) refl
event_by_again events.GcBegin w args fits spell = rw (spell.0, read_again [] events.GcBegin tt args fits.0.1 spell.1) refl
event_by_again (events.GcStep n) w args fits spell = rw (spell.0, read_again (Number ∷ []) events.GcStep (n, tt) args fits.0.1 spell.1) refl
event_by_again (events.GcEnd n) w args fits spell = rw (spell.0, read_again (Number ∷ []) events.GcEnd (n, tt) args fits.0.1 spell.1) refl
event_by_again (events.Reader policy) w args fits spell = rw (spell.0, read_again (Policy ∷ []) events.Reader (policy, tt) args fits.0.1 spell.1) refl
event_by_again (events.Reload n) w args fits spell = rw (spell.0, read_again (Number ∷ []) events.Reload (n, tt) args fits.0.1 spell.1) refl
event_by_again (events.ReloadLock n) w args fits spell = rw (spell.0, read_again (Number ∷ []) events.ReloadLock (n, tt) args fits.0.1 spell.1) refl
event_by_again (events.ReloadOpen n) w args fits spell = rw (spell.0, read_again (Number ∷ []) events.ReloadOpen (n, tt) args fits.0.1 spell.1) refl
event_by_again (events.ReloadPublish n) w args fits spell = rw (spell.0, read_again (Number ∷ []) events.ReloadPublish (n, tt) args fits.0.1 spell.1) refl
event_by_again events.Deliver w args fits spell = rw (spell.0, read_again [] events.Deliver tt args fits.0.1 spell.1) refl
event_by_again (events.Searcher n) w args fits spell = rw (spell.0, read_again (Number ∷ []) events.Searcher (n, tt) args fits.0.1 spell.1) refl
event_by_again (events.Show n) w args fits spell = rw (spell.0, read_again (Number ∷ []) events.Show (n, tt) args fits.0.1 spell.1) refl
event_by_again (events.Bytes n ord c) w args fits spell = rw (spell.0, read_again (Number ∷ SmallNumber ∷ Component ∷ []) events.Bytes (n, (ord, (c, tt))) args fits.0.1 spell.1) refl
event_by_again (events.ReleaseSegment id) w [] fits spell = absurd spell.1
event_by_again (events.ReleaseSegment id) w (kind ∷ args) fits spell = rw (spell.0, spell.1.0, read_again (Id ∷ []) events.ReleaseSegment (id, tt) args fits.0.1.1 spell.1.1) refl
event_by_again (events.ReleaseReader n) w [] fits spell = absurd spell.1
event_by_again (events.ReleaseReader n) w (kind ∷ args) fits spell = rw (spell.0, spell.1.0, read_again (Number ∷ []) events.ReleaseReader (n, tt) args fits.0.1.1 spell.1.1) refl
event_by_again (events.ReleaseSearcher n) w [] fits spell = absurd spell.1
event_by_again (events.ReleaseSearcher n) w (kind ∷ args) fits spell = rw (spell.0, spell.1.0, read_again (Number ∷ []) events.ReleaseSearcher (n, tt) args fits.0.1.1 spell.1.1) refl
event_by_again events.Managed w args fits spell = rw (spell.0, read_again [] events.Managed tt args fits.0.1 spell.1) refl
event_by_again events.Validate w args fits spell = rw (spell.0, read_again [] events.Validate tt args fits.0.1 spell.1) refl
event_by_again events.Reopen w args fits spell = rw (spell.0, read_again [] events.Reopen tt args fits.0.1 spell.1) refl

-- the word that a line begins with
abbrev pub heading : List LineWord → List ℕ
heading [] = []
heading ((Word text, value) ∷ line) = text
heading ((other, value) ∷ line) = []

pub heading_is : (e : Event) (word : List ℕ) (words : List (List ℕ)) → AllSpell (line_of e) (word ∷ words) → heading (line_of e) ≡ word
heading_is events.Gc word words spell = sym spell.0
heading_is other word words spell = sym spell.0

ascii_of : (bs : List ℕ) → list_all (λ b. nat_lt b 128) bs ≡ true → IsAscii bs
ascii_of [] h k = omega arith
ascii_of (b ∷ bs) h zero = ltb-true b 128 (and_parts (nat_lt b 128) (list_all (λ b. nat_lt b 128) bs) h).0
ascii_of (b ∷ bs) h (suc k) = ascii_of bs (and_parts (nat_lt b 128) (list_all (λ b. nat_lt b 128) bs) h).1 k

heading_is_ascii : (e : Event) → list_all (λ b. nat_lt b 128) (heading (line_of e)) ≡ true
heading_is_ascii events.Gc = refl
heading_is_ascii other = refl

begins_with_text : (e : Event) (word : List ℕ) (args : List (List ℕ)) → AllSpell (line_of e) (word ∷ args) → is_utf8 word ≡ true
begins_with_text e word args spell =
    let ascii : IsAscii word = subst IsAscii (heading_is e word args spell) (ascii_of (heading (line_of e)) (heading_is_ascii e)) in
    is_utf8-from_IsUtf8 word (IsUtf8-from_ascii word ascii)

event_again : (e : Event) (words : List (List ℕ)) → Fits e → AllSpell (line_of e) words → event_in words ≡ Some e
event_again e [] fits spell = no_words e spell
event_again e (word ∷ args) fits spell = rw (begins_with_text e word args spell) (event_by_again e word args fits spell)

-- ---- lines

pub line_found : (text : List ℕ) (ws : List (List ℕ)) (o : Option Event) → length text ≤ line_limit → ws ≡ slice_split is_space text → o ≡ event_in ws → IfSome o (IsLine text)
line_found text ws None short split read = tt
line_found text ws (Some e) short split read =
    let r = event_found ws e (sym read) in
    record { short = short; fits = r.fits; words = ws; spell = r.spell; joined = sym (join_with_byte-slice_split 32 text) ∙ ap (join_with_byte 32) (sym split) }

split_words : (e : Event) (words : List (List ℕ)) → Fits e → AllSpell (line_of e) words → slice_split is_space (join_with_byte 32 words) ≡ words
split_words e [] fits spell = no_words e spell
split_words e (word ∷ words) fits spell = split_joined word words (no_spaces (line_of e) (word ∷ words) (plain_words e) fits.0 spell)

-- the words of an event's line, which stand one space apart
pub words_of_line : (text : List ℕ) (e : Event) (line : IsLine text e) → slice_split is_space text ≡ line.words
words_of_line text e line = ap (slice_split is_space) line.joined ∙ split_words e line.words line.fits line.spell

pub line_only : (text : List ℕ) (ws : List (List ℕ)) (o : Option Event) → ws ≡ slice_split is_space text → o ≡ event_in ws → (e : Event) → IsLine text e → o ≡ Some e
line_only text ws o split read e line =
    read ∙ ap event_in (split ∙ words_of_line text e line) ∙ event_again e line.words line.fits line.spell
