-- What is stored around the commit of a run, and how lines are counted, computed.
use Rattle.std.proofs.Common.{◌≡◌, ◌++◌, ℕ, true, false, true≢false, cond, List, [], ◌∷◌, Option, Some, None, refl, sym, ap, subst, ◌∙◌, codes, inl, inr}
use Rattle.std.specs.Prelude.{IsSome, is_some}
use Rattle.std.specs.Fmt.{digits}
use Rattle.std.specs.List.Sorted.{IsStrictlySortedBy}
use Rattle.json.proofs.Printed.Utf8.{IsUtf8-are_ascii}
use Rattle.hex.specs.Hex.{encode_with}
use Rattle.tv_formats.specs.Commits.{IndexForm, default_settings, first_commit}
use Rattle.tv_formats.specs.Disk.{DiskState, Absent, Sealed, IsThere, MayRead, Disk}
use Rattle.tv_formats.specs.Files.{Heard, Reads}
use Rattle.tv_formats.specs.Footer.{sealed}
use Rattle.tv_formats.specs.Listing.{IsListOf, Lists, list_text}
use Rattle.tv_formats.specs.Meaning.{Means}
use Rattle.tv_formats.specs.Names.{has, is, is_undotted, list_name, meta_name}
use Rattle.tv_formats.specs.Sound.{IsSoundImage, IsSoundMeta}
use Rattle.tv_formats.proofs.Entries.{is_text}
use Rattle.tv_formats.proofs.FirstSound.{empty_sound}
use Rattle.tv_formats.proofs.ListTexts.{written_is_list}
use Rattle.tv_formats.proofs.Samples.{id_a}
use Rattle.tv_machine.specs.Index.{first_state}
use Rattle.tv_crashes.specs.Runs.{stored_at}
use Rattle.tv_crashes.specs.Stored.{IsFromStart, IsSafe, ShowsWhole, StateMeans, stored_of}
use Rattle.tv_crashes.specs.Told.{count_told_by, whole_lines}
use Rattle.tv_machine.proofs.Samples.{first_script}

-- ---- the lines that were told

-- two whole lines, and a first part of a third one
abbrev three_pieces : Heard
three_pieces = (3, codes "open 0 0" ++ 10 ∷ []) ∷ (5, codes "commit 1 0" ++ 10 ∷ []) ∷ (7, codes "commit 2") ∷ []

pub lines_are : whole_lines three_pieces ≡ (codes "open 0 0" ++ 10 ∷ []) ∷ (codes "commit 1 0" ++ 10 ∷ []) ∷ []
lines_are = refl

pub none_at_first : count_told_by 2 three_pieces ≡ 0
none_at_first = refl

pub one_then : count_told_by 4 three_pieces ≡ 1
one_then = refl

-- each at its own moment already
pub first_at_once : count_told_by 3 three_pieces ≡ 1
first_at_once = refl

pub second_at_once : count_told_by 5 three_pieces ≡ 2
second_at_once = refl

pub part_counts_none : count_told_by 7 three_pieces ≡ 2
part_counts_none = refl

-- ---- a run stopped around its commit

-- up to the commit's event the empty commit is stored
pub stored_before : (form : IndexForm) → (stored_at form first_state first_script 15).commit ≡ first_commit
unfolding encode_with digits
stored_before form = refl

-- that event leaves the first commit, of one segment
pub stored_after : (form : IndexForm) → (stored_at form first_state first_script 16).commit ≡ record { opstamp = 1; payload = None; segments = (id_a, record { max_doc = 3; deletes = None }) ∷ [] }
unfolding encode_with digits
stored_after form = refl

-- an image that shows it has the bytes that were written to its postings, with their footer, and its other files are empty but for theirs
pub files_after : (form : IndexForm) (image : Reads) → ShowsWhole image (stored_at form first_state first_script 16)
    → (image (codes "a5c4dfcbdfe645089129e308e26d5523.idx") ≡ Some (sealed (codes "123456789"))) × (image (codes "a5c4dfcbdfe645089129e308e26d5523.pos") ≡ Some (sealed []))
    × (image (codes "a5c4dfcbdfe645089129e308e26d5523.fast") ≡ Some (sealed [])) × (image (codes "a5c4dfcbdfe645089129e308e26d5523.fieldnorm") ≡ Some (sealed []))
    × (image (codes "a5c4dfcbdfe645089129e308e26d5523.term") ≡ Some (sealed [])) × (image (codes "a5c4dfcbdfe645089129e308e26d5523.store") ≡ Some (sealed []))
unfolding encode_with digits
files_after form image shows =
    let idx = shows.files (codes "a5c4dfcbdfe645089129e308e26d5523.idx") refl in
    let pos = shows.files (codes "a5c4dfcbdfe645089129e308e26d5523.pos") refl in
    let fast = shows.files (codes "a5c4dfcbdfe645089129e308e26d5523.fast") refl in
    let fieldnorm = shows.files (codes "a5c4dfcbdfe645089129e308e26d5523.fieldnorm") refl in
    let term = shows.files (codes "a5c4dfcbdfe645089129e308e26d5523.term") refl in
    let store = shows.files (codes "a5c4dfcbdfe645089129e308e26d5523.store") refl in
    (idx.2 ∙ sym idx.1, pos.2 ∙ sym pos.1, fast.2 ∙ sym fast.1, fieldnorm.2 ∙ sym fieldnorm.1, term.2 ∙ sym term.1, store.2 ∙ sym store.1)

-- ---- an opening of an empty disk, stopped

-- a disk without files
abbrev empty_disk : Disk
empty_disk = record { moment = 0; now = λ n. Absent; possible = λ x n s. s ≡ Absent }

-- a sound image in which no `meta.json` was written is from such a start
pub none_written : (schema : List ℕ) (image : Reads) → IsSoundImage schema image → image meta_name ≡ None → IsFromStart schema empty_disk image
none_written schema image sound none = record {
  sound = sound;
  commit = inl ((λ n. None), record { each = λ n. (Absent, refl, refl) }, record { meta = none; files = λ settings text commit some. absurd (cc (none, some)) });
}

pub nothing_written : (schema : List ℕ) → IsFromStart schema empty_disk (λ n. None)
nothing_written schema = none_written schema (λ n. None) (empty_sound schema (λ n. None) (λ n. refl)) refl

-- what is read once the list is written, which names `meta.json`: this text of it, or none so far
abbrev opening_reads : (meta : Option (List ℕ)) → Reads
opening_reads meta n = cond (is n meta_name) meta (cond (is n list_name) (Some (list_text (meta_name ∷ []))) None)

list_is : IsListOf (list_text (meta_name ∷ [])) (meta_name ∷ [])
unfolding IsStrictlySortedBy
list_is = written_is_list (meta_name ∷ []) ((refl, IsUtf8-are_ascii meta_name refl), tt) (tt, tt)

undotted_read : (meta : Option (List ℕ)) (n : List ℕ) → is_undotted n ≡ true → IsSome (opening_reads meta n) → has (meta_name ∷ []) n ≡ true
undotted_read meta n undotted some = elim (is n meta_name) as (λ b. is n meta_name ≡ b → has (meta_name ∷ []) n ≡ true) [
  | true ↦ λ e. ap (has (meta_name ∷ [])) (is_text n meta_name e)
  | false ↦ λ e. elim (is n list_name) as (λ b. is n list_name ≡ b → has (meta_name ∷ []) n ≡ true) [
    | true ↦ λ k. absurd (true≢false (sym undotted ∙ ap is_undotted (is_text n list_name k)))
    | false ↦ λ k. let none : opening_reads meta n ≡ None = rw (e, k) refl in absurd (true≢false (sym some ∙ ap is_some none))
  ] refl
] refl

opening_sound : (schema : List ℕ) (meta : Option (List ℕ)) → IsSoundMeta schema (opening_reads meta) meta → IsSoundImage schema (opening_reads meta)
opening_sound schema meta of = record { names = meta_name ∷ []; listing = list_is; listed = undotted_read meta; commit = of }

-- the list alone was written
pub list_written : (schema : List ℕ) → IsFromStart schema empty_disk (opening_reads None)
list_written schema = none_written schema (opening_reads None) (opening_sound schema None tt) refl

-- `meta.json` was written too, with the commit of a new index
pub meta_written : (schema text : List ℕ) → Means default_settings schema text first_commit → IsFromStart schema empty_disk (opening_reads (Some text))
meta_written schema text means = record {
  sound = opening_sound schema (Some text) (default_settings, first_commit, means, record { each = λ n needs. absurd (true≢false (sym needs)) });
  commit = inr (refl, (text, refl, means));
}

-- ---- an index that was just made

-- how the names stand then: `meta.json` has this text, which the list names, and there is no other file
abbrev new_states : (text n : List ℕ) → DiskState
new_states text n = cond (is n meta_name) (Sealed text) (cond (is n list_name) (Sealed (list_text (meta_name ∷ []))) Absent)

-- no other file without a dot in front is there
undotted_there : (text n : List ℕ) → is_undotted n ≡ true → IsThere (new_states text n) → n ≡ meta_name
undotted_there text n undotted there = elim (is n meta_name) as (λ b. is n meta_name ≡ b → n ≡ meta_name) [
  | true ↦ λ e. is_text n meta_name e
  | false ↦ λ e. elim (is n list_name) as (λ b. is n list_name ≡ b → n ≡ meta_name) [
    | true ↦ λ k. absurd (true≢false (sym undotted ∙ ap is_undotted (is_text n list_name k)))
    | false ↦ λ k. let none : new_states text n ≡ Absent = rw (e, k) refl in absurd (subst IsThere none there)
  ] refl
] refl

list_read : (text : List ℕ) (l : DiskState) (read : Option (List ℕ)) → l ≡ new_states text list_name → MayRead l read → Lists read (meta_name ∷ [])
list_read text l read left may =
    let e : read ≡ Some (list_text (meta_name ∷ [])) = subst (λ (s : DiskState). MayRead s read) left may in
    subst (λ (r : Option (List ℕ)). Lists r (meta_name ∷ [])) (sym e) list_is

-- its commit is stored, and the list forgets no file
pub new_index_is_safe : (form : IndexForm) (text : List ℕ) → Means form.settings form.schema text first_commit → IsSafe (stored_of form first_state) (stored_of form first_state) (λ n s. s ≡ new_states text n)
new_index_is_safe form text means = record {
  listed = record {
    lists = λ file of_list l left read may. (meta_name ∷ [], list_read text l read (left ∙ ap (new_states text) of_list) may);
    each = λ n undotted s stands there. (
      list_name,
      refl,
      λ l left read may. (meta_name ∷ [], list_read text l read left may, ap (has (meta_name ∷ [])) (undotted_there text n undotted (subst IsThere stands there))),
    );
  };
  stored = record {
    each = λ meta stands. inl (
      subst (λ (s : DiskState). StateMeans s (stored_of form first_state)) (sym stands) means,
      record { each = λ n needs. absurd (true≢false (sym needs)) },
    );
  };
}
