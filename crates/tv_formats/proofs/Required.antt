-- The files that segments require: how their names begin, and which there are after segments came or went.
use Rattle.std.proofs.Common.{◌≡◌, ℕ, Bool, true, false, true≢false, ◌||◌, cond, List, [], ◌∷◌, ◌++◌, map, filter, codes, Option, Some, refl, sym, ap, subst, ◌∙◌, arith, append-nil, append_assoc, nat_eq}
use Rattle.std.specs.Prelude.{nat_lt}
use Rattle.std.proofs.lemmas.List.Concat.{flat_map-append}
use Rattle.std.specs.declared.cmp.Ordering.TheVariants.{Less, Equal, Greater}
use Rattle.std.specs.Ordering.{is_eq, match_ordering}
use Rattle.std.specs.Fmt.{decimal}
use Rattle.std.specs.List.{starts_with, flat_map, AllByRecursion}
use Rattle.std.specs.Map.{lookup, remove_entry}
use Rattle.std.specs.BTreeMap.{is_at, insert_entry}
use Rattle.std.proofs.Math.Seq.{take-append_seam}
use Rattle.std.proofs.lemmas.Bool.{or_right}
use Rattle.hex.specs.Hex.{encode_lower}
use Rattle.tv_formats.specs.declared.segment.DeleteMeta.{DeleteMeta}
use Rattle.tv_formats.specs.declared.segment.LiveSegment.{LiveSegment}
use Rattle.tv_formats.specs.declared.segment.SegmentComponent.{SegmentComponent}
use Rattle.tv_formats.specs.declared.segment.SegmentComponent.TheVariants.{Postings, Positions, FastFields, FieldNorms, Terms, Store, Delete}
use Rattle.tv_formats.specs.Names.{byte_cmp, is, has, at}
use Rattle.tv_formats.specs.Segments.{components, name_of, extension, is_delete, delete_opstamp, num_deleted, required_components, required_names, all_required, is_named}
use Rattle.tv_formats.specs.Commits.{Commit, required_by}
use Rattle.tv_formats.specs.Files.{Reads}
use Rattle.tv_formats.specs.Footer.{IsGood}
use Rattle.tv_formats.specs.Sound.{HasFiles}
use Rattle.tv_formats.proofs.Entries.{is_text, is_itself, text_at}
use Rattle.tv_formats.proofs.CollectedNames.{has_append}

-- what follows from either of two tests
pub by_one : {P : Type 0} (a b : Bool) → (a || b) ≡ true → (a ≡ true → P) → (b ≡ true → P) → P
by_one true b h first second = first refl
by_one false b h first second = second h

-- ---- the files that a commit requires

-- one commit requires the files of its segments
pub required_by_one : (commit : Commit) → required_by (commit ∷ []) ≡ all_required commit.segments
required_by_one commit = append-nil (all_required commit.segments)

-- its files are there where all are that it requires
pub has_files_of : (reads : Reads) (commit : Commit) → HasFiles reads (commit ∷ [])
    → (n : List ℕ) → has (all_required commit.segments) n ≡ true
    → (bytes : List ℕ) × (reads n ≡ Some bytes) × IsGood bytes
has_files_of reads commit h n required =
    h.each n (ap (λ (names : List (List ℕ)). has names n) (required_by_one commit) ∙ required)

-- and all are where its files are
pub has_files_from : (reads : Reads) (commit : Commit)
    → ((n : List ℕ) → has (all_required commit.segments) n ≡ true
    → (bytes : List ℕ) × (reads n ≡ Some bytes) × IsGood bytes) → HasFiles reads (commit ∷ [])
has_files_from reads commit h = record {
  each = λ n required.
      h n (ap (λ (names : List (List ℕ)). has names n) (sym (required_by_one commit)) ∙ required);
}

-- ---- how names begin

-- a text begins with an id
abbrev pub Begins : List ℕ → List ℕ → Type 0
Begins id n = (rest : List ℕ) × (n ≡ encode_lower id ++ rest)

either_begins : (b : Bool) (id number word : List ℕ) → Begins id (cond b (encode_lower id ++ codes "." ++ number ++ codes ".del") (encode_lower id ++ codes "." ++ word))
either_begins true id number word =
    (codes "." ++ number ++ codes ".del", ap (λ (l : List ℕ). l ++ codes ".del") (append_assoc (encode_lower id) (codes ".") number) ∙ append_assoc (encode_lower id) (codes "." ++ number) (codes ".del"))
either_begins false id number word = (codes "." ++ word, append_assoc (encode_lower id) (codes ".") word)

pub name_begins : (id : List ℕ) (deletes : Option DeleteMeta) (component : SegmentComponent) → Begins id (name_of id deletes component)
name_begins id deletes component = either_begins (is_delete component) id (decimal (delete_opstamp deletes)) (extension component)

pub names_begin : (id : List ℕ) (deletes : Option DeleteMeta) (those : List SegmentComponent) (n : List ℕ) → has (map (name_of id deletes) those) n ≡ true → Begins id n
names_begin id deletes [] n h = absurd (true≢false (sym h))
names_begin id deletes (component ∷ those) n h =
    by_one (is (name_of id deletes component) n) (has (map (name_of id deletes) those) n) h
    (λ same. let b = name_begins id deletes component in (b.0, sym (is_text (name_of id deletes component) n same) ∙ b.1)) (names_begin id deletes those n)

pub required_begins : (e : List ℕ × LiveSegment) (n : List ℕ) → has (required_names e.0 e.1) n ≡ true → Begins e.0 n
required_begins e n h = names_begin e.0 e.1.deletes (required_components e.1) n h

begins_with : (id name rest : List ℕ) → name ≡ encode_lower id ++ rest → starts_with nat_eq name (encode_lower id) ≡ true
begins_with id name rest e = rw (e, take-append_seam (encode_lower id) rest) (is_itself (encode_lower id))

-- a managed name that begins with an id
pub begins_named : (managed : List (List ℕ)) (id n : List ℕ) → Begins id n → has managed n ≡ true → is_named managed id ≡ true
begins_named [] id n b h = absurd (true≢false (sym h))
begins_named (name ∷ managed) id n b h =
    by_one (is name n) (has managed n) h
    (λ same. ap (λ (first : Bool). first || is_named managed id) (begins_with id name b.0 (is_text name n same ∙ b.1)))
    (λ more. or_right (starts_with nat_eq name (encode_lower id)) _ (begins_named managed id n b more))

-- ---- names that belong to segments

-- where a segment was put, a name is one of its own or was there before
pub names_put : (f : List ℕ × LiveSegment → List (List ℕ)) (es : List (List ℕ × LiveSegment)) (id : List ℕ) (segment : LiveSegment) (n : List ℕ)
    → has (flat_map f (insert_entry byte_cmp es id segment)) n ≡ true → (has (f (id, segment)) n || has (flat_map f es) n) ≡ true
names_put f [] id segment n h = sym (has_append (f (id, segment)) [] n) ∙ h
names_put f (e ∷ es) id segment n h =
    elim (byte_cmp id e.0) as (λ r. byte_cmp id e.0 ≡ r → has (flat_map f (match_ordering r ((id, segment) ∷ e ∷ es) ((e.0, segment) ∷ es) (e ∷ insert_entry byte_cmp es id segment))) n ≡ true → (has (f (id, segment)) n || has (flat_map f (e ∷ es)) n) ≡ true) [
      | Less ↦ λ r k. sym (has_append (f (id, segment)) (flat_map f (e ∷ es)) n) ∙ k
      | Equal ↦ λ r k.
          let key : id ≡ e.0 = text_at id e.0 (ap is_eq r) in
          rw key (grind (arith, k, has_append (f (e.0, segment)) (flat_map f es) n, has_append (f e) (flat_map f es) n))
      | Greater ↦ λ r k.
          grind (arith, k, has_append (f e) (flat_map f (insert_entry byte_cmp es id segment)) n, has_append (f e) (flat_map f es) n, names_put f es id segment n)
    ] refl h

-- the names of a segment are among those of all
pub names_found : (f : List ℕ × LiveSegment → List (List ℕ)) (es : List (List ℕ × LiveSegment)) (id : List ℕ) (segment : LiveSegment) (n : List ℕ) → at es id ≡ Some segment → has (f (id, segment)) n ≡ true → has (flat_map f es) n ≡ true
names_found f [] id segment n e h = absurd cc
names_found f (x ∷ es) id segment n e h =
    has_append (f x) (flat_map f es) n
    ∙ (elim (is_at (byte_cmp id) x.0) as (λ b. is_at (byte_cmp id) x.0 ≡ b → cond b (Some x.1) (lookup (is_at (byte_cmp id)) es) ≡ Some segment → (has (f x) n || has (flat_map f es) n) ≡ true) [
      | true ↦ λ same k.
          let key : id ≡ x.0 = text_at id x.0 same in
          let value : x.1 ≡ segment = cc in
          let first : has (f (x.0, x.1)) n ≡ true =
          subst (λ (v : LiveSegment). has (f (x.0, v)) n ≡ true) (sym value) (subst (λ (m : List ℕ). has (f (m, segment)) n ≡ true) key h) in
          ap (λ (b : Bool). b || has (flat_map f es) n) first
      | false ↦ λ other k. or_right (has (f x) n) _ (names_found f es id segment n k h)
    ] refl e)

-- some of the segments have some of the names
pub names_some : (f : List ℕ × LiveSegment → List (List ℕ)) (test : List ℕ × LiveSegment → Bool) (es : List (List ℕ × LiveSegment)) (n : List ℕ) → has (flat_map f (filter test es)) n ≡ true → has (flat_map f es) n ≡ true
names_some f test [] n h = h
names_some f test (e ∷ es) n h =
    has_append (f e) (flat_map f es) n
    ∙ (elim (test e) as (λ b. has (flat_map f (cond b (e ∷ filter test es) (filter test es))) n ≡ true → (has (f e) n || has (flat_map f es) n) ≡ true) [
      | true ↦ λ k. grind (arith, k, has_append (f e) (flat_map f (filter test es)) n, names_some f test es n)
      | false ↦ λ k. or_right (has (f e) n) _ (names_some f test es n k)
    ] h)

-- and so have those that are left
pub names_left : (f : List ℕ × LiveSegment → List (List ℕ)) (test : List ℕ → Bool) (es : List (List ℕ × LiveSegment)) (n : List ℕ) → has (flat_map f (remove_entry test es)) n ≡ true → has (flat_map f es) n ≡ true
names_left f test [] n h = h
names_left f test (e ∷ es) n h =
    has_append (f e) (flat_map f es) n
    ∙ (elim (test e.0) as (λ b. has (flat_map f (cond b es (e ∷ remove_entry test es))) n ≡ true → (has (f e) n || has (flat_map f es) n) ≡ true) [
      | true ↦ λ k. or_right (has (f e) n) _ k
      | false ↦ λ k. grind (arith, k, has_append (f e) (flat_map f (remove_entry test es)) n, names_left f test es n)
    ] h)

-- the names of some segments and of others
pub names_both : (f : List ℕ × LiveSegment → List (List ℕ)) (es others : List (List ℕ × LiveSegment)) (n : List ℕ) → has (flat_map f (es ++ others)) n ≡ (has (flat_map f es) n || has (flat_map f others) n)
names_both f es others n = ap (λ (l : List (List ℕ)). has l n) (flat_map-append f es others) ∙ has_append (flat_map f es) (flat_map f others) n

-- ---- which names are required

abbrev required : List ℕ × LiveSegment → List (List ℕ)
required e = required_names e.0 e.1

-- where a segment was put, a required name is one of its own or was required before
pub required_put : (es : List (List ℕ × LiveSegment)) (id : List ℕ) (segment : LiveSegment) (n : List ℕ)
    → has (all_required (insert_entry byte_cmp es id segment)) n ≡ true → (has (required_names id segment) n || has (all_required es) n) ≡ true
required_put es id segment n h = names_put required es id segment n h

-- the files of a segment are among those of all
pub required_found : (es : List (List ℕ × LiveSegment)) (id : List ℕ) (segment : LiveSegment) (n : List ℕ) → at es id ≡ Some segment → has (required_names id segment) n ≡ true → has (all_required es) n ≡ true
required_found es id segment n e h = names_found required es id segment n e h

-- some of the segments require some of the files
pub required_some : (test : List ℕ × LiveSegment → Bool) (es : List (List ℕ × LiveSegment)) (n : List ℕ) → has (all_required (filter test es)) n ≡ true → has (all_required es) n ≡ true
required_some test es n h = names_some required test es n h

-- and so do those that are left
pub required_left : (test : List ℕ → Bool) (es : List (List ℕ × LiveSegment)) (n : List ℕ) → has (all_required (remove_entry test es)) n ≡ true → has (all_required es) n ≡ true
required_left test es n h = names_left required test es n h

-- ---- other deletes of a segment

-- which names are among seven that differ in the last one
last_differs : (a b c d e f g h : Bool) → (a || (b || (c || (d || (e || (f || (g || false))))))) ≡ true → (g || (a || (b || (c || (d || (e || (f || (h || false)))))))) ≡ true
last_differs a b c d e f g h k = grind (arith, k)

-- a segment with other deletes has its names and that of a delete file
pub names_deleted : (id : List ℕ) (old new : Option DeleteMeta) (n : List ℕ) → has (map (name_of id new) components) n ≡ true → (is (name_of id new Delete) n || has (map (name_of id old) components) n) ≡ true
names_deleted id old new n h =
    last_differs (is (name_of id new Postings) n) (is (name_of id new Positions) n) (is (name_of id new FastFields) n) (is (name_of id new FieldNorms) n)
    (is (name_of id new Terms) n) (is (name_of id new Store) n) (is (name_of id new Delete) n) (is (name_of id old Delete) n) h

-- and requires of these what it required, or that file
either_required : (id : List ℕ) (old new : Option DeleteMeta) (first second : Bool) (n : List ℕ)
    → has (map (name_of id new) (Postings ∷ Positions ∷ FastFields ∷ FieldNorms ∷ Terms ∷ Store ∷ (cond first (Delete ∷ []) []))) n ≡ true
    → (is (name_of id new Delete) n || has (map (name_of id old) (Postings ∷ Positions ∷ FastFields ∷ FieldNorms ∷ Terms ∷ Store ∷ (cond second (Delete ∷ []) []))) n) ≡ true
either_required id old new true true n h = names_deleted id old new n h
either_required id old new true false n h = grind (arith, h)
either_required id old new false true n h = grind (arith, h)
either_required id old new false false n h = or_right (is (name_of id new Delete) n) _ h

pub required_deleted : (id : List ℕ) (segment : LiveSegment) (new : Option DeleteMeta) (n : List ℕ)
    → has (required_names id (record segment { deletes = new })) n ≡ true → (is (name_of id new Delete) n || has (required_names id segment) n) ≡ true
required_deleted id segment new n h = either_required id segment.deletes new (nat_lt 0 (num_deleted new)) (nat_lt 0 (num_deleted segment.deletes)) n h

-- ---- what holds of each segment

pub each_put : (P : LiveSegment → Type 0) (es : List (List ℕ × LiveSegment)) (id : List ℕ) (segment : LiveSegment) → AllByRecursion (λ e. P e.1) es → P segment → AllByRecursion (λ e. P e.1) (insert_entry byte_cmp es id segment)
each_put P [] id segment h p = (p, tt)
each_put P (e ∷ es) id segment h p =
    elim (byte_cmp id e.0) as (λ r. AllByRecursion (λ x. P x.1) (match_ordering r ((id, segment) ∷ e ∷ es) ((e.0, segment) ∷ es) (e ∷ insert_entry byte_cmp es id segment))) [
      | Less ↦ (p, h)
      | Equal ↦ (p, h.1)
      | Greater ↦ (h.0, each_put P es id segment h.1 p)
    ]

pub each_some : (P : LiveSegment → Type 0) (test : List ℕ × LiveSegment → Bool) (es : List (List ℕ × LiveSegment)) → AllByRecursion (λ e. P e.1) es → AllByRecursion (λ e. P e.1) (filter test es)
each_some P test [] h = tt
each_some P test (e ∷ es) h =
    elim (test e) as (λ b. AllByRecursion (λ x. P x.1) (cond b (e ∷ filter test es) (filter test es))) [
      | true ↦ (h.0, each_some P test es h.1)
      | false ↦ each_some P test es h.1
    ]

pub each_left : (P : LiveSegment → Type 0) (test : List ℕ → Bool) (es : List (List ℕ × LiveSegment)) → AllByRecursion (λ e. P e.1) es → AllByRecursion (λ e. P e.1) (remove_entry test es)
each_left P test [] h = tt
each_left P test (e ∷ es) h =
    elim (test e.0) as (λ b. AllByRecursion (λ x. P x.1) (cond b es (e ∷ remove_entry test es))) [
      | true ↦ h.1
      | false ↦ (h.0, each_left P test es h.1)
    ]
