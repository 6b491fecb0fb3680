-- The segments that go through the registers of a writer, and those that come out.
use Rattle.std.proofs.Common.{◌≡◌, ℕ, Bool, true, false, cond, List, [], ◌∷◌, ◌++◌, map, refl, sym, ap, subst, ◌∙◌, append-nil, append_assoc}
use Rattle.std.specs.List.{AllByRecursion, filter}
use Rattle.std.specs.List.Sorted.{IsStrictlySortedBy}
use Rattle.std.specs.declared.cmp.Ordering.TheVariants.{Less, Equal, Greater}
use Rattle.std.specs.Ordering.{match_ordering}
use Rattle.std.specs.BTreeMap.{insert_entry}
use Rattle.std.specs.BTreeSet.{insert_key}
use Rattle.tv_formats.specs.declared.segment.LiveSegment.{LiveSegment}
use Rattle.tv_formats.specs.Names.{byte_cmp}
use Rattle.tv_formats.proofs.Entries.{sorted_put}
use Rattle.tv_metas.specs.TrackedMetas.{put_all}
use Rattle.tv_registers.specs.Registers.{Counted, EntryState, Register, id_of, is_living, living_in, metas_in, put, put_each, with_each, with_entry}
use Rattle.tv_catalog.specs.Choosing.{is_within, with_documents, with_segment}
use Rattle.tv_snapshots.specs.SegmentOrder.{IsSorted}
use Rattle.tv_catalog.proofs.ChosenSegments.{Entry, before_filtered, put_passing}
use Rattle.tv_snapshots.proofs.SegmentOrder.{next_entry}
use Rattle.tv_catalog.proofs.SharedLaws.{all_put}

-- what a commit has of the segments of a register
abbrev plain : Register → List Entry
plain register = map (λ e. (e.0, e.1.meta.1.1)) register

abbrev segments_of : List EntryState → List Entry
segments_of entries = map (λ e. e.meta.1) entries

plain_put : (entry : EntryState) (register : Register) → plain (put entry register) ≡ insert_entry byte_cmp (plain register) (id_of entry) entry.meta.1.1
plain_put entry [] = refl
plain_put entry (e ∷ es) =
    elim (byte_cmp (id_of entry) e.0) as (λ r. plain (match_ordering r ((id_of entry, entry) ∷ e ∷ es) ((e.0, entry) ∷ es) (e ∷ put entry es))
    ≡ match_ordering r ((id_of entry, entry.meta.1.1) ∷ plain (e ∷ es)) ((e.0, entry.meta.1.1) ∷ plain es) ((e.0, e.1.meta.1.1) ∷ insert_entry byte_cmp (plain es) (id_of entry) entry.meta.1.1)) [
      | Less ↦ refl
      | Equal ↦ refl
      | Greater ↦ ap (λ (fs : List Entry). (e.0, e.1.meta.1.1) ∷ fs) (plain_put entry es)
    ]

plain_each : (entries : List EntryState) (register : Register) → plain (put_each entries register) ≡ put_all (plain register) (segments_of entries)
plain_each [] register = refl
plain_each (e ∷ entries) register = plain_each entries (put e register) ∙ ap (λ (es : List Entry). put_all es (segments_of entries)) (plain_put e register)

-- which segments come in doesn't depend on the inventory
pub each_put : (entries : List EntryState) (c : Counted) → (with_each entries c).0 ≡ put_each entries c.0
each_put [] c = refl
each_put (e ∷ entries) c = each_put entries (with_entry e c)

-- ---- each segment stands under its id

abbrev IsUnderId : List ℕ × EntryState → Type 0
IsUnderId e = e.0 ≡ id_of e.1

under_ids : (entries : List EntryState) (register : Register) → AllByRecursion IsUnderId register → AllByRecursion IsUnderId (put_each entries register)
under_ids [] register h = h
under_ids (e ∷ entries) register h = under_ids entries (put e register) (all_put IsUnderId register (id_of e) e refl h)

shown : (register : Register) → AllByRecursion IsUnderId register → map (λ m. m.1) (metas_in (living_in register)) ≡ with_documents (plain register)
shown [] h = refl
shown (e ∷ es) h =
    elim (is_living e.1) as (λ b. map (λ m. m.1) (metas_in (cond b (e ∷ living_in es) (living_in es))) ≡ cond b ((e.0, e.1.meta.1.1) ∷ with_documents (plain es)) (with_documents (plain es))) [
      | true ↦
          ap (λ (id : List ℕ). (id, e.1.meta.1.1) ∷ map (λ m. m.1) (metas_in (living_in es))) (sym h.0)
          ∙ ap (λ (fs : List Entry). (e.0, e.1.meta.1.1) ∷ fs) (shown es h.1)
      | false ↦ shown es h.1
    ]

-- ---- the order of the ids

none_sorted : IsSorted []
unfolding IsStrictlySortedBy
none_sorted = tt

ids_put : (es : List Entry) (id : List ℕ) (segment : LiveSegment) → map (λ e. e.0) (insert_entry byte_cmp es id segment) ≡ insert_key byte_cmp (map (λ e. e.0) es) id
ids_put [] id segment = refl
ids_put (e ∷ es) id segment =
    elim (byte_cmp id e.0) as (λ r. map (λ (x : Entry). x.0) (match_ordering r ((id, segment) ∷ e ∷ es) ((e.0, segment) ∷ es) (e ∷ insert_entry byte_cmp es id segment))
    ≡ match_ordering r (id ∷ e.0 ∷ map (λ x. x.0) es) (e.0 ∷ map (λ x. x.0) es) (e.0 ∷ insert_key byte_cmp (map (λ x. x.0) es) id)) [
      | Less ↦ refl
      | Equal ↦ refl
      | Greater ↦ ap (λ (l : List (List ℕ)). e.0 ∷ l) (ids_put es id segment)
    ]

all_sorted : (es found : List Entry) → IsSorted found → IsSorted (put_all found es)
all_sorted [] found o = o
all_sorted (e ∷ es) found o =
    all_sorted es (insert_entry byte_cmp found e.0 e.1)
    (subst (IsStrictlySortedBy byte_cmp) (sym (ids_put found e.0 e.1)) (sorted_put (map (λ x. x.0) found) e.0 o))

filtered_sorted : (p : Entry → Bool) (es : List Entry) → IsSorted es → IsSorted (filter p es)
unfolding IsStrictlySortedBy
filtered_sorted p [] o = tt
filtered_sorted p (e ∷ es) o =
    elim (p e) as (λ b. IsSorted (cond b (e ∷ filter p es) (filter p es))) [
      | true ↦ (before_filtered p es e.0 o.0, filtered_sorted p es o.1)
      | false ↦ filtered_sorted p es o.1
    ]

-- segments in this order are put behind one another
rebuilt : (es front : List Entry) → IsSorted (front ++ es) → put_all front es ≡ front ++ es
rebuilt [] front o = sym (append-nil front)
rebuilt (e ∷ es) front o =
    let joined : (front ++ e ∷ []) ++ es ≡ front ++ e ∷ es = append_assoc front (e ∷ []) es in
    ap (λ (fs : List Entry). put_all fs es) (next_entry front e es o)
    ∙ rebuilt es (front ++ e ∷ []) (subst IsSorted (sym joined) o)
    ∙ joined

-- ---- what the code says

-- the committed segments that have living documents are those of what was put in
pub committed : (entries : List EntryState) → put_all [] (map (λ m. m.1) (metas_in (living_in (put_each entries [])))) ≡ with_documents (put_all [] (segments_of entries))
committed entries =
    let all : List Entry = put_all [] (segments_of entries) in
    ap (put_all []) (shown (put_each entries []) (under_ids entries [] tt) ∙ ap with_documents (plain_each entries []))
    ∙ rebuilt (with_documents all) [] (filtered_sorted _ all (all_sorted (segments_of entries) [] none_sorted))

one_put : (es found : List Entry) (id : List ℕ) (segment : LiveSegment) → put_all found (es ++ (id, segment) ∷ []) ≡ insert_entry byte_cmp (put_all found es) id segment
one_put [] found id segment = refl
one_put (e ∷ es) found id segment = one_put es (insert_entry byte_cmp found e.0 e.1) id segment

-- one segment more
pub added : (segments : List Entry) (id : List ℕ) (segment : LiveSegment) → put_all [] (with_segment segments id segment) ≡ put_passing is_within (put_all [] segments) id segment
added segments id segment =
    elim (is_within segment) as (λ b. put_all [] (cond b (segments ++ (id, segment) ∷ []) segments) ≡ cond b (insert_entry byte_cmp (put_all [] segments) id segment) (put_all [] segments)) [
      | true ↦ one_put segments [] id segment
      | false ↦ refl
    ]
