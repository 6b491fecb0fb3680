-- What unfinished collections hold, from event to event.
use Rattle.std.proofs.Common.{◌≡◌, ◌≢◌, ℕ, ◌+◌, ◌≤◌, ◌<◌, Bool, true, false, true≢false, not, ◌&&◌, ◌||◌, cond, List, [], ◌∷◌, ◌++◌, map, Option, Some, None, refl, sym, ap, subst, ◌∙◌, arith}
use Rattle.std.proofs.Math.Nat.{lt_of_not-le}
use Rattle.std.specs.Prelude.{is_some, nat_lt}
use Rattle.std.specs.Ordering.{nat_cmp}
use Rattle.std.specs.List.{flat_map, AllByRecursion}
use Rattle.std.specs.List.Sorted.{IsStrictlySortedBy}
use Rattle.std.specs.BTreeMap.{is_at}
use Rattle.std.proofs.lemmas.Bool.{and_parts, false_from_ne_true}
use Rattle.std.proofs.lemmas.List.Kept.{IsStrictlySortedBy-filter}
use Rattle.tv_events.specs.declared.event.Event.{Event}
use Rattle.tv_formats.specs.declared.segment.DeleteMeta.{DeleteMeta}
use Rattle.tv_formats.specs.declared.segment.LiveSegment.{LiveSegment}
use Rattle.tv_formats.specs.Names.{byte_cmp, is, has, meta_name, at}
use Rattle.tv_formats.specs.declared.segment.SegmentComponent.{SegmentComponent}
use Rattle.tv_formats.specs.declared.segment.SegmentComponent.TheVariants.{Postings, Positions, FastFields, FieldNorms, Terms, Store, Delete}
use Rattle.tv_formats.specs.Segments.{components, name_of, num_docs, segment_names, is_named}
use Rattle.tv_formats.specs.Collections.{Collection, Collections, AreOnce, Rises, no_collections, begun, collection_at, done_of, having_tried, held, without}
use Rattle.tv_machine.specs.Living.{living}
use Rattle.tv_machine.specs.State.{Catalog, State, FileState, Open, live_at, file_at, with_file, with_live, on_catalog}
use Rattle.tv_machine.specs.FileEvents.{opened}
use Rattle.tv_machine.specs.CommitEvents.{chosen, committed}
use Rattle.tv_machine.specs.CollectionEvents.{garbage, files_without, collection_begun, without_files, having_deleted, ended, left, released, with_left, without_live}
use Rattle.tv_machine.specs.DeleteEvents.{delete_name, next_deletes, with_deletes, having_deleted_docs}
use Rattle.tv_machine.specs.ReopenEvents.{reopened}
use Rattle.tv_machine.specs.SoundStates.{CollectsSoundly}
use Rattle.tv_formats.proofs.Entries.{is_itself, is_text, text_at, lookup_put, has_kept, sorted_put}
use Rattle.tv_formats.proofs.Numbered.{all_found, found, gone_all, none_above, put_all, rises_gone, rises_put}
use Rattle.tv_machine.proofs.Changes.{SegmentMove, IsNew, HasDocs, MayDelete, OfEachChange}
use Rattle.tv_machine.proofs.CollectionStates.{at_left, garbage_is}
use Rattle.tv_formats.proofs.CollectedNames.{at_without, done_within, has_append, has_without}
use Rattle.tv_formats.proofs.Required.{by_one, begins_named, names_begin, names_both, names_deleted, names_found, names_left, names_put, names_some}
use Rattle.tv_formats.proofs.HeldNames.{times, some_times, no_times, has_times, once_times, times_once, once_sorted, held_put, held_over, held_gone, taken_held, done_taken, tried_times}

-- ---- what is living

-- the names that are needed beside `meta.json`
pub living_parts : (c : Catalog) (n : List ℕ) → has (living c) n ≡ (is meta_name n || (has (flat_map segment_names c.commit.segments) n || has (flat_map segment_names c.live) n))
living_parts c n = ap (λ (b : Bool). is meta_name n || b) (names_both segment_names c.commit.segments c.live n)

-- where each name of the live segments was needed, nothing more is needed
live_fewer : (c d : Catalog) (n : List ℕ) → d.commit ≡ c.commit → (has (flat_map segment_names d.live) n ≡ true → has (living c) n ≡ true) → has (living d) n ≡ true → has (living c) n ≡ true
live_fewer c d n same fewer h =
    let committed : has (flat_map segment_names d.commit.segments) n ≡ has (flat_map segment_names c.commit.segments) n = ap (λ k. has (flat_map segment_names k.segments) n) same in
    grind (arith, h, fewer, committed, living_parts c n, living_parts d n)

-- the names of a live segment are needed
pub live_living : (c : Catalog) (id : List ℕ) (segment : LiveSegment) (n : List ℕ) → live_at c id ≡ Some segment → has (segment_names (id, segment)) n ≡ true → has (living c) n ≡ true
live_living c id segment n is h = grind (arith, living_parts c n, names_found segment_names c.live id segment n is h)

all_living : (c : Catalog) (n : List ℕ) → has (flat_map segment_names c.live) n ≡ true → has (living c) n ≡ true
all_living c n h = grind (arith, living_parts c n, h)

-- a name isn't needed where it wasn't, and nothing more is
spared_still : (c d : Catalog) (n : List ℕ) → has (living c) n ≡ false → (has (living d) n ≡ true → has (living c) n ≡ true) → has (living d) n ≡ false
spared_still c d n e fewer = false_from_ne_true (has (living d) n) (λ h. true≢false (sym (fewer h) ∙ e))

-- ---- what is done

-- the done names of a collection have no file
abbrev HasGone : State → ℕ × Collection → Type 0
HasGone s e = (n : List ℕ) → has e.1.done n ≡ true → file_at s n ≡ None

all_gone : (s : State) → CollectsSoundly s → AllByRecursion (HasGone s) s.collections.unfinished
all_gone s h = all_found (HasGone s) s.collections.unfinished h.ordered (λ k c is n. h.gone k c n is)

absent_at : (s : State) → CollectsSoundly s → (k : ℕ) (c : Collection) → collection_at s.collections k ≡ Some c → s.collections.next ≤ k → ⊥
absent_at s h k c is le = let no : collection_at s.collections k ≡ None = h.free k le in absurd cc

-- each number was given
pub given_at : (s : State) → CollectsSoundly s → (k : ℕ) (c : Collection) → collection_at s.collections k ≡ Some c → k < s.collections.next
given_at s h k c is = lt_of_not-le (absent_at s h k c is)

all_given : (s : State) → CollectsSoundly s → AllByRecursion (λ e. e.0 < s.collections.next) s.collections.unfinished
all_given s h = all_found (λ e. e.0 < s.collections.next) s.collections.unfinished h.ordered (λ k c is. given_at s h k c is)

-- what is done is held
pub done_held : (s : State) (number : ℕ) (c : Collection) (n : List ℕ) → collection_at s.collections number ≡ Some c → has c.done n ≡ true → has (held s.collections) n ≡ true
done_held s number c n is done =
    has_times (held s.collections) n (omega (arith, some_times c.done n done, done_taken c n, taken_held s.collections.unfinished number c n is))

-- ---- events that leave the collections as they are

-- where what is held stays managed and unneeded, and has no file where it had none
kept_sound : (s : State) (c : Catalog) (files : List (List ℕ × FileState)) (names : List (List ℕ)) → ((n : List ℕ) → has (held s.collections) n ≡ true → has names n ≡ true)
    → ((n : List ℕ) → has (held s.collections) n ≡ true → has (living c) n ≡ true → has (living s.catalog) n ≡ true)
    → ((n : List ℕ) → has (held s.collections) n ≡ true → file_at s n ≡ None → at files n ≡ None) → IsStrictlySortedBy byte_cmp names → CollectsSoundly s
    → CollectsSoundly (record { catalog = c; files = files; managed = names; collections = s.collections })
kept_sound s c files names managed fewer gone sorted h = record {
  managed = managed;
  spared = λ n is. spared_still s.catalog c n (h.spared n is) (fewer n is);
  once = h.once;
  gone = λ number k n is done. gone n (done_held s number k n is done) (h.gone number k n is done);
  free = h.free;
  ordered = h.ordered;
  sorted = sorted;
}

pub unnamed : (live committed named : Bool) → (live || committed || named) ≡ false → named ≡ false
unnamed live committed named e = grind (arith, e)

-- no name of a segment that comes is held, and one that gets its documents keeps its names
moved_fewer : (s : State) (id : List ℕ) (segment : LiveSegment) (n : List ℕ) → SegmentMove s id segment → CollectsSoundly s → has (held s.collections) n ≡ true
    → has (segment_names (id, segment)) n ≡ true → has (living s.catalog) n ≡ true
moved_fewer s id segment n (IsNew free) h is own =
    let named : is_named s.managed id ≡ true = begins_named s.managed id n (names_begin id None components n own) (h.managed n is) in
    absurd (true≢false (sym named ∙ unnamed (is_some (live_at s.catalog id)) (is_some (at s.catalog.commit.segments id)) (is_named s.managed id) free))
moved_fewer s id segment n (HasDocs count old there none) h is own = live_living s.catalog id old n there own

moved_collecting : (s : State) (id : List ℕ) (segment : LiveSegment) → SegmentMove s id segment → CollectsSoundly s → CollectsSoundly (record s { catalog = with_live s.catalog id segment })
moved_collecting s id segment move h =
    kept_sound s (with_live s.catalog id segment) s.files s.managed h.managed
    (λ n is. live_fewer s.catalog (with_live s.catalog id segment) n refl (λ k.
    by_one (has (segment_names (id, segment)) n) (has (flat_map segment_names s.catalog.live) n) (names_put segment_names s.catalog.live id segment n k) (moved_fewer s id segment n move h is) (all_living s.catalog n)))
    (λ n is none. none) h.sorted h

-- the name of a component is among those of its segment
pub name_among : (id : List ℕ) (deletes : Option DeleteMeta) (component : SegmentComponent) → has (map (name_of id deletes) components) (name_of id deletes component) ≡ true
name_among id deletes Postings = grind (arith, is_itself (name_of id deletes Postings))
name_among id deletes Positions = grind (arith, is_itself (name_of id deletes Positions))
name_among id deletes FastFields = grind (arith, is_itself (name_of id deletes FastFields))
name_among id deletes FieldNorms = grind (arith, is_itself (name_of id deletes FieldNorms))
name_among id deletes Terms = grind (arith, is_itself (name_of id deletes Terms))
name_among id deletes Store = grind (arith, is_itself (name_of id deletes Store))
name_among id deletes Delete = grind (arith, is_itself (name_of id deletes Delete))

-- a file that is put under another name
put_other : (s : State) (name n : List ℕ) (file : FileState) → name ≢ n → file_at s n ≡ None → file_at (with_file s name file) n ≡ None
put_other s name n file other none =
    let no : is_at (byte_cmp name) n ≡ false = false_from_ne_true _ (λ t. other (text_at name n t)) in
    lookup_put s.files name n file ∙ (rw no none)

opened_collecting : (s : State) (id : List ℕ) (segment : LiveSegment) (component : SegmentComponent) → live_at s.catalog id ≡ Some segment → CollectsSoundly s → CollectsSoundly (opened s (name_of id segment.deletes component)).1
opened_collecting s id segment component there h =
    let name = name_of id segment.deletes component in
    kept_sound s s.catalog (opened s name).1.files (opened s name).1.managed (λ n is. has_kept s.managed name n (h.managed n is)) (λ n is k. k)
    (λ n is none. put_other s name n (Open []) (λ e. true≢false (sym (live_living s.catalog id segment n there (subst (λ (m : List ℕ). has (segment_names (id, segment)) m ≡ true) e (name_among id segment.deletes component))) ∙ h.spared n is)) none)
    (sorted_put s.managed name h.sorted) h

over_collecting : (s : State) (name body : List ℕ) (file : FileState) → file_at s name ≡ Some (Open body) → CollectsSoundly s → CollectsSoundly (with_file s name file)
over_collecting s name body file e h =
    kept_sound s s.catalog (with_file s name file).files s.managed h.managed (λ n is k. k)
    (λ n is none. put_other s name n file (λ same. let absent : file_at s name ≡ None = subst (λ (m : List ℕ). file_at s m ≡ None) (sym same) none in absurd cc) none) h.sorted h

-- what some live segments need is needed
chosen_fewer : {all most : Bool} (meta chosen committed live : Bool) → all ≡ (meta || (chosen || live)) → most ≡ (meta || (committed || live)) → (chosen ≡ true → live ≡ true) → all ≡ true → most ≡ true
chosen_fewer meta chosen committed live e k fewer h = grind (arith, e, k, fewer, h)

committed_collecting : (s : State) (payload : Option (List ℕ)) (ids : List (List ℕ)) → CollectsSoundly s → CollectsSoundly (on_catalog s (committed s.catalog payload (chosen s.catalog ids))).1
committed_collecting s payload ids h =
    let c = (committed s.catalog payload (chosen s.catalog ids)).1 in
    kept_sound s c s.files s.managed h.managed
    (λ n kept k.
    chosen_fewer (is meta_name n) (has (flat_map segment_names c.commit.segments) n) (has (flat_map segment_names s.catalog.commit.segments) n) (has (flat_map segment_names s.catalog.live) n) (living_parts c n) (living_parts s.catalog n)
    (names_some segment_names (λ e. has ids e.0 && nat_lt 0 (num_docs e.1)) s.catalog.live n) k) (λ n is none. none) h.sorted h

still_none : {X : Type 0} (b : Bool) (file : Option X) → file ≡ None → cond b file None ≡ None
still_none true file e = e
still_none false file e = refl

held_stays : (s : State) (outcomes : List Bool) (n : List ℕ) → has (held s.collections) n ≡ true → has (done_of (garbage s) outcomes) n ≡ false
held_stays s outcomes n is = false_from_ne_true _ (λ d. true≢false (sym (done_within (garbage s) outcomes n d) ∙ garbage_is s n ∙ grind (arith, is)))

collected_collecting : (s : State) (outcomes : List Bool) → CollectsSoundly s → CollectsSoundly (without_files s (done_of (garbage s) outcomes))
collected_collecting s outcomes h =
    let gone = done_of (garbage s) outcomes in
    kept_sound s s.catalog (files_without gone s.files) (without gone s.managed) (λ n is. has_without gone s.managed n ∙ (rw (held_stays s outcomes n is) (h.managed n is))) (λ n is k. k)
    (λ n is none. at_without gone s.files n ∙ still_none (not (has gone n)) (file_at s n) none) (IsStrictlySortedBy-filter byte_cmp (λ name. not (has gone name)) s.managed h.sorted) h

left_none : (names : List (List ℕ)) (files : List (List ℕ × FileState)) (n : List ℕ) → at files n ≡ None → at (with_left names files) n ≡ None
left_none names files n none = at_left names files n ∙ (rw none refl)

released_collecting : (s : State) (id : List ℕ) (segment : LiveSegment) → CollectsSoundly s → CollectsSoundly (released s id segment).1
released_collecting s id segment h =
    let c = without_live s.catalog id in
    kept_sound s c (released s id segment).1.files s.managed h.managed
    (λ n is. live_fewer s.catalog c n refl (λ k. all_living s.catalog n (names_left segment_names (is_at (byte_cmp id)) s.catalog.live n k)))
    (λ n is none. left_none (segment_names (id, segment)) s.files n none) h.sorted h

deleted_collecting : (s : State) (id : List ℕ) (m : ℕ) (segment : LiveSegment) → MayDelete s id m segment → CollectsSoundly s → CollectsSoundly (having_deleted_docs s id m segment).1
deleted_collecting s id m segment may h =
    let new = Some (next_deletes s.catalog m) in
    let c = with_deletes s.catalog id segment m in
    kept_sound s c (having_deleted_docs s id m segment).1.files s.managed h.managed
    (λ n kept. live_fewer s.catalog c n refl (λ k.
    by_one (has (map (name_of id new) components) n) (has (flat_map segment_names s.catalog.live) n) (names_put segment_names s.catalog.live id (record segment { deletes = new }) n k)
    (λ own.
    by_one (is (name_of id new Delete) n) (has (map (name_of id segment.deletes) components) n) (names_deleted id segment.deletes new n own)
    (λ same. absurd (true≢false (sym kept ∙ subst (λ (x : List ℕ). has (held s.collections) x ≡ false) (is_text (name_of id new Delete) n same) may.spared)))
    (live_living s.catalog id segment n may.there))
    (all_living s.catalog n)))
    (λ n is none. left_none (delete_name id segment.deletes ∷ []) s.files n none) h.sorted h

-- ---- events of collections

more_given : (n : ℕ) (es : List (ℕ × Collection)) → AllByRecursion (λ e. e.0 < n) es → AllByRecursion (λ e. e.0 < n + 1) es
more_given n [] h = tt
more_given n (e ∷ es) h = (omega (arith, h.0), more_given n es h.1)

-- the lookups of what holds of all
gone_at : (s : State) → AllByRecursion (HasGone s) s.collections.unfinished → (number : ℕ) (c : Collection) (n : List ℕ) → collection_at s.collections number ≡ Some c → has c.done n ≡ true → file_at s n ≡ None
gone_at s all number c n is = found (HasGone s) s.collections.unfinished number c all is n

free_at : (s : State) → AllByRecursion (λ e. e.0 < s.collections.next) s.collections.unfinished → (number : ℕ) → s.collections.next ≤ number → collection_at s.collections number ≡ None
free_at s all number le = none_above s.collections.unfinished s.collections.next number all le

-- a name that a beginning collection takes or another one holds
begun_held : (s : State) (n : List ℕ) → has (held (collection_begun s).1.collections) n ≡ true → (has (held s.collections) n || has (garbage s) n) ≡ true
begun_held s n is =
    let some : 1 ≤ times (held s.collections) n + times (garbage s) n = omega (arith, some_times _ n is, held_put s.collections.unfinished s.collections.next (begun (garbage s)) n) in
    either (has (held s.collections) n) refl some
  where
    either : (b : Bool) → has (held s.collections) n ≡ b → 1 ≤ times (held s.collections) n + times (garbage s) n → (has (held s.collections) n || has (garbage s) n) ≡ true
    either true e some = rw e refl
    either false e some = rw e (has_times (garbage s) n (omega (arith, no_times (held s.collections) n e, some)))

begun_once : (s : State) (n : List ℕ) → CollectsSoundly s → times (held (collection_begun s).1.collections) n ≤ 1
begun_once s n h =
    let sorted : IsStrictlySortedBy byte_cmp (garbage s) = IsStrictlySortedBy-filter byte_cmp (λ name. not (has (living s.catalog ++ held s.collections) name)) s.managed h.sorted in
    either (has (held s.collections) n) refl (once_times (garbage s) n (once_sorted (garbage s) sorted))
  where
    either : (b : Bool) → has (held s.collections) n ≡ b → times (garbage s) n ≤ 1 → times (held (collection_begun s).1.collections) n ≤ 1
    either true e few =
        let none : has (garbage s) n ≡ false = garbage_is s n ∙ grind (arith, e) in
        omega (arith, held_put s.collections.unfinished s.collections.next (begun (garbage s)) n, no_times (garbage s) n none, once_times (held s.collections) n h.once)
    either false e few = omega (arith, held_put s.collections.unfinished s.collections.next (begun (garbage s)) n, no_times (held s.collections) n e, few)

begun_collecting : (s : State) → CollectsSoundly s → CollectsSoundly (collection_begun s).1
begun_collecting s h =
    let t = (collection_begun s).1 in record {
      managed = λ n is. by_one (has (held s.collections) n) (has (garbage s) n) (begun_held s n is) (h.managed n) (λ g. (and_parts _ (has s.managed n) (sym (garbage_is s n) ∙ g)).1);
      spared = λ n is.
          by_one (has (held s.collections) n) (has (garbage s) n) (begun_held s n is) (h.spared n) (λ g. unneeded (has (living s.catalog) n) (has (held s.collections) n) (has s.managed n) (sym (garbage_is s n) ∙ g));
      once = times_once (held t.collections) (λ n. begun_once s n h);
      gone = gone_at t (put_all (HasGone t) s.collections.unfinished s.collections.next (begun (garbage s)) (all_gone s h) (λ n done. absurd (true≢false (sym done))));
      free = free_at t (put_all (λ e. e.0 < s.collections.next + 1) s.collections.unfinished s.collections.next (begun (garbage s)) (more_given s.collections.next s.collections.unfinished (all_given s h)) (omega arith));
      ordered = rises_put s.collections.unfinished s.collections.next (begun (garbage s)) h.ordered;
      sorted = h.sorted;
    }
  where
    unneeded : (a b c : Bool) → (not (a || b) && c) ≡ true → a ≡ false
    unneeded a b c e = grind (arith, e)

-- ---- a collection tries a name

tried_held : (s : State) (number : ℕ) (c : Collection) (name : List ℕ) (left : List (List ℕ)) (is_done : Bool) (n : List ℕ) → collection_at s.collections number ≡ Some c → c.untried ≡ name ∷ left → CollectsSoundly s
    → times (held (having_deleted s number c name left is_done).1.collections) n ≡ times (held s.collections) n
tried_held s number c name left is_done n there e h =
    omega (arith, held_over s.collections.unfinished number c (having_tried c name left is_done) n h.ordered there, tried_times c name left is_done n e)

-- what is held after it was held before
pub tried_before : (s : State) (number : ℕ) (c : Collection) (name : List ℕ) (left : List (List ℕ)) (is_done : Bool) (n : List ℕ) → collection_at s.collections number ≡ Some c → c.untried ≡ name ∷ left → CollectsSoundly s
    → has (held (having_deleted s number c name left is_done).1.collections) n ≡ true → has (held s.collections) n ≡ true
tried_before s number c name left is_done n there e h is = has_times (held s.collections) n (omega (arith, some_times _ n is, tried_held s number c name left is_done n there e h))

tried_none : (s : State) (number : ℕ) (c : Collection) (name : List ℕ) (left : List (List ℕ)) (is_done : Bool) (n : List ℕ) → file_at s n ≡ None → file_at (having_deleted s number c name left is_done).1 n ≡ None
tried_none s number c name left true n none = at_without (name ∷ []) s.files n ∙ still_none (not (has (name ∷ []) n)) (file_at s n) none
tried_none s number c name left false n none = none

-- the name that was tried and is done has no file
tried_gone : (s : State) (number : ℕ) (c : Collection) (name : List ℕ) (left : List (List ℕ)) (is_done : Bool) → HasGone s (number, c) → HasGone (having_deleted s number c name left is_done).1 (number, having_tried c name left is_done)
tried_gone s number c name left true h n done =
    by_one (has c.done n) (is name n || false) (sym (has_append c.done (name ∷ []) n) ∙ done) (λ old. tried_none s number c name left true n (h n old))
    (λ new. at_without (name ∷ []) s.files n ∙ ap (λ (b : Bool). cond (not b) (file_at s n) None) new)
tried_gone s number c name left false h n done = h n done

weaker_gone : (s t : State) (es : List (ℕ × Collection)) → ((n : List ℕ) → file_at s n ≡ None → file_at t n ≡ None) → AllByRecursion (HasGone s) es → AllByRecursion (HasGone t) es
weaker_gone s t [] f h = tt
weaker_gone s t (e ∷ es) f h = (λ n done. f n (h.0 n done), weaker_gone s t es f h.1)

tried_collecting : (s : State) (number : ℕ) (c : Collection) (name : List ℕ) (left : List (List ℕ)) (is_done : Bool) → collection_at s.collections number ≡ Some c → c.untried ≡ name ∷ left → CollectsSoundly s
    → CollectsSoundly (having_deleted s number c name left is_done).1
tried_collecting s number c name left is_done there e h =
    let t = (having_deleted s number c name left is_done).1 in
    let c2 = having_tried c name left is_done in
    record {
      managed = λ n is. h.managed n (tried_before s number c name left is_done n there e h is);
      spared = λ n is. h.spared n (tried_before s number c name left is_done n there e h is);
      once = times_once (held t.collections) (λ n. omega (arith, tried_held s number c name left is_done n there e h, once_times (held s.collections) n h.once));
      gone = gone_at t (put_all (HasGone t) s.collections.unfinished number c2 (weaker_gone s t s.collections.unfinished (tried_none s number c name left is_done) (all_gone s h)) (tried_gone s number c name left is_done (λ n done. h.gone number c n there done)));
      free = free_at t (put_all (λ e. e.0 < s.collections.next) s.collections.unfinished number c2 (all_given s h) (found (λ e. e.0 < s.collections.next) s.collections.unfinished number c (all_given s h) there));
      ordered = rises_put s.collections.unfinished number c2 h.ordered;
      sorted = h.sorted;
    }

-- ---- a collection is finished

pub ended_held : (s : State) (number : ℕ) (c : Collection) (n : List ℕ) → collection_at s.collections number ≡ Some c → has (held (ended s number c).1.collections) n ≡ true → has (held s.collections) n ≡ true
ended_held s number c n there is = has_times (held s.collections) n (omega (arith, some_times _ n is, held_gone s.collections.unfinished number c n there))

-- what another collection holds isn't done by this one
ended_others : (s : State) (number : ℕ) (c : Collection) (n : List ℕ) → collection_at s.collections number ≡ Some c → CollectsSoundly s → has (held (ended s number c).1.collections) n ≡ true → has c.done n ≡ false
ended_others s number c n there h is =
    false_from_ne_true _ (λ d.
    absurd (omega (arith, some_times _ n is, held_gone s.collections.unfinished number c n there, some_times c.done n d, done_taken c n, once_times (held s.collections) n h.once)))

ended_collecting : (s : State) (number : ℕ) (c : Collection) → collection_at s.collections number ≡ Some c → CollectsSoundly s → CollectsSoundly (ended s number c).1
ended_collecting s number c there h =
    let t = (ended s number c).1 in record {
      managed = λ n is. has_without c.done s.managed n ∙ (rw (ended_others s number c n there h is) (h.managed n (ended_held s number c n there is)));
      spared = λ n is. h.spared n (ended_held s number c n there is);
      once = times_once (held t.collections) (λ n. omega (arith, held_gone s.collections.unfinished number c n there, once_times (held s.collections) n h.once));
      gone = gone_at t (gone_all (HasGone t) (is_at (nat_cmp number)) s.collections.unfinished (all_gone s h));
      free = free_at t (gone_all (λ e. e.0 < s.collections.next) (is_at (nat_cmp number)) s.collections.unfinished (all_given s h));
      ordered = rises_gone (is_at (nat_cmp number)) s.collections.unfinished h.ordered;
      sorted = IsStrictlySortedBy-filter byte_cmp (λ name. not (has c.done name)) s.managed h.sorted;
    }

-- no collection holds anything
pub nothing_held : (s : State) → s.collections ≡ no_collections → IsStrictlySortedBy byte_cmp s.managed → CollectsSoundly s
nothing_held s e sorted =
    let none : (n : List ℕ) → has (held s.collections) n ≡ false = λ n. ap (λ (c : Collections). has (held c) n) e in record {
      managed = λ n is. absurd (true≢false (sym is ∙ none n));
      spared = λ n is. absurd (true≢false (sym is ∙ none n));
      once = subst (λ (c : Collections). AreOnce (held c)) (sym e) tt;
      gone = λ number c n is. let no : collection_at s.collections number ≡ None = ap (λ (c : Collections). collection_at c number) e in absurd cc;
      free = λ number le. ap (λ (c : Collections). collection_at c number) e;
      ordered = subst (λ (c : Collections). Rises c.unfinished) (sym e) tt;
      sorted = sorted;
    }

-- ---- each event

pub collecting_changes : (s : State) (event : Event) → CollectsSoundly s → OfEachChange CollectsSoundly s event
collecting_changes s event h = record {
  same = h;
  lives = λ id segment move. moved_collecting s id segment move h;
  reads = λ now move. kept_sound s (record s.catalog { reading = now }) s.files s.managed h.managed (λ n is k. k) (λ n is none. none) h.sorted h;
  opens = λ id segment component e there absent. opened_collecting s id segment component there h;
  puts = λ name body file e good. over_collecting s name body file e h;
  commits = λ payload ids last e. committed_collecting s payload ids h;
  collects = λ outcomes free. collected_collecting s outcomes h;
  releases = λ id segment. released_collecting s id segment h;
  deletes = λ id n segment may. deleted_collecting s id n segment may h;
  begins = λ free. begun_collecting s h;
  tries = λ number c name left is_done step there e. tried_collecting s number c name left is_done there e h;
  finishes = λ number c e there. ended_collecting s number c there h;
  reopens = λ e. nothing_held (reopened s) refl h.sorted;
}
