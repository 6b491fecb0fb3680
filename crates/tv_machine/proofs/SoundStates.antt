-- States stay sound from event to event, and a directory that holds a sound state is sound.
use Rattle.std.proofs.Common.{◌≡◌, ◌≢◌, ◌≤◌, ◌==◌, ◌⊎◌, ◌<◌, ◌+◌, inl, inr, ℕ, Bool, true, false, true≢false, not, ◌||◌, cond, List, [], ◌∷◌, Option, Some, None, refl, sym, ap, subst, ◌∙◌, arith}
use Rattle.std.specs.Prelude.{IsSome, is_some, option_map}
use Rattle.std.specs.List.{AllByRecursion}
use Rattle.std.specs.List.Sorted.{IsStrictlySortedBy}
use Rattle.std.proofs.lemmas.Bool.{false_from_ne_true}
use Rattle.std.proofs.lemmas.Bool.Decides.{nat_tests}
use Rattle.std.specs.BTreeMap.{is_at, insert_entry}
use Rattle.std.specs.BTreeSet.{insert_key}
use Rattle.tv_events.specs.declared.event.Event.{Event}
use Rattle.tv_events.specs.declared.event.Event.TheVariants as events
use Rattle.tv_formats.specs.declared.segment.DeleteMeta.{DeleteMeta}
use Rattle.tv_formats.specs.declared.segment.LiveSegment.{LiveSegment}
use Rattle.tv_formats.specs.declared.segment.SegmentComponent.TheVariants.{Delete}
use Rattle.tv_formats.specs.Names.{byte_cmp, is, has, is_undotted, meta_name, at}
use Rattle.tv_formats.specs.Files.{Reads}
use Rattle.tv_formats.specs.Footer.{IsGood}
use Rattle.tv_formats.specs.Segments.{name_of, num_deleted, required_names, all_required, is_named, fresh_segment, segment_names}
use Rattle.tv_formats.specs.Commits.{Commit, Settings}
use Rattle.tv_machine.specs.State.{State, FileState, SealedFile, Open, Left, Readers, live_at, file_at, with_live, with_file, on_catalog}
use Rattle.tv_machine.specs.SegmentEvents.{is_in_use}
use Rattle.tv_machine.specs.FileEvents.{opened}
use Rattle.tv_machine.specs.CommitEvents.{is_sealed, last_stamp, chosen, committed}
use Rattle.tv_formats.specs.Collections.{Collection, Collections, collection_at, done_of, having_tried, with_collection, without}
use Rattle.tv_machine.specs.Living.{kept_commits, living}
use Rattle.tv_machine.specs.CollectionEvents.{garbage, files_without, collection_begun, without_files, having_deleted, ended, left, released}
use Rattle.tv_machine.specs.DeleteEvents.{delete_name, next_deletes, with_deletes, having_deleted_docs}
use Rattle.tv_machine.specs.ReopenEvents.{reopened}
use Rattle.tv_machine.specs.Machine.{step}
use Rattle.tv_machine.specs.Index.{FileReads, IsFileOf, DirectoryHolds, first_state, next_after}
use Rattle.tv_formats.specs.Sound.{IsSoundMeta, IsSoundImage}
use Rattle.tv_machine.specs.Readable.{AreGoodFiles, CanRead}
use Rattle.tv_events.specs.Script.{Fits}
use Rattle.tv_machine.specs.SoundStates.{AreGood, AreWithin, HasSealedFiles, IsWhole, IsSoundState}
use Rattle.tv_machine.proofs.Changes.{SegmentMove, IsNew, HasDocs, MayDelete, OfEachChange, step_changes}
use Rattle.tv_formats.proofs.Entries.{is_itself, is_text, text_at, lookup_put, has_inserted, has_kept}
use Rattle.tv_formats.proofs.Required.{by_one, Begins, has_files_from, required_begins, begins_named, required_put, required_deleted, required_found, required_some, required_left, each_put, each_some, each_left}
use Rattle.tv_machine.proofs.Required.{name_is_file}
use Rattle.tv_formats.proofs.CollectedNames.{has_without, at_without}
use Rattle.tv_machine.proofs.CollectionStates.{at_left, meta_living, living_spared}
use Rattle.tv_machine.proofs.HeldStates.{done_held, nothing_held, unnamed}
use Rattle.tv_machine.proofs.ReaderMoves.{ReadersMove, all_both, all_weaker, noticed_unread, unread_moved}
use Rattle.tv_machine.proofs.WholeStates.{at_all_left, whole_changes, put_since, kept_since, left_since}

-- the state of an index that was just made
pub first_sound : IsSoundState first_state
unfolding IsStrictlySortedBy
first_sound = record {
  meta = refl;
  names = λ n h. absurd (true≢false (sym h));
  listed = λ n h. absurd (true≢false (sym h));
  whole = record { each = (λ n h. absurd (true≢false (sym h)), tt); unheld = (λ n h. absurd (true≢false (sym h)), tt); collecting = nothing_held first_state refl (tt, tt) };
  good = (λ n bytes required h. absurd cc, tt);
  live = λ n bytes required h. absurd cc;
  stamps = inl (omega arith);
  within = (tt, tt);
  live_within = tt;
}

-- what is asked of a file that is put over an old one
pub put_some : {P : Type 0} (b : Bool) (file : FileState) (old : Option FileState) → (b ≡ true → P) → (is_some old ≡ true → P) → is_some (cond b (Some file) old) ≡ true → P
put_some true file old here there h = here refl
put_some false file old here there h = there h

-- what was good is good with one more file, which is open or good
put_good : (s : State) (name : List ℕ) (file : FileState) (segments : List (List ℕ × LiveSegment)) → ((bytes : List ℕ) → file ≡ SealedFile bytes → IsGood bytes) → AreGood s segments → AreGood (with_file s name file) segments
put_good s name file segments good h n bytes required is =
    put_since (is_at (byte_cmp name) n) file (file_at s n) bytes (good bytes) (h n bytes required) (rw (lookup_put s.files name n file) at is)

-- the kept commits stay the same, and what was good of their files is good
each_good : (s t : State) → ((commit : Commit) → AreGood s commit.segments → AreGood t commit.segments) → IsSoundState s → AllByRecursion (λ commit. AreGood t commit.segments) (kept_commits s.catalog)
each_good s t f h = all_weaker (λ commit. AreGood s commit.segments) (λ commit. AreGood t commit.segments) (kept_commits s.catalog) f h.good

-- a file under a managed name that is put where no sealed file stands
put_sound : (s : State) (name : List ℕ) (file : FileState) → IsFileOf name → has s.managed name ≡ true
    → ((bytes : List ℕ) → file ≡ SealedFile bytes → IsGood bytes) → IsWhole (with_file s name file) → IsSoundState s → IsSoundState (with_file s name file)
put_sound s name file fits listed good whole h = record {
  meta = h.meta;
  names = λ n is.
      put_some {P = IsFileOf n} (is_at (byte_cmp name) n) file (file_at s n) (λ e. subst IsFileOf (text_at name n e) fits) (h.names n)
      (rw (lookup_put s.files name n file) at is);
  listed = λ n is.
      put_some {P = has s.managed n ≡ true} (is_at (byte_cmp name) n) file (file_at s n) (λ e. subst (λ (m : List ℕ). has s.managed m ≡ true) (text_at name n e) listed) (h.listed n)
      (rw (lookup_put s.files name n file) at is);
  whole = whole;
  good = each_good s (with_file s name file) (λ commit. put_good s name file commit.segments good) h;
  live = put_good s name file s.catalog.live good h.live;
  stamps = h.stamps;
  within = h.within;
  live_within = h.live_within;
}

-- a new open file, whose name is managed
opened_sound : (s : State) (name : List ℕ) → IsFileOf name → IsWhole (opened s name).1 → IsSoundState s → IsSoundState (opened s name).1
opened_sound s name fits whole h = record {
  meta = has_kept s.managed name meta_name h.meta;
  names = λ n is.
      put_some {P = IsFileOf n} (is_at (byte_cmp name) n) (Open []) (file_at s n) (λ e. subst IsFileOf (text_at name n e) fits) (h.names n)
      (rw (lookup_put s.files name n (Open [])) at is);
  listed = λ n is.
      put_some {P = has (insert_key byte_cmp s.managed name) n ≡ true} (is_at (byte_cmp name) n) (Open []) (file_at s n)
      (λ e. subst (λ (m : List ℕ). has (insert_key byte_cmp s.managed name) m ≡ true) (text_at name n e) (has_inserted s.managed name)) (λ there. has_kept s.managed name n (h.listed n there))
      (rw (lookup_put s.files name n (Open [])) at is);
  whole = whole;
  good = each_good s (opened s name).1 (λ commit. put_good s name (Open []) commit.segments (λ bytes k. absurd cc)) h;
  live = put_good s name (Open []) s.catalog.live (λ bytes k. absurd cc) h.live;
  stamps = h.stamps;
  within = h.within;
  live_within = h.live_within;
}

-- another open file, or a sealed one, in the place of an open one
over_open : (s : State) (name body : List ℕ) (file : FileState) → file_at s name ≡ Some (Open body) → ((bytes : List ℕ) → file ≡ SealedFile bytes → IsGood bytes) → IsWhole (with_file s name file) → IsSoundState s → IsSoundState (with_file s name file)
over_open s name body file e good whole h =
    let there : is_some (file_at s name) ≡ true = ap is_some e in
    put_sound s name file (h.names name there) (h.listed name there) good whole h

-- where only who reads changes
read_sound : (s : State) (now : Readers) → ReadersMove s now → IsWhole (record s { catalog = record s.catalog { reading = now } }) → IsSoundState s → IsSoundState (record s { catalog = record s.catalog { reading = now } })
read_sound s now move whole h = record {
  meta = h.meta;
  names = h.names;
  listed = h.listed;
  whole = whole;
  good = (h.good.0, unread_moved (λ commit. AreGood s commit.segments) s now move h.good.0 h.good.1);
  live = h.live;
  stamps = h.stamps;
  within = (h.within.0, unread_moved (λ commit. AreWithin commit.segments) s now move h.within.0 h.within.1);
  live_within = h.live_within;
}

-- ---- segments that come or get their documents

-- no file has the name of a segment that comes
no_file : (s : State) (id n : List ℕ) → is_in_use s.catalog s.managed id ≡ false → Begins id n → IsSoundState s → is_some (file_at s n) ≡ true → ⊥
no_file s id n free begins h there =
    let named : is_named s.managed id ≡ true = begins_named s.managed id n begins (h.listed n there) in
    true≢false (sym named ∙ unnamed (is_some (live_at s.catalog id)) (is_some (at s.catalog.commit.segments id)) (is_named s.managed id) free)

moved_good : (s : State) (id : List ℕ) (segment : LiveSegment) → SegmentMove s id segment → IsSoundState s → AreGood s (insert_entry byte_cmp s.catalog.live id segment)
moved_good s id segment (IsNew free) h n bytes required is =
    by_one (has (required_names id fresh_segment) n) (has (all_required s.catalog.live) n) (required_put s.catalog.live id fresh_segment n required)
    (λ own. absurd (no_file s id n free (required_begins (id, fresh_segment) n own) h (ap is_some is))) (λ old. h.live n bytes old is)
moved_good s id segment (HasDocs count old there none) h n bytes required is =
    by_one (has (required_names id old) n) (has (all_required s.catalog.live) n) (required_put s.catalog.live id (record old { max_doc = count }) n required)
    (λ own. h.live n bytes (required_found s.catalog.live id old n there own) is) (λ other. h.live n bytes other is)

-- a segment without documents has no deletes
pub undeleted : (deletes : Option DeleteMeta) (first : Bool) → (first || is_some deletes) ≡ false → num_deleted deletes ≡ 0
undeleted None first e = refl
undeleted (Some meta) true e = absurd (true≢false e)
undeleted (Some meta) false e = absurd (true≢false e)

moved_within : (s : State) (id : List ℕ) (segment : LiveSegment) → SegmentMove s id segment → num_deleted segment.deletes ≤ segment.max_doc
moved_within s id segment (IsNew free) = omega arith
moved_within s id segment (HasDocs count old there none) = omega (arith, undeleted old.deletes (not (old.max_doc == 0)) none)

-- no more documents are deleted than there are
abbrev IsWithin : LiveSegment → Type 0
IsWithin segment = num_deleted segment.deletes ≤ segment.max_doc

moved_sound : (s : State) (id : List ℕ) (segment : LiveSegment) → SegmentMove s id segment → IsWhole (record s { catalog = with_live s.catalog id segment }) → IsSoundState s → IsSoundState (record s { catalog = with_live s.catalog id segment })
moved_sound s id segment move whole h = record {
  meta = h.meta;
  names = h.names;
  listed = h.listed;
  whole = whole;
  good = h.good;
  live = moved_good s id segment move h;
  stamps = h.stamps;
  within = h.within;
  live_within = each_put IsWithin s.catalog.live id segment h.live_within (moved_within s id segment move);
}

-- live segments become the commit
committed_sound : (s : State) (payload : Option (List ℕ)) (ids : List (List ℕ)) → IsWhole (on_catalog s (committed s.catalog payload (chosen s.catalog ids))).1 → IsSoundState s → IsSoundState (on_catalog s (committed s.catalog payload (chosen s.catalog ids))).1
committed_sound s payload ids whole h = record {
  meta = h.meta;
  names = h.names;
  listed = h.listed;
  whole = whole;
  good = (λ n bytes required is. h.live n bytes (required_some _ s.catalog.live n required) is, subst (AllByRecursion (λ commit. AreGood s commit.segments)) (sym (noticed_unread s.catalog)) h.good.1);
  live = h.live;
  stamps = inl (omega arith);
  within = (each_some IsWithin _ s.catalog.live h.live_within, subst (AllByRecursion (λ commit. AreWithin commit.segments)) (sym (noticed_unread s.catalog)) h.within.1);
  live_within = h.live_within;
}

-- ---- files that go, and segments that go

-- files that nothing needs are gone
kept_some : (gone : Bool) (file : Option FileState) → is_some (cond (not gone) file None) ≡ true → (is_some file ≡ true) × (not gone ≡ true)
kept_some true file e = absurd (true≢false (sym e))
kept_some false file e = (e, refl)

collected_sound : (s : State) (gone : List (List ℕ)) → ((n : List ℕ) → has (living s.catalog) n ≡ true → has gone n ≡ false) → IsWhole (without_files s gone) → IsSoundState s → IsSoundState (without_files s gone)
collected_sound s gone spared whole h = record {
  meta = rw (has_without gone s.managed meta_name, spared meta_name (meta_living s)) h.meta;
  names = λ n is. h.names n (kept_some (has gone n) (file_at s n) (rw (at_without gone s.files n) at is)).0;
  listed = λ n is.
      let k = kept_some (has gone n) (file_at s n) (rw (at_without gone s.files n) at is) in
      rw (has_without gone s.managed n, k.1) (h.listed n k.0);
  whole = whole;
  good = each_good s (without_files s gone) (λ commit good n bytes required is. good n bytes required (kept_since (not (has gone n)) (file_at s n) bytes (rw (at_without gone s.files n) at is))) h;
  live = λ n bytes required is. h.live n bytes required (kept_since (not (has gone n)) (file_at s n) bytes (rw (at_without gone s.files n) at is));
  stamps = h.stamps;
  within = h.within;
  live_within = h.live_within;
}

-- a file that is left is there as before, and is sealed if it was
left_some : (b : Bool) (file : Option FileState) → is_some (option_map (λ f. cond b (left f) f) file) ≡ is_some file
left_some b None = refl
left_some b (Some file) = refl

released_sound : (s : State) (id : List ℕ) (segment : LiveSegment) → IsWhole (released s id segment).1 → IsSoundState s → IsSoundState (released s id segment).1
released_sound s id segment whole h = record {
  meta = h.meta;
  names = λ n is. h.names n (sym (left_some (has (segment_names (id, segment)) n) (file_at s n)) ∙ (rw (at_left (segment_names (id, segment)) s.files n) at is));
  listed = λ n is. h.listed n (sym (left_some (has (segment_names (id, segment)) n) (file_at s n)) ∙ (rw (at_left (segment_names (id, segment)) s.files n) at is));
  whole = whole;
  good = each_good s (released s id segment).1 (λ commit good n bytes required is. good n bytes required (left_since (has (segment_names (id, segment)) n) (file_at s n) bytes (rw (at_left (segment_names (id, segment)) s.files n) at is))) h;
  live = λ n bytes required is.
      h.live n bytes (required_left (is_at (byte_cmp id)) s.catalog.live n required)
      (left_since (has (segment_names (id, segment)) n) (file_at s n) bytes (rw (at_left (segment_names (id, segment)) s.files n) at is));
  stamps = h.stamps;
  within = h.within;
  live_within = each_left IsWithin (is_at (byte_cmp id)) s.catalog.live h.live_within;
}

-- ---- deletes

-- what is sealed of the files of a segment with other deletes was required before, since the name of its delete file is new
deleted_good : (s : State) (id : List ℕ) (m : ℕ) (segment : LiveSegment) → MayDelete s id m segment → IsSoundState s → AreGood s (with_deletes s.catalog id segment m).live
deleted_good s id m segment may h n bytes required e =
    let new = Some (next_deletes s.catalog m) in
    by_one (has (required_names id (record segment { deletes = new })) n) (has (all_required s.catalog.live) n) (required_put s.catalog.live id (record segment { deletes = new }) n required)
    (λ own.
    by_one (is (name_of id new Delete) n) (has (required_names id segment) n) (required_deleted id segment new n own)
    (λ same. absurd (true≢false (sym (h.listed n (ap is_some e)) ∙ subst (λ (x : List ℕ). has s.managed x ≡ false) (is_text (name_of id new Delete) n same) may.fresh)))
    (λ old. h.live n bytes (required_found s.catalog.live id segment n may.there old) e))
    (λ old. h.live n bytes old e)

-- one stamp more was drawn
drawn : (opstamp next last : ℕ) → next ≢ last → (opstamp < next) ⊎ ((opstamp ≡ last) × (next ≡ last)) → (opstamp < next + 1) ⊎ ((opstamp ≡ last) × (next + 1 ≡ last))
drawn opstamp next last other (inl below) = inl (omega (arith, below))
drawn opstamp next last other (inr ends) = absurd (other ends.1)

deleted_sound : (s : State) (id : List ℕ) (m : ℕ) (segment : LiveSegment) → MayDelete s id m segment → IsWhole (having_deleted_docs s id m segment).1 → IsSoundState s → IsSoundState (having_deleted_docs s id m segment).1
deleted_sound s id m segment may whole h =
    let former = delete_name id segment.deletes ∷ [] in record {
      meta = h.meta;
      names = λ n is. h.names n (sym (left_some (has former n) (file_at s n)) ∙ (rw (at_left former s.files n) at is));
      listed = λ n is. h.listed n (sym (left_some (has former n) (file_at s n)) ∙ (rw (at_left former s.files n) at is));
      whole = whole;
      good = each_good s (having_deleted_docs s id m segment).1 (λ commit good n bytes required is. good n bytes required (left_since (has former n) (file_at s n) bytes (rw (at_left former s.files n) at is))) h;
      live = λ n bytes required is. deleted_good s id m segment may h n bytes required (left_since (has former n) (file_at s n) bytes (rw (at_left former s.files n) at is));
      stamps = drawn s.catalog.commit.opstamp s.catalog.next last_stamp may.last h.stamps;
      within = h.within;
      live_within = each_put IsWithin s.catalog.live id (record segment { deletes = Some (next_deletes s.catalog m) }) h.live_within may.within;
    }

-- ---- collections in steps

-- other collections, and nothing else
other_collections : (s : State) (collections : Collections) → IsWhole (record s { collections = collections }) → IsSoundState s → IsSoundState (record s { collections = collections })
other_collections s collections whole h = record {
  meta = h.meta;
  names = h.names;
  listed = h.listed;
  whole = whole;
  good = h.good;
  live = h.live;
  stamps = h.stamps;
  within = h.within;
  live_within = h.live_within;
}

-- fewer files
fewer_sound : (s : State) (gone : List (List ℕ)) (collections : Collections) → IsWhole (record s { files = files_without gone s.files; collections = collections }) → IsSoundState s
    → IsSoundState (record s { files = files_without gone s.files; collections = collections })
fewer_sound s gone collections whole h =
    let before : (n : List ℕ) → is_some (at (files_without gone s.files) n) ≡ true → is_some (file_at s n) ≡ true = λ n is. (kept_some (has gone n) (file_at s n) (rw (at_without gone s.files n) at is)).0 in record {
      meta = h.meta;
      names = λ n is. h.names n (before n is);
      listed = λ n is. h.listed n (before n is);
      whole = whole;
      good = each_good s (record s { files = files_without gone s.files; collections = collections }) (λ commit good n bytes required is. good n bytes required (kept_since (not (has gone n)) (file_at s n) bytes (rw (at_without gone s.files n) at is))) h;
      live = λ n bytes required is. h.live n bytes required (kept_since (not (has gone n)) (file_at s n) bytes (rw (at_without gone s.files n) at is));
      stamps = h.stamps;
      within = h.within;
      live_within = h.live_within;
    }

tried_sound : (s : State) (number : ℕ) (c : Collection) (name : List ℕ) (left : List (List ℕ)) (is_done : Bool) → IsWhole (having_deleted s number c name left is_done).1 → IsSoundState s → IsSoundState (having_deleted s number c name left is_done).1
tried_sound s number c name left true whole h = fewer_sound s (name ∷ []) (with_collection s.collections number (having_tried c name left true)) whole h
tried_sound s number c name left false whole h = other_collections s (with_collection s.collections number (having_tried c name left false)) whole h

-- what is done has no file, so that no file loses its name
ended_sound : (s : State) (number : ℕ) (c : Collection) → collection_at s.collections number ≡ Some c → IsWhole (ended s number c).1 → IsSoundState s → IsSoundState (ended s number c).1
ended_sound s number c there whole h = record {
  meta = undone_stays meta_name (undone meta_name (λ done. true≢false (sym (meta_living s) ∙ h.whole.collecting.spared meta_name (done_held s number c meta_name there done)))) h.meta;
  names = h.names;
  listed = λ n is. undone_stays n (undone n (λ done. true≢false (sym is ∙ ap is_some (h.whole.collecting.gone number c n there done)))) (h.listed n is);
  whole = whole;
  good = h.good;
  live = h.live;
  stamps = h.stamps;
  within = h.within;
  live_within = h.live_within;
}
  where
    undone : (n : List ℕ) → (has c.done n ≡ true → ⊥) → has c.done n ≡ false
    undone n never = false_from_ne_true (has c.done n) never

    undone_stays : (n : List ℕ) → has c.done n ≡ false → has s.managed n ≡ true → has (without c.done s.managed) n ≡ true
    undone_stays n e there = has_without c.done s.managed n ∙ (rw e there)

-- ---- the index is opened again

-- the number after a commit's
pub stamps_after : (opstamp next : ℕ) → next ≡ next_after opstamp → (opstamp < next) ⊎ ((opstamp ≡ last_stamp) × (next ≡ last_stamp))
stamps_after opstamp next e =
    elim (opstamp == last_stamp) as (λ b. (opstamp == last_stamp) ≡ b → next ≡ cond b last_stamp (opstamp + 1) → (opstamp < next) ⊎ ((opstamp ≡ last_stamp) × (next ≡ last_stamp))) [
      | true ↦ λ t k. inr (grind (arith, nat_tests, t), k)
      | false ↦ λ t k. inl (omega (arith, k))
    ] refl e

reopened_sound : (s : State) → IsWhole (reopened s) → IsSoundState s → IsSoundState (reopened s)
reopened_sound s whole h =
    let good : AreGood (reopened s) s.catalog.commit.segments = λ n bytes required is. h.good.0 n bytes required (left_since true (file_at s n) bytes (rw (at_all_left s.files n) at is)) in record {
      meta = h.meta;
      names = λ n is. h.names n (sym (left_some true (file_at s n)) ∙ (rw (at_all_left s.files n) at is));
      listed = λ n is. h.listed n (sym (left_some true (file_at s n)) ∙ (rw (at_all_left s.files n) at is));
      whole = whole;
      good = (good, tt);
      live = good;
      stamps = stamps_after s.catalog.commit.opstamp (next_after s.catalog.commit.opstamp) refl;
      within = (h.within.0, tt);
      live_within = h.within.0;
    }

-- ---- each event

sound_changes : (s : State) (event : Event) → Fits event → IsSoundState s → OfEachChange IsSoundState s event
sound_changes s event fits h = let w = whole_changes s event h.whole in record {
  same = h;
  lives = λ id segment move. moved_sound s id segment move (w.lives id segment move) h;
  reads = λ now move. read_sound s now move (w.reads now move) h;
  opens = λ id segment component e there absent.
      let range : Fits (events.Open id component) = subst Fits e fits in
      opened_sound s (name_of id segment.deletes component) (name_is_file id segment.deletes component range.0.1.0) (w.opens id segment component e there absent) h;
  puts = λ name body file e good. over_open s name body file e good (w.puts name body file e good) h;
  commits = λ payload ids last e. committed_sound s payload ids (w.commits payload ids last e) h;
  collects = λ outcomes free. collected_sound s (done_of (garbage s) outcomes) (living_spared s outcomes) (w.collects outcomes free) h;
  releases = λ id segment. released_sound s id segment (w.releases id segment) h;
  deletes = λ id m segment may. deleted_sound s id m segment may (w.deletes id m segment may) h;
  begins = λ free. other_collections s (collection_begun s).1.collections (w.begins free) h;
  tries = λ number c name left is_done step there e. tried_sound s number c name left is_done (w.tries number c name left is_done step there e) h;
  finishes = λ number c e there. ended_sound s number c there (w.finishes number c e there) h;
  reopens = λ e. reopened_sound s (w.reopens e) h;
}

-- an event leaves a sound state sound
pub step_sound : (s : State) (event : Event) (outcomes : List Bool) → Fits event → IsSoundState s → IsSoundState (step s event outcomes).1
step_sound s event outcomes fits h = step_changes IsSoundState s event outcomes (sound_changes s event fits h)

-- a name that reads is that of a file
reads_file : (file : Option FileState) (read : Option (List ℕ)) → FileReads file read → IsSome read → is_some file ≡ true
reads_file None read h some = absurd (true≢false (sym some ∙ ap is_some h))
reads_file (Some file) read h some = refl

-- a sealed file that opens reads
sealed_reads : (file : Option FileState) (read : Option (List ℕ)) → FileReads file read → is_sealed file ≡ true → ((bytes : List ℕ) → file ≡ Some (SealedFile bytes) → IsGood bytes) → (bytes : List ℕ) × (read ≡ Some bytes) × IsGood bytes
sealed_reads None read h e good = absurd cc
sealed_reads (Some (SealedFile bytes)) read h e good = (bytes, h, good bytes refl)
sealed_reads (Some (Open body)) read h e good = absurd cc
sealed_reads (Some Left) read h e good = absurd cc

pub sealed_is_some : (file : Option FileState) → is_sealed file ≡ true → is_some file ≡ true
sealed_is_some None e = absurd cc
sealed_is_some (Some file) e = refl

-- an undotted name that reads is managed
listed_of : (settings : Settings) (schema : List ℕ) (reads : Reads) (s : State) → DirectoryHolds settings schema reads s → IsSoundState s → (n : List ℕ) → is_undotted n ≡ true → IsSome (reads n) → has s.managed n ≡ true
listed_of settings schema reads s d h n no_dot some =
    elim (is n meta_name) as (λ b. is n meta_name ≡ b → has s.managed n ≡ true) [
      | true ↦ λ e. subst (λ (m : List ℕ). has s.managed m ≡ true) (sym (is_text n meta_name e)) h.meta
      | false ↦ λ e.
          let other : n ≢ meta_name = λ k. true≢false (sym (is_itself n) ∙ ap (λ (m : List ℕ). is n m) k ∙ e) in
          h.listed n (reads_file (file_at s n) (reads n) (d.files n (no_dot, other)) some)
    ] refl

-- a directory that holds a sound state is sound
pub holds_sound : (settings : Settings) (schema : List ℕ) (reads : Reads) (s : State) → DirectoryHolds settings schema reads s → IsSoundState s → IsSoundImage schema reads
holds_sound settings schema reads s d h = record {
  names = s.managed;
  listing = d.listing;
  listed = listed_of settings schema reads s d h;
  commit =
      subst (IsSoundMeta schema reads) (sym d.meta.1) (
        settings,
        s.catalog.commit,
        d.meta.2,
        has_files_from reads s.catalog.commit (λ n is.
            let e : is_sealed (file_at s n) ≡ true = h.whole.each.0 n is in
            sealed_reads (file_at s n) (reads n) (d.files n (h.names n (sealed_is_some (file_at s n) e))) e
            (λ bytes. h.good.0 n bytes is)),
      );
}

sealed_good : (file : Option FileState) → is_sealed file ≡ true → ((bytes : List ℕ) → file ≡ Some (SealedFile bytes) → IsGood bytes) → (bytes : List ℕ) × (file ≡ Some (SealedFile bytes)) × IsGood bytes
sealed_good None e good = absurd cc
sealed_good (Some (SealedFile bytes)) e good = (bytes, refl, good bytes refl)
sealed_good (Some (Open body)) e good = absurd cc
sealed_good (Some Left) e good = absurd cc

-- the files that the kept commits of a sound state require can be read
pub sound_reads : (s : State) → IsSoundState s → CanRead s
sound_reads s h =
    all_weaker (λ commit. HasSealedFiles s commit × AreGood s commit.segments) (λ commit. AreGoodFiles s (all_required commit.segments)) (kept_commits s.catalog)
    (λ commit k. record { each = λ n is. sealed_good (file_at s n) (k.0 n is) (λ bytes. k.1 n bytes is) })
    (all_both (HasSealedFiles s) (λ commit. AreGood s commit.segments) (kept_commits s.catalog) h.whole.each h.good)
