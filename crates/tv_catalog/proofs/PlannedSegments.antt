-- The plans of the events that change which segments are live, or which of their documents.
use Rattle.std.proofs.Common.{◌≡◌, ℕ, ◌≤◌, ◌<◌, ◌||◌, ◌==◌, nat_lt, Bool, false, List, [], ◌∷◌, codes, Some, refl, sym, ap, subst, ◌∙◌, arith}
use Rattle.std.proofs.lemmas.Bool.{le-ltb, ne_eqb}
use Rattle.std.specs.Fmt.{decimal}
use Rattle.std.specs.List.{AllByRecursion}
use Rattle.std.specs.BTreeMap.{is_at}
use Rattle.hex.specs.Hex.{encode_lower}
use Rattle.tv_formats.specs.declared.segment.LiveSegment.{LiveSegment}
use Rattle.tv_formats.specs.Collections.{Collections, held}
use Rattle.tv_formats.specs.Commits.{IsSegment}
use Rattle.tv_formats.specs.Names.{at, byte_cmp, has}
use Rattle.tv_formats.specs.Segments.{segment_names}
use Rattle.tv_machine.specs.CollectionEvents.{release_segment_step, with_left, without_live}
use Rattle.tv_machine.specs.CommitEvents.{last_stamp}
use Rattle.tv_machine.specs.DeleteEvents.{delete_name, deletes_step, having_deleted_docs, is_committed_delete, is_name_in_use, next_deletes, with_deletes}
use Rattle.tv_events.specs.AnswerLines.{line}
use Rattle.tv_machine.specs.Lines.{unless}
use Rattle.tv_machine.specs.State.{Catalog, State, live_at}
use Rattle.tv_catalog.specs.Actions.{OnlyKeeps, after, catalog_after, changed, loaded_by}
use Rattle.tv_catalog.specs.declared.action.Action.{Action}
use Rattle.tv_catalog.specs.declared.action.Action.TheVariants as actions
use Rattle.tv_catalog.specs.declared.action.Change.{Change}
use Rattle.tv_catalog.specs.declared.action.Change.TheVariants as changes
use Rattle.tv_catalog.specs.declared.action.Reply.{Reply}
use Rattle.tv_catalog.specs.declared.action.Reply.TheVariants as replies
use Rattle.tv_catalog.proofs.SharedLaws.{found_segment, put_segments, all_left}

-- ---- steps

-- the step of deletes of a live segment, by what refuses them
deletes_by : (s : State) (id : List ℕ) (n : ℕ) (segment : LiveSegment) (wrong spent leaving taken : Bool) → live_at s.catalog id ≡ Some segment → nat_lt segment.max_doc n ≡ wrong → (s.catalog.next == last_stamp) ≡ spent
    → has (held s.collections) (delete_name id (Some (next_deletes s.catalog n))) ≡ leaving → is_name_in_use s id (delete_name id (Some (next_deletes s.catalog n))) ≡ taken
    → deletes_step s id n
    ≡ unless s ((wrong, codes "wrong-docs" ∷ []) ∷ (spent, codes "stamps-spent" ∷ []) ∷ (leaving, codes "leaving" ∷ []) ∷ (taken, codes "name-in-use" ∷ []) ∷ []) (having_deleted_docs s id n segment)
deletes_by s id n segment wrong spent leaving taken live a b d e = rw (live, a, b, d, e) refl

-- that of those that nothing refuses, by what is known beside the files
pub planned_deletes : (c : Catalog) (collections : Collections) (managed : List (List ℕ)) (s : State) (id name : List ℕ) (n stamp : ℕ) (segment : LiveSegment) (names : List (List ℕ)) (answer : List ℕ)
    → c ≡ s.catalog → collections ≡ s.collections → managed ≡ s.managed → live_at c id ≡ Some segment → n ≤ segment.max_doc → (stamp ≡ last_stamp → ⊥) → name ≡ delete_name id (Some (next_deletes c n))
    → has (held collections) name ≡ false → (has managed name || is_committed_delete (at c.commit.segments id) id name) ≡ false
    → names ≡ delete_name id segment.deletes ∷ [] → stamp ≡ c.next → answer ≡ line (codes "deletes") (encode_lower id ∷ decimal n ∷ decimal stamp ∷ [])
    → deletes_step s id n ≡ (answer, record s { catalog = with_deletes s.catalog id segment n; files = with_left names s.files })
planned_deletes c collections managed s id name n stamp segment names answer same held_by are live within unspent is spared free whose drawn told =
    let found : live_at s.catalog id ≡ Some segment = ap (λ (k : Catalog). live_at k id) (sym same) ∙ live in
    let name_is : delete_name id (Some (next_deletes s.catalog n)) ≡ name = ap (λ (k : Catalog). delete_name id (Some (next_deletes k n))) (sym same) ∙ sym is in
    let next_is : s.catalog.next ≡ stamp = ap (λ (k : Catalog). k.next) (sym same) ∙ sym drawn in
    let leaving : has (held s.collections) (delete_name id (Some (next_deletes s.catalog n))) ≡ false =
    ap (λ (m : List ℕ). has (held s.collections) m) name_is ∙ ap (λ (k : Collections). has (held k) name) (sym held_by) ∙ spared in
    let taken : is_name_in_use s id (delete_name id (Some (next_deletes s.catalog n))) ≡ false =
    ap (λ (m : List ℕ). is_name_in_use s id m) name_is ∙ ap (λ (k : Catalog). has s.managed name || is_committed_delete (at k.commit.segments id) id name) (sym same)
    ∙ ap (λ (ms : List (List ℕ)). has ms name || is_committed_delete (at c.commit.segments id) id name) (sym are) ∙ free in
    let line_is : line (codes "deletes") (encode_lower id ∷ decimal n ∷ decimal s.catalog.next ∷ []) ≡ answer =
    ap (λ (m : ℕ). line (codes "deletes") (encode_lower id ∷ decimal n ∷ decimal m ∷ [])) next_is ∙ sym told in
    deletes_by s id n segment false false false false found (le-ltb segment.max_doc n within) (ne_eqb s.catalog.next last_stamp (λ e. unspent (sym next_is ∙ e))) leaving taken
    ∙ rw whose (ap (λ (l : List ℕ). (l, (having_deleted_docs s id n segment).1)) line_is)

-- that by which a live segment is released
pub planned_release : (s : State) (id : List ℕ) (segment : LiveSegment) (names : List (List ℕ)) (answer : List ℕ) → live_at s.catalog id ≡ Some segment → names ≡ segment_names (id, segment) → answer ≡ codes "released"
    → release_segment_step s id ≡ (answer, record s { catalog = without_live s.catalog id; files = with_left names s.files })
planned_release s id segment names answer live whose told = rw (live, whose, told) refl

-- ---- live segments

-- a segment with as many deleted documents as it has documents at most is one still
pub deleted_segment : (c : Catalog) (id : List ℕ) (segment : LiveSegment) (n : ℕ) → n ≤ segment.max_doc → c.next < last_stamp → IsSegment (id, segment) → IsSegment (id, record segment { deletes = Some (next_deletes c n) })
deleted_segment c id segment n within next known = record { id = known.id; max_doc = known.max_doc; deletes = within; opstamp = omega (arith, next) }

-- an action that leaves what is read leaves what is known beside the files
only_keeps : (s : State) (action : Action) (reply : Reply) → OnlyKeeps action → (after s action reply).catalog ≡ s.catalog
only_keeps s actions.Nothing reply keeps = refl
only_keeps s (actions.Leave names) replies.Done keeps = refl
only_keeps s (actions.Leave names) other keeps = refl
only_keeps s (actions.Begin living) replies.Done keeps = refl
only_keeps s (actions.Begin living) other keeps = refl
only_keeps s actions.Reopen replies.Done keeps = refl
only_keeps s actions.Reopen other keeps = refl
only_keeps s (actions.Validate names) reply keeps = refl
only_keeps s (actions.Load generation) reply keeps = refl
only_keeps s actions.Lock reply keeps = refl
only_keeps s (actions.Read commit) reply keeps = refl
only_keeps s actions.Unlock reply keeps = refl
only_keeps s other reply keeps = absurd keeps

-- so that the segments after it are those of the change
segments_after : (s : State) (action : Action) (change : Change) (reply : Reply) → OnlyKeeps action → AllByRecursion IsSegment (catalog_after s.catalog change (loaded_by reply)).live → AllByRecursion IsSegment (changed (after s action reply) change reply).catalog.live
segments_after s action change reply keeps h = subst (λ (c : Catalog). AllByRecursion IsSegment (catalog_after c change (loaded_by reply)).live) (sym (only_keeps s action reply keeps)) h

-- those after deletes
pub deleted_segments : (s : State) (action : Action) (id : List ℕ) (segment : LiveSegment) (n : ℕ) (reply : Reply) → OnlyKeeps action → live_at s.catalog id ≡ Some segment → n ≤ segment.max_doc → s.catalog.next < last_stamp → AllByRecursion IsSegment s.catalog.live
    → AllByRecursion IsSegment (changed (after s action reply) (changes.Deletes id segment n) reply).catalog.live
deleted_segments s action id segment n reply keeps live within next h =
    segments_after s action (changes.Deletes id segment n) reply keeps
    (put_segments s.catalog.live id (record segment { deletes = Some (next_deletes s.catalog n) }) (deleted_segment s.catalog id segment n within next (found_segment s.catalog.live id segment live h)) h)

-- those after one was released
pub released_segments : (s : State) (action : Action) (id : List ℕ) (reply : Reply) → OnlyKeeps action → AllByRecursion IsSegment s.catalog.live → AllByRecursion IsSegment (changed (after s action reply) (changes.Release id) reply).catalog.live
released_segments s action id reply keeps h = segments_after s action (changes.Release id) reply keeps (all_left IsSegment s.catalog.live (is_at (byte_cmp id)) h)
