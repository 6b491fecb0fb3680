-- An event of deletes draws a new name.
use Rattle.std.proofs.Common.{◌≡◌, ◌≢◌, ◌⊎◌, inl, inr, ℕ, ◌+◌, ◌^◌, ◌≤◌, ◌<◌, ◌==◌, Bool, true, false, true≢false, cond, List, [], ◌∷◌, map, codes, Option, Some, refl, sym, ap, subst, ◌∙◌, arith}
use Rattle.std.proofs.Math.Nat.{lt_of_not-le}
use Rattle.std.specs.Prelude.{nat_lt}
use Rattle.std.specs.Fmt.{decimal}
use Rattle.std.specs.List.{flat_map, AllByRecursion}
use Rattle.std.specs.BTreeMap.{is_at}
use Rattle.std.proofs.lemmas.Bool.{false_from_ne_true, or_parts}
use Rattle.tv_events.specs.declared.event.Event.{Event}
use Rattle.tv_formats.specs.declared.segment.LiveSegment.{LiveSegment}
use Rattle.tv_formats.specs.declared.segment.DeleteMeta.{DeleteMeta}
use Rattle.tv_formats.specs.declared.segment.SegmentComponent.{SegmentComponent}
use Rattle.tv_formats.specs.Names.{byte_cmp, is, has, meta_name, at}
use Rattle.tv_formats.specs.Segments.{components, delete_opstamp, name_of, segment_names}
use Rattle.tv_formats.specs.Collections.{held}
use Rattle.tv_machine.specs.CommitEvents.{last_stamp}
use Rattle.tv_machine.specs.DeleteEvents.{delete_name, next_deletes, is_committed_delete, is_name_in_use, having_deleted_docs, deletes_step}
use Rattle.tv_machine.specs.Index.{as_opened, first_catalog, next_after}
use Rattle.tv_machine.specs.Living.{current_and_pinned, living}
use Rattle.tv_machine.specs.Machine.{step}
use Rattle.tv_machine.specs.NewNames.{DrawsBefore, DrawsInOrder, IsNewDelete}
use Rattle.tv_machine.specs.State.{Catalog, State, StepResult, live_at, file_at}
use Rattle.tv_machine.specs.SoundStates.{IsSoundState}
use Rattle.tv_machine.proofs.Changes.{SegmentMove, IsNew, HasDocs, OfEachChange, given_all, none_is, other, step_changes, unless_all}
use Rattle.tv_formats.proofs.CollectedNames.{has_append}
use Rattle.tv_formats.proofs.DeleteNames.{delete_number, meta_no_delete}
use Rattle.tv_formats.proofs.Entries.{is_itself, is_text}
use Rattle.tv_machine.proofs.HeldStates.{living_parts}
use Rattle.tv_formats.proofs.Required.{by_one, each_put, each_some, each_left}
use Rattle.tv_machine.proofs.ReaderMoves.{all_weaker}

-- ---- numbers of deletes

abbrev Below : ℕ → LiveSegment → Type 0
Below n segment = delete_opstamp segment.deletes < n

abbrev AllBelow : ℕ → List (List ℕ × LiveSegment) → Type 0
AllBelow n segments = AllByRecursion (λ e. Below n e.1) segments

higher : (n m : ℕ) (segments : List (List ℕ × LiveSegment)) → n ≤ m → AllBelow n segments → AllBelow m segments
higher n m segments le h = all_weaker (λ e. Below n e.1) (λ e. Below m e.1) segments (λ e lt. omega (arith, le, lt)) h

-- one number more is left
one_more : (n last : ℕ) → n ≢ last → n ≤ last → n + 1 ≤ last
one_more n last differs le = let lt : n < last = lt_of_not-le (λ ge. differs (omega (arith, le, ge))) in omega (arith, lt)

next_fits : (opstamp last : ℕ) → opstamp ≤ last → cond (opstamp == last) last (opstamp + 1) ≤ last
next_fits opstamp last le =
    elim (opstamp == last) as (λ b. (opstamp == last) ≡ b → cond b last (opstamp + 1) ≤ last) [ true ↦ λ t. omega arith | false ↦ λ t. one_more opstamp last (other opstamp last t) le ] refl

next_above : (opstamp last n : ℕ) → n ≤ opstamp → cond (opstamp == last) last (opstamp + 1) ≢ last → n < cond (opstamp == last) last (opstamp + 1)
next_above opstamp last n le =
    elim (opstamp == last) as (λ b. cond b last (opstamp + 1) ≢ last → n < cond b last (opstamp + 1)) [ true ↦ λ differs. absurd (differs refl) | false ↦ λ differs. omega (arith, le) ]

-- an index that was just opened, where its commit's deletes were drawn before it
opened_in_order : (c : Catalog) → c.commit.opstamp ≤ last_stamp
    → AllByRecursion DrawsBefore (current_and_pinned c) → DrawsInOrder (as_opened c)
opened_in_order c fits h =
    let commit = c.commit in
    record {
      committed = h;
      live = λ left.
          all_weaker (λ e. delete_opstamp e.1.deletes ≤ commit.opstamp)
          (λ e. Below (next_after commit.opstamp) e.1) commit.segments
          (λ e le. next_above commit.opstamp last_stamp (delete_opstamp e.1.deletes) le left) h.0;
      next = next_fits commit.opstamp last_stamp fits;
    }

-- the next number isn't 0
some_next : (s : State) → IsSoundState s → 0 < s.catalog.next
some_next s sound = either sound.stamps where
  either : ((s.catalog.commit.opstamp < s.catalog.next) ⊎ ((s.catalog.commit.opstamp ≡ last_stamp) × (s.catalog.next ≡ last_stamp))) → 0 < s.catalog.next
  either (inl below) = omega (arith, below)
  either (inr ends) = omega (arith, ends.1)

commit_fits : (s : State) → IsSoundState s → s.catalog.next ≤ last_stamp → s.catalog.commit.opstamp ≤ last_stamp
commit_fits s sound le = either sound.stamps where
  either : ((s.catalog.commit.opstamp < s.catalog.next) ⊎ ((s.catalog.commit.opstamp ≡ last_stamp) × (s.catalog.next ≡ last_stamp))) → s.catalog.commit.opstamp ≤ last_stamp
  either (inl below) = omega (arith, below, le)
  either (inr ends) = omega (arith, ends.0)

moved_below : (s : State) (id : List ℕ) (segment : LiveSegment) → IsSoundState s → SegmentMove s id segment → AllBelow s.catalog.next s.catalog.live → Below s.catalog.next segment
moved_below s id segment sound (IsNew free) h = some_next s sound
moved_below s id segment sound (HasDocs n old there none) h = found_below s.catalog.live there h where
  found_below : (es : List (List ℕ × LiveSegment)) → at es id ≡ Some old → AllBelow s.catalog.next es → Below s.catalog.next old
  found_below [] e h = absurd cc
  found_below (x ∷ es) e h =
      elim (is_at (byte_cmp id) x.0) as (λ b. cond b (Some x.1) (at es id) ≡ Some old → Below s.catalog.next old) [
        | true ↦ λ k. let same : x.1 ≡ old = cc in subst (Below s.catalog.next) same h.0
        | false ↦ λ k. found_below es k h.1
      ] e

order_changes : (s : State) (event : Event) → IsSoundState s → DrawsInOrder s.catalog → OfEachChange (λ t. DrawsInOrder t.catalog) s event
order_changes s event sound h = record {
  same = h;
  lives = λ id segment move. record { committed = h.committed; live = λ left. each_put (Below s.catalog.next) s.catalog.live id segment (h.live left) (moved_below s id segment sound move (h.live left)); next = h.next };
  reads = λ now move. record { committed = h.committed; live = h.live; next = h.next };
  opens = λ id segment component e there absent. h;
  puts = λ name body file e good. h;
  commits = λ payload ids last e. record {
    committed = (all_weaker (λ e. Below s.catalog.next e.1) (λ e. delete_opstamp e.1.deletes ≤ s.catalog.next) _ (λ e lt. omega (arith, lt)) (each_some (Below s.catalog.next) _ s.catalog.live (h.live last)), tt);
    live = λ left. higher s.catalog.next (s.catalog.next + 1) s.catalog.live (omega arith) (h.live last);
    next = one_more s.catalog.next last_stamp last h.next;
  };
  collects = λ outcomes free. h;
  releases = λ id segment. record { committed = h.committed; live = λ left. each_left (Below s.catalog.next) (is_at (byte_cmp id)) s.catalog.live (h.live left); next = h.next };
  deletes = λ id n segment may. record {
    committed = h.committed;
    live = λ left.
        each_put (Below (s.catalog.next + 1)) s.catalog.live id (record segment { deletes = Some (next_deletes s.catalog n) })
        (higher s.catalog.next (s.catalog.next + 1) s.catalog.live (omega arith) (h.live may.last)) (omega arith);
    next = one_more s.catalog.next last_stamp may.last h.next;
  };
  begins = λ free. h;
  tries = λ number c name left is_done step there e. h;
  finishes = λ number c e there. h;
  reopens = λ e. opened_in_order s.catalog (commit_fits s sound h.next) h.committed;
}

-- the numbers are drawn in order in an index that was just made, and after each event
pub first_in_order : DrawsInOrder first_catalog
first_in_order = opened_in_order first_catalog (omega arith) (tt, tt)

pub step_in_order : (s : State) (event : Event) (outcomes : List Bool) → IsSoundState s → DrawsInOrder s.catalog → DrawsInOrder (step s event outcomes).1.catalog
step_in_order s event outcomes sound h = step_changes (λ t. DrawsInOrder t.catalog) s event outcomes (order_changes s event sound h)

-- ---- the new name

-- the delete file of the commit's segment has another name
another : (committed : Option LiveSegment) (id name : List ℕ) (segment : LiveSegment) → is_committed_delete committed id name ≡ false → committed ≡ Some segment → delete_name id segment.deletes ≢ name
another committed id name segment e there =
    let differs : is (delete_name id segment.deletes) name ≡ false = sym (ap (λ (x : Option LiveSegment). is_committed_delete x id name) there) ∙ e in
    λ same. true≢false (sym (is_itself name) ∙ ap (λ (m : List ℕ). is m name) (sym same) ∙ differs)

-- no file of a segment whose deletes have a lower number has the name
own_other : (id other : List ℕ) (deletes : Option DeleteMeta) (those : List SegmentComponent) (drawn : DeleteMeta) → delete_opstamp deletes < drawn.opstamp → drawn.opstamp < 2 ^ 64
    → has (map (name_of other deletes) those) (delete_name id (Some drawn)) ≡ true → ⊥
own_other id other deletes [] drawn lt small h = true≢false (sym h)
own_other id other deletes (component ∷ those) drawn lt small h =
    by_one (is (name_of other deletes component) (delete_name id (Some drawn))) (has (map (name_of other deletes) those) (delete_name id (Some drawn))) h
    (λ same. absurd (omega (arith, lt, delete_number other id deletes component drawn.opstamp (omega (arith, lt, small)) small (is_text (name_of other deletes component) (delete_name id (Some drawn)) same))))
    (own_other id other deletes those drawn lt small)

segments_other : (id : List ℕ) (segments : List (List ℕ × LiveSegment)) (drawn : DeleteMeta) → drawn.opstamp < 2 ^ 64 → AllBelow drawn.opstamp segments → has (flat_map segment_names segments) (delete_name id (Some drawn)) ≡ false
segments_other id [] drawn small h = refl
segments_other id (e ∷ segments) drawn small h =
    let own : has (segment_names e) (delete_name id (Some drawn)) ≡ false = false_from_ne_true _ (own_other id e.0 e.1.deletes components drawn h.0 small) in
    has_append (segment_names e) (flat_map segment_names segments) (delete_name id (Some drawn)) ∙ (rw own (segments_other id segments drawn small h.1))

all_committed : (s : State) → IsSoundState s → s.catalog.next ≢ last_stamp → DrawsInOrder s.catalog → AllBelow s.catalog.next s.catalog.commit.segments
all_committed s sound left h = either sound.stamps where
  either : ((s.catalog.commit.opstamp < s.catalog.next) ⊎ ((s.catalog.commit.opstamp ≡ last_stamp) × (s.catalog.next ≡ last_stamp))) → AllBelow s.catalog.next s.catalog.commit.segments
  either (inl below) = all_weaker (λ e. delete_opstamp e.1.deletes ≤ s.catalog.commit.opstamp) (λ e. Below s.catalog.next e.1) s.catalog.commit.segments (λ e le. omega (arith, le, below)) h.committed.0
  either (inr ends) = absurd (left ends.1)

unneeded : (s : State) (id : List ℕ) (n : ℕ) → IsSoundState s → s.catalog.next ≢ last_stamp → DrawsInOrder s.catalog → has (living s.catalog) (delete_name id (Some (next_deletes s.catalog n))) ≡ false
unneeded s id n sound left h =
    let drawn = next_deletes s.catalog n in
    let name = delete_name id (Some drawn) in
    let small : s.catalog.next < 2 ^ 64 = omega (arith, h.next) in
    let no_meta : is meta_name name ≡ false = false_from_ne_true _ (λ same. meta_no_delete id (decimal s.catalog.next) (is_text meta_name name same)) in
    living_parts s.catalog name ∙ (rw (no_meta, segments_other id s.catalog.commit.segments drawn small (all_committed s sound left h), segments_other id s.catalog.live drawn small (h.live left)) refl)

-- where the event changes something, it wasn't refused
pub new_delete : (s : State) (id : List ℕ) (n : ℕ) → IsSoundState s → (deletes_step s id n).1 ≢ s → IsNewDelete s id (delete_name id (Some (next_deletes s.catalog n)))
new_delete s id n h =
    let name = delete_name id (Some (next_deletes s.catalog n)) in
    given_all (λ (result : StepResult State). result.1 ≢ s → IsNewDelete s id name) s (live_at s.catalog id) _ _ (λ changed. absurd (changed refl)) (λ segment there.
    unless_all (λ (result : StepResult State). result.1 ≢ s → IsNewDelete s id name) s (
    (nat_lt segment.max_doc n, codes "wrong-docs" ∷ [])
    ∷ (s.catalog.next == last_stamp, codes "stamps-spent" ∷ [])
    ∷ (has (held s.collections) name, codes "leaving" ∷ [])
    ∷ (is_name_in_use s id name, codes "name-in-use" ∷ [])
    ∷ []
    ) (having_deleted_docs s id n segment) (λ words changed. absurd (changed refl)) (λ none changed.
    let free = or_parts (has s.managed name) (is_committed_delete (at s.catalog.commit.segments id) id name) none.1.1.1.0 in record {
      absent = none_is (file_at s name) (false_from_ne_true _ (λ there. true≢false (sym (h.listed name there) ∙ free.0)));
      fresh = free.0;
      spared = none.1.1.0;
      other = λ segment there. another (at s.catalog.commit.segments id) id name segment free.1 there;
      unneeded = λ draws. unneeded s id n h (other s.catalog.next last_stamp none.1.0) draws;
    }))
