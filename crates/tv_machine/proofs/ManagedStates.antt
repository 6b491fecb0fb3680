-- What holds of the managed names stays so: that they are plain, and that they stand in their order.
use Rattle.std.proofs.Common.{◌≡◌, ℕ, Bool, true, false, cond, not, codes, List, ◌++◌, filter, Option, subst}
use Rattle.std.specs.Fmt.{decimal}
use Rattle.hex.specs.Hex.{encode_lower}
use Rattle.std.specs.List.Sorted.{IsStrictlySortedBy}
use Rattle.std.specs.BTreeSet.{insert_key}
use Rattle.std.proofs.lemmas.List.Kept.{IsStrictlySortedBy-filter}
use Rattle.std.proofs.lemmas.List.Elements.{All-filter}
use Rattle.std.proofs.lemmas.List.Sums.{AllPass-from_list_all, list_all-from_AllPass}
use Rattle.std.proofs.lemmas.Map.Views.{All-insert_key}
use Rattle.tv_events.specs.declared.event.Event.{Event}
use Rattle.tv_events.specs.declared.event.Event.TheVariants as events
use Rattle.tv_formats.specs.declared.segment.DeleteMeta.{DeleteMeta}
use Rattle.tv_formats.specs.declared.segment.SegmentComponent.{SegmentComponent}
use Rattle.tv_formats.specs.Names.{byte_cmp, is_plain, has}
use Rattle.tv_formats.specs.Ids.{IsId}
use Rattle.tv_formats.specs.Segments.{name_of, extension, is_delete, delete_opstamp}
use Rattle.tv_formats.specs.Collections.{done_of}
use Rattle.tv_machine.specs.State.{State}
use Rattle.tv_machine.specs.CollectionEvents.{garbage}
use Rattle.tv_machine.specs.Machine.{Turn, step, after}
use Rattle.tv_events.specs.Script.{Fits}
use Rattle.tv_machine.specs.Telling.{are_plain}
use Rattle.tv_machine.proofs.Changes.{step_changes, after_kept}
use Rattle.tv_formats.proofs.Entries.{sorted_put}
use Rattle.tv_formats.proofs.PlainNames.{delete_plain, other_plain}

-- some of the names, and one more
pub plain_filter : (test : List ℕ → Bool) (names : List (List ℕ)) → are_plain names ≡ true → are_plain (filter test names) ≡ true
plain_filter test names h = list_all-from_AllPass is_plain _ (All-filter test (λ name. is_plain name ≡ true) names (AllPass-from_list_all is_plain names h))

plain_put : (names : List (List ℕ)) (name : List ℕ) → is_plain name ≡ true → are_plain names ≡ true → are_plain (insert_key byte_cmp names name) ≡ true
plain_put names name h k = list_all-from_AllPass is_plain _ (All-insert_key byte_cmp name (λ n. is_plain n ≡ true) names (AllPass-from_list_all is_plain names k) h)

named_plain : (id : List ℕ) (deletes : Option DeleteMeta) (component : SegmentComponent) → IsId id → is_plain (name_of id deletes component) ≡ true
named_plain id deletes component h = either (is_delete component) where
  either : (b : Bool) → is_plain (cond b (encode_lower id ++ codes "." ++ decimal (delete_opstamp deletes) ++ codes ".del") (encode_lower id ++ codes "." ++ extension component)) ≡ true
  either true = delete_plain id (delete_opstamp deletes) h
  either false = other_plain id component h

-- something that holds of the managed names, of some of them, and of them with one that an event opens
pub record Keeps (P : List (List ℕ) → Type 0) (event : Event) : Type 0 where
  pub fewer : (test : List ℕ → Bool) (names : List (List ℕ)) → P names → P (filter test names)
  pub more : (id : List ℕ) (deletes : Option DeleteMeta) (component : SegmentComponent) (names : List (List ℕ)) → event ≡ events.Open id component → P names → P (insert_key byte_cmp names (name_of id deletes component))

-- what an event keeps holds after it
pub step_kept : (P : List (List ℕ) → Type 0) (s : State) (event : Event) (outcomes : List Bool) → Keeps P event → P s.managed → P (step s event outcomes).1.managed
step_kept P s event outcomes keeps h = step_changes (λ u. P u.managed) s event outcomes (record {
  same = h;
  lives = λ id segment move. h;
  reads = λ now move. h;
  opens = λ id segment component e there absent. keeps.more id segment.deletes component s.managed e h;
  puts = λ name body file e good. h;
  commits = λ payload ids last e. h;
  collects = λ outcomes free. keeps.fewer (λ name. not (has (done_of (garbage s) outcomes) name)) s.managed h;
  releases = λ id segment. h;
  deletes = λ id n segment may. h;
  begins = λ free. h;
  tries = λ number c name left is_done step there e. h;
  finishes = λ number c e there. keeps.fewer (λ name. not (has c.done name)) s.managed h;
  reopens = λ e. h;
})

-- an event leaves plain names plain
plain_keeps : (event : Event) → Fits event → Keeps (λ names. are_plain names ≡ true) event
plain_keeps event fits = record {
  fewer = plain_filter;
  more = λ id deletes component names e h.
      let range : Fits (events.Open id component) = subst Fits e fits in
      plain_put names (name_of id deletes component) (named_plain id deletes component range.0.1.0) h;
}

pub step_plain : (s : State) (event : Event) (outcomes : List Bool) → Fits event → are_plain s.managed ≡ true → are_plain (step s event outcomes).1.managed ≡ true
step_plain s event outcomes fits h = step_kept (λ names. are_plain names ≡ true) s event outcomes (plain_keeps event fits) h

-- and sorted names sorted
sorted_keeps : (event : Event) → Keeps (IsStrictlySortedBy byte_cmp) event
sorted_keeps event = record { fewer = λ test names h. IsStrictlySortedBy-filter byte_cmp test names h; more = λ id deletes component names e h. sorted_put names (name_of id deletes component) h }

pub sorted_after : (s : State) (turns : List Turn) → IsStrictlySortedBy byte_cmp s.managed → IsStrictlySortedBy byte_cmp (after s turns).managed
sorted_after s turns h = after_kept (λ t. IsStrictlySortedBy byte_cmp t.managed) (λ t event outcomes k. step_kept (IsStrictlySortedBy byte_cmp) t event outcomes (sorted_keeps event) k) s turns h
