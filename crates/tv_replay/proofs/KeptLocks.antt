-- The locks of a run, in which a reload may wait for its files.
use Rattle.std.proofs.Common.{◌≡◌, ◌≢◌, ◌⊎◌, ◌||◌, ℕ, Bool, cond, true, false, true≢false, List, [], ◌∷◌, Option, Some, None, inl, inr, refl, sym, ap, ◌∙◌}
use Rattle.std.specs.List.{list_any}
use Rattle.std.specs.Option.{IsSomeAnd}
use Rattle.std.specs.BTreeMap.{is_at}
use Rattle.std.specs.Ordering.{nat_cmp}
use Rattle.tv_device.specs.Locks.{FreesLock, Locks, SameLocks, TakesLock}
use Rattle.tv_device.specs.View.{Told, View}
use Rattle.tv_events.specs.declared.event.Event.{Event}
use Rattle.tv_events.specs.declared.event.Event.TheVariants as events
use Rattle.tv_formats.specs.Names.{is}
use Rattle.tv_formats.proofs.Entries.{is_text, isnt_text}
use Rattle.tv_managed.specs.Collecting.{meta_lock_name}
use Rattle.tv_machine.specs.Lines.{is_refused}
use Rattle.tv_machine.specs.Living.{is_busy, is_locked}
use Rattle.tv_machine.specs.ReaderEvents.{reload_refusals}
use Rattle.tv_machine.specs.State.{Catalog, Reader, at_number, reader_at}
use Rattle.tv_catalog.specs.Effects.{ReadsFiles, TakesMetaLock}
use Rattle.tv_store.specs.Applying.{KeepsLocks}
use Rattle.tv_store.specs.ReloadLocks.{FreesLocks}
use Rattle.tv_store.specs.StoreCauses.{writer_lock_name}

-- ---- a reload that waits for its files

first_of : (a b : Bool) → (a || b) ≡ false → a ≡ false
first_of false b h = refl
first_of true b h = h

second_of : (a b : Bool) → (a || (b || false)) ≡ false → b ≡ false
second_of false false h = refl
second_of false true h = h
second_of true b h = absurd (true≢false h)

unrefused : (c : Catalog) (found : Option Reader) → IsSomeAnd found (λ reader. is_refused (reload_refusals c reader) ≡ false) → is_busy c ≡ false
unrefused c None h = absurd h
unrefused c (Some reader) h = second_of _ _ h

-- none does where an event takes the meta lock
pub takes_unlocked : (c : Catalog) (event : Event) → TakesMetaLock c event → is_busy c ≡ false
takes_unlocked c events.Gc takes = takes
takes_unlocked c events.GcBegin takes = takes
takes_unlocked c (events.Reader policy) takes = takes
takes_unlocked c (events.Reload number) takes = unrefused c (reader_at c number) takes
takes_unlocked c (events.ReloadLock number) takes = unrefused c (reader_at c number) takes
takes_unlocked c events.Deliver takes = first_of _ _ takes.0
takes_unlocked c other takes = absurd takes

either_locked : (b rest : Bool) → b ≡ true → (b || rest) ≡ true
either_locked true rest h = refl
either_locked false rest h = absurd (true≢false (sym h))

behind_locked : (b rest : Bool) → rest ≡ true → (b || rest) ≡ true
behind_locked true rest h = refl
behind_locked false rest h = h

locked_at : (n : ℕ) (readers : List (ℕ × Reader)) → IsSomeAnd (at_number readers n) (λ reader. is_locked reader ≡ true) → list_any (λ e. is_locked e.1) readers ≡ true
locked_at n [] h = absurd h
locked_at n (e ∷ readers) h =
    elim (is_at (nat_cmp n) e.0) as (λ b. IsSomeAnd (cond b (Some e.1) (at_number readers n)) (λ reader. is_locked reader ≡ true) → list_any (λ f. is_locked f.1) (e ∷ readers) ≡ true) [
      | true ↦ λ there. either_locked (is_locked e.1) _ there
      | false ↦ λ there. behind_locked (is_locked e.1) _ (locked_at n readers there)
    ] h

-- an event that reads files takes the meta lock, or has it: its reload waits for them
pub reads_locked : (c : Catalog) (event : Event) → ReadsFiles c event → TakesMetaLock c event ⊎ (is_busy c ≡ true)
reads_locked c (events.Reader policy) reads = inl reads
reads_locked c (events.Reload number) reads = inl reads
reads_locked c events.Deliver reads = inl reads
reads_locked c (events.ReloadOpen number) reads = inr (locked_at number c.reading.readers reads)
reads_locked c other reads = absurd reads

-- ---- one event after the other

pub same_then : {start mid new : Locks} → SameLocks start mid → SameLocks mid new → SameLocks start new
same_then before after n = after n ∙ before n

-- a lock that was taken and freed
pub freed_again : (start taken back : Locks) (name : List ℕ) → TakesLock start taken name → FreesLock taken back name → SameLocks start back
freed_again start taken back name took freed n =
    elim (is name n) as (λ b. is name n ≡ b → back n ≡ start n) [
      | true ↦ λ e.
          let same : name ≡ n = is_text name n e in
          ap back (sym same) ∙ freed.is_free ∙ sym took.was_free ∙ ap start same
      | false ↦ λ e.
          let other : n ≢ name = isnt_text name n e in
          freed.others n other ∙ took.others n other
    ] refl

-- the locks of a run in which no reload waited at its start, after one more event
pub locks_then : (was now : Bool) (start mid new : Locks) → KeepsLocks false was start mid → KeepsLocks was now mid new → KeepsLocks false now start new
locks_then false false start mid new before after = same_then before after
locks_then false true start mid new before after = record {
  was_free = sym (before meta_lock_name) ∙ after.was_free;
  is_held = after.is_held;
  others = λ n other. after.others n other ∙ before n;
}
locks_then true true start mid new before after = record {
  was_free = before.was_free;
  is_held = after meta_lock_name ∙ before.is_held;
  others = λ n other. after n ∙ before.others n other;
}
locks_then true false start mid new before after = freed_again start mid new meta_lock_name before after

-- where a reload waits for its files, nobody held the meta lock at the start
pub busy_was_free : (now : Bool) (start new : Locks) → KeepsLocks false now start new → now ≡ true → start meta_lock_name ≡ false
busy_was_free true start new h busy = h.was_free
busy_was_free false start new h busy = absurd (true≢false (sym busy))

-- and where none does, it is held as at the start
pub idle_same : (now : Bool) (start new : Locks) → KeepsLocks false now start new → now ≡ false → new meta_lock_name ≡ start meta_lock_name
idle_same false start new h idle = h meta_lock_name
idle_same true start new h idle = absurd (true≢false idle)

-- an event takes the meta lock, and finds it as at the start of the run
pub lock_since : (tells : Type 0) (c : Catalog) (event : Event) (start now : Locks) → (tells → KeepsLocks false (is_busy c) start now) → tells → TakesMetaLock c event → now meta_lock_name ≡ start meta_lock_name
lock_since tells c event start now locks t takes = idle_same (is_busy c) start now (locks t) (takes_unlocked c event takes)

-- an event that reads files has the meta lock, which was free at the start of the run
pub free_since : (tells : Type 0) (c : Catalog) (event : Event) (start now : Locks) → (tells → KeepsLocks false (is_busy c) start now) → (tells → TakesMetaLock c event → now meta_lock_name ≡ false)
    → tells → ReadsFiles c event → start meta_lock_name ≡ false
free_since tells c event start now locks free t reads = either (reads_locked c event reads) where
  either : TakesMetaLock c event ⊎ (is_busy c ≡ true) → start meta_lock_name ≡ false
  either (inl takes) = sym (lock_since tells c event start now locks t takes) ∙ free t takes
  either (inr busy) = busy_was_free (is_busy c) start now (locks t) busy

-- ---- the end of a run

pub names_differ : meta_lock_name ≢ writer_lock_name
names_differ e = absurd cc

module _ {W : Type 0} (told : Told) (start opened : Locks) (busy : Bool) (new now : View W) (tells : told.locks) (took : TakesLock start opened writer_lock_name)
    (ran : KeepsLocks false busy opened new.locks) (freed : FreesLocks told writer_lock_name busy new now) where
  meta_is : (b : Bool) → busy ≡ b → now.locks meta_lock_name ≡ start meta_lock_name
  meta_is true is = freed.meta tells is ∙ sym (busy_was_free busy opened new.locks ran is) ∙ took.others meta_lock_name names_differ
  meta_is false is =
      freed.others tells meta_lock_name names_differ (λ held. absurd (true≢false (sym held ∙ is))) ∙ idle_same busy opened new.locks ran is ∙ took.others meta_lock_name names_differ

  other_is : (b : Bool) (n : List ℕ) → KeepsLocks false b opened new.locks → n ≢ meta_lock_name → new.locks n ≡ opened n
  other_is true n h other = h.others n other
  other_is false n h other = h n

  -- the locks are those of the start again
  pub all_freed : SameLocks start now.locks
  all_freed n =
      elim (is writer_lock_name n) as (λ b. is writer_lock_name n ≡ b → now.locks n ≡ start n) [
        | true ↦ λ e.
            let same : writer_lock_name ≡ n = is_text writer_lock_name n e in
            ap now.locks (sym same) ∙ freed.freed tells ∙ sym took.was_free ∙ ap start same
        | false ↦ λ e.
            let writer : n ≢ writer_lock_name = isnt_text writer_lock_name n e in
            elim (is meta_lock_name n) as (λ b. is meta_lock_name n ≡ b → now.locks n ≡ start n) [
              | true ↦ λ f.
                  let same : meta_lock_name ≡ n = is_text meta_lock_name n f in
                  ap now.locks (sym same) ∙ meta_is busy refl ∙ ap start same
              | false ↦ λ f.
                  let meta : n ≢ meta_lock_name = isnt_text meta_lock_name n f in
                  freed.others tells n writer (λ held. meta) ∙ other_is busy n ran meta ∙ took.others n writer
            ] refl
      ] refl
