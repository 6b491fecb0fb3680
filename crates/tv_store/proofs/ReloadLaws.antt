-- The laws of reloads in steps, from what an event that was applied did.
use Rattle.std.proofs.Common.{◌≡◌, ℕ, ◌+◌, Bool, true, false, true≢false, List, [], ◌∷◌, codes, Option, Some, None, is_some, option_and_then, refl, sym, ap, subst, ◌∙◌}
use Rattle.std.specs.Option.{IsSomeAnd}
use Rattle.tv_device.specs.Locks.{Locks}
use Rattle.tv_device.specs.declared.directory.Directory.{Ghosts}
use Rattle.tv_events.specs.declared.event.Event.{Event}
use Rattle.tv_events.specs.declared.event.Event.TheVariants as events
use Rattle.tv_formats.proofs.Numbered.{found, put_found}
use Rattle.tv_formats.specs.Collections.{Rises}
use Rattle.tv_formats.specs.Commits.{Commit}
use Rattle.tv_machine.proofs.Changes.{given_all, the_step, unless_all}
use Rattle.tv_machine.proofs.Locks.{gone_free, locked_busy}
use Rattle.tv_machine.specs.Lines.{given, is_refused, unless}
use Rattle.tv_machine.specs.Living.{HasOneLock, holds_lock, is_busy, is_locked, unread_by}
use Rattle.tv_machine.specs.Machine.{step}
use Rattle.tv_machine.specs.ReaderEvents.{bodies_in, release_reader_step, reload_refusals, reload_step, reloaded, without_reader}
use Rattle.tv_machine.specs.ReloadEvents.{commit_noted, deliver_refusals, reload_lock_step, reload_publish_step, with_reader}
use Rattle.tv_machine.specs.State.{Catalog, Locked, Read, Reader, Snapshot, StepResult, reader_at}
use Rattle.tv_managed.specs.Collecting.{meta_lock_name}
use Rattle.tv_catalog.specs.Effects.{MayReload}
use Rattle.tv_store.specs.Applying.{KeepsLocks, Stepped}
use Rattle.tv_store.specs.EventLaws.{HoldsSome, LocksMeanwhile}
use Rattle.tv_store.specs.Kept.{StoreState}

-- ---- the lock

pub meanwhile : (was now : Bool) (old new : Locks) → KeepsLocks was now old new → LocksMeanwhile meta_lock_name was now old new
meanwhile false false old new same = record { begins = λ a b. absurd (true≢false (sym b)); ends = λ a b. absurd (true≢false (sym a)); stays = λ e. same meta_lock_name }
meanwhile true true old new same = record { begins = λ a b. absurd (true≢false a); ends = λ a b. absurd (true≢false b); stays = λ e. same meta_lock_name }
meanwhile false true old new takes = record { begins = λ a b. (takes.was_free, takes.is_held); ends = λ a b. absurd (true≢false (sym a)); stays = λ e. absurd (true≢false e) }
meanwhile true false old new frees = record { begins = λ a b. absurd (true≢false a); ends = λ a b. frees.is_free; stays = λ e. absurd (true≢false (sym e)) }

is_freed : (was now : Bool) (old new : Locks) → KeepsLocks was now old new → was ≡ true → now ≡ false → new meta_lock_name ≡ false
is_freed was now old new h busy free = (meanwhile was now old new h).ends busy free

-- ---- refusals

unrefused : {S : Type 0} (s : S) (refusals : List (Bool × List (List ℕ))) (result : StepResult S) → is_refused refusals ≡ false → unless s refusals result ≡ result
unrefused s [] result none = refl
unrefused s ((true, words) ∷ refusals) result none = absurd (true≢false none)
unrefused s ((false, words) ∷ refusals) result none = unrefused s refusals result none

refused_stays : {S : Type 0} (s : S) (refusals : List (Bool × List (List ℕ))) (result : StepResult S) → is_refused refusals ≡ true → (unless s refusals result).1 ≡ s
refused_stays s [] result one = absurd (true≢false (sym one))
refused_stays s ((true, words) ∷ refusals) result one = refl
refused_stays s ((false, words) ∷ refusals) result one = refused_stays s refusals result one

-- a reload that may begin does so
begun : (c : Catalog) (there : Option Reader) (next : Reader → StepResult Catalog) → IsSomeAnd there (λ reader. is_refused (reload_refusals c reader) ≡ false)
    → (was : Reader) × (there ≡ Some was) × (given c there (codes "unknown-reader") (λ reader. unless c (reload_refusals c reader) (next reader)) ≡ next was)
begun c None next may = absurd may
begun c (Some was) next may = (was, refl, unrefused c (reload_refusals c was) (next was) may)

-- the reader that was put at a number is the one there
put_is : (c : Catalog) (number : ℕ) (new reader : Reader) → reader_at (with_reader c number new) number ≡ Some reader → new ≡ reader
put_is c number new reader there = the_step (sym (put_found c.reading.readers number new) ∙ there)

-- what a reload that may begin shows
pub reload_shown : (c : Catalog) (number : ℕ) (bodies : List (List (List ℕ))) (reader : Reader) → MayReload c number → reader_at (reload_step c number bodies).1 number ≡ Some reader
    → ((reload_step c number bodies).1.commit ≡ c.commit) × (reader.shown.commit ≡ c.commit)
reload_shown c number bodies reader may there =
    let did = begun c (reader_at c number) (reloaded c number bodies) may in
    let shown : Snapshot = record { generation = did.0.next; commit = c.commit; bodies = bodies } in
    let next : Reader = record did.0 { next = did.0.next + 1; shown = shown } in
    let one : next ≡ reader = put_is c number next reader (ap (λ (t : StepResult Catalog). reader_at t.1 number) (sym did.2) ∙ there) in
    (ap (λ (t : StepResult Catalog). t.1.commit) did.2, ap (λ (r : Reader). r.shown.commit) (sym one))

-- ---- one that begins

abbrev waiting : Catalog → Reader → Reader
waiting c reader = record reader { reload = Some (Locked c.commit) }

lock_waits : (c : Catalog) (number : ℕ) → MayReload c number → is_busy (reload_lock_step c number).1 ≡ true
lock_waits c number may =
    let did = begun c (reader_at c number) (commit_noted c number) may in
    let now = with_reader c number (waiting c did.0) in
    ap (λ (t : StepResult Catalog). is_busy t.1) did.2
    ∙ found (λ e. is_locked e.1 ≡ true → is_busy now ≡ true) now.reading.readers number (waiting c did.0) (locked_busy now) (put_found c.reading.readers number (waiting c did.0)) refl

lock_notes : (c : Catalog) (number : ℕ) (reader : Reader) → MayReload c number → reader_at (reload_lock_step c number).1 number ≡ Some reader → reader.reload ≡ Some (Locked c.commit)
lock_notes c number reader may there =
    let did = begun c (reader_at c number) (commit_noted c number) may in
    ap (λ (r : Reader). r.reload) (sym (put_is c number (waiting c did.0) reader (ap (λ (t : StepResult Catalog). reader_at t.1 number) (sym did.2) ∙ there)))

-- ---- one that ends

publish_shows : (c : Catalog) (number : ℕ) (was now : Reader) (noted : Commit) (bodies : List (List (List ℕ))) → reader_at c number ≡ Some was → was.reload ≡ Some (Read noted bodies)
    → reader_at (reload_publish_step c number).1 number ≡ Some now → (now.shown.commit ≡ noted) × (now.shown.bodies ≡ bodies)
publish_shows c number was now noted bodies is read there =
    let shown : Snapshot = record { generation = was.next; commit = noted; bodies = bodies } in
    let next : Reader = record was { next = was.next + 1; shown = shown; reload = None } in
    let did : (reload_publish_step c number).1 ≡ with_reader c number next = rw (is, read) refl in
    let one : next ≡ now = put_is c number next now (ap (λ (d : Catalog). reader_at d number) (sym did) ∙ there) in
    (ap (λ (r : Reader). r.shown.commit) (sym one), ap (λ (r : Reader). r.shown.bodies) (sym one))

-- a reader that holds the lock is there
holder : (there : Option Reader) → is_some (option_and_then (λ reader. unread_by reader.reload) there) ≡ true → (reader : Reader) × (there ≡ Some reader) × (is_locked reader ≡ true)
holder None none = absurd (true≢false (sym none))
holder (Some reader) locked = (reader, refl, locked)

released_free : (c : Catalog) (number : ℕ) → HasOneLock c.reading.readers → Rises c.reading.readers → holds_lock c number ≡ true → (is_busy c ≡ true) × (is_busy (release_reader_step c number).1 ≡ false)
released_free c number one rises holds =
    let who = holder (reader_at c number) holds in
    let was : is_busy c ≡ true = found (λ e. is_locked e.1 ≡ true → is_busy c ≡ true) c.reading.readers number who.0 (locked_busy c) who.1 who.2 in
    let gone : (release_reader_step c number).1 ≡ without_reader c number = rw who.1 refl in
    (was, ap is_busy gone ∙ gone_free c number who.0 one rises who.1 who.2)

-- ---- notices

-- the reader of this number after a step has the notice that this one had
abbrev Keeps : (number : ℕ) (was now : Reader) → StepResult Catalog → Type 0
Keeps number was now t = reader_at t.1 number ≡ Some now → now.has_notice ≡ was.has_notice

reload_keeps_notice : (c : Catalog) (number : ℕ) (bodies : List (List (List ℕ))) (was now : Reader) → reader_at c number ≡ Some was → reader_at (reload_step c number bodies).1 number ≡ Some now → now.has_notice ≡ was.has_notice
reload_keeps_notice c number bodies was now is there =
    given_all (Keeps number was now) c (reader_at c number) _ _ stays (λ reader here.
    unless_all (Keeps number was now) c (reload_refusals c reader) (reloaded c number bodies reader) (λ words. stays) (λ none is_now.
    let one : reader ≡ was = the_step (sym here ∙ is) in
    ap (λ (r : Reader). r.has_notice) (sym (put_is c number (record reader { next = reader.next + 1; shown = record { generation = reader.next; commit = c.commit; bodies = bodies } }) now is_now)) ∙ ap (λ (r : Reader). r.has_notice) one)) there where
      stays : reader_at c number ≡ Some now → now.has_notice ≡ was.has_notice
      stays is_now = ap (λ (r : Reader). r.has_notice) (the_step (sym is_now ∙ is))

-- ---- the laws

module _ {O W C : Type 0} (g : Ghosts O W C) (old new : StoreState O) (h : HoldsSome g old) where
  known_after : (event : Event) (answer : List ℕ) (did : Stepped g old new event answer) → new.kept.catalog ≡ (step h.state event did.outcomes).1.catalog
  known_after event answer did = (did.each h.tells h.state h.held h.whole).held.catalog

  -- what is known before is that of the state
  of_state : (P : Catalog → Type 0) → P old.kept.catalog → P h.state.catalog
  of_state P p = subst P h.held.catalog p

  module _ (number : ℕ) (answer : List ℕ) where
    pub waits : (did : Stepped g old new (events.ReloadLock number) answer) → MayReload old.kept.catalog number → is_busy new.kept.catalog ≡ true
    waits did may = ap is_busy (known_after (events.ReloadLock number) answer did) ∙ lock_waits h.state.catalog number (of_state (λ c. MayReload c number) may)

    pub notes : (did : Stepped g old new (events.ReloadLock number) answer) (reader : Reader) → MayReload old.kept.catalog number → reader_at new.kept.catalog number ≡ Some reader → reader.reload ≡ Some (Locked old.kept.catalog.commit)
    notes did reader may there =
        lock_notes h.state.catalog number reader (of_state (λ c. MayReload c number) may) (ap (λ (c : Catalog). reader_at c number) (sym (known_after (events.ReloadLock number) answer did)) ∙ there)
        ∙ ap (λ (c : Catalog). Some (Locked c.commit)) (sym h.held.catalog)

    pub publishes : (did : Stepped g old new (events.ReloadPublish number) answer) (was now : Reader) (noted : Commit) (bodies : List (List (List ℕ))) → reader_at old.kept.catalog number ≡ Some was → was.reload ≡ Some (Read noted bodies)
        → reader_at new.kept.catalog number ≡ Some now → (now.shown.commit ≡ noted) × (now.shown.bodies ≡ bodies)
    publishes did was now noted bodies is read there =
        publish_shows h.state.catalog number was now noted bodies (of_state (λ c. reader_at c number ≡ Some was) is) read (ap (λ (c : Catalog). reader_at c number) (sym (known_after (events.ReloadPublish number) answer did)) ∙ there)

    pub frees : (did : Stepped g old new (events.ReleaseReader number) answer) → HasOneLock old.kept.catalog.reading.readers → Rises old.kept.catalog.reading.readers → holds_lock old.kept.catalog number ≡ true
        → KeepsLocks (is_busy old.kept.catalog) (is_busy new.kept.catalog) (g.view old.outside).locks (g.view new.outside).locks → (g.view new.outside).locks meta_lock_name ≡ false
    frees did one rises holds keeps =
        let freed = released_free h.state.catalog number (of_state (λ c. HasOneLock c.reading.readers) one) (of_state (λ c. Rises c.reading.readers) rises) (of_state (λ c. holds_lock c number ≡ true) holds) in
        is_freed (is_busy old.kept.catalog) (is_busy new.kept.catalog) (g.view old.outside).locks (g.view new.outside).locks keeps (ap is_busy h.held.catalog ∙ freed.0)
        (ap is_busy (known_after (events.ReleaseReader number) answer did) ∙ freed.1)

    pub keeps_notice : (did : Stepped g old new (events.Reload number) answer) (was now : Reader) → reader_at old.kept.catalog number ≡ Some was → reader_at new.kept.catalog number ≡ Some now → now.has_notice ≡ was.has_notice
    keeps_notice did was now is there =
        reload_keeps_notice h.state.catalog number (bodies_in h.state h.state.catalog.commit) was now (of_state (λ c. reader_at c number ≡ Some was) is)
        (ap (λ (c : Catalog). reader_at c number) (sym (known_after (events.Reload number) answer did)) ∙ there)

  pub deliver_refused : (answer : List ℕ) (did : Stepped g old new events.Deliver answer) → is_refused (deliver_refusals old.kept.catalog) ≡ true → new.kept.catalog ≡ old.kept.catalog
  deliver_refused answer did one =
      known_after events.Deliver answer did ∙ refused_stays h.state.catalog (deliver_refusals h.state.catalog) _ (of_state (λ c. is_refused (deliver_refusals c) ≡ true) one) ∙ sym h.held.catalog
