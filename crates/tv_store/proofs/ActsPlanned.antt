-- What an event does that is planned, performed, answered and settled.
use Rattle.std.proofs.Common.{ℕ, ◌≡◌, ◌≢◌, ◌<◌, ◌+◌, ◌⊎◌, ⊎_elim, inl, inr, true, false, List, [], ◌∷◌, Bool, length, Option, Some, None, Result, Ok, Err, refl, sym, ap, subst, ◌∙◌, arith}
use Rattle.std.specs.Prelude.{IfErr, IfSome, OnErr, OnOk}
use Rattle.std.specs.List.{AllByRecursion}
use Rattle.tv_base.specs.declared.error.TantivyError.{TantivyError}
use Rattle.tv_base.specs.declared.error.TantivyError.TheVariants as errors
use Rattle.tv_device.specs.View.{OnlyReads, View}
use Rattle.tv_device.specs.ViewLaws.{goes_on_itself, goes_then}
use Rattle.tv_device.specs.declared.directory.Directory.{Ghosts}
use Rattle.tv_formats.specs.Collections.{Collection, Collections, collection_at}
use Rattle.tv_formats.proofs.SpelledCommits.{means_commit}
use Rattle.tv_formats.specs.Commits.{Commit, IndexForm, IsSegment}
use Rattle.tv_formats.specs.Files.{Reads, Rose, RoseBy}
use Rattle.tv_formats.specs.Meaning.{Means}
use Rattle.tv_machine.specs.CommitEvents.{commit_step}
use Rattle.tv_formats.specs.Segments.{all_required}
use Rattle.tv_machine.specs.FileEvents.{sealed_as, written_to, wrote}
use Rattle.tv_device.specs.Watch.{WatchState, noted}
use Rattle.tv_formats.specs.Names.{at, meta_name}
use Rattle.tv_machine.specs.Machine.{refused_in, step}
use Rattle.tv_machine.specs.Readable.{AreGoodFiles, ReadsGood}
use Rattle.tv_machine.specs.SoundStates.{IsWhole}
use Rattle.tv_machine.specs.Living.{is_busy}
use Rattle.tv_machine.specs.State.{Catalog, Locked, Read, Reader, Reload, Snapshot, State, StepResult, file_at, reader_at}
use Rattle.tv_events.specs.declared.event.Event.{Event}
use Rattle.tv_events.specs.declared.reload_policy.ReloadPolicy.{ReloadPolicy}
use Rattle.tv_events.specs.declared.event.Event.TheVariants as events
use Rattle.tv_managed.specs.Collecting.{meta_lock_name}
use Rattle.tv_store.proofs.Asking.{kept_by_files}
use Rattle.tv_store.proofs.BusyCatalogs.{settled_busy}
use Rattle.tv_store.proofs.FilesHeld.{written_is}
use Rattle.tv_store.proofs.Holding.{same_holds}
use Rattle.tv_store.proofs.LockingCauses.{locking_as}
use Rattle.tv_store.proofs.KeptLocks.{keeps_same, then_keeps}
use Rattle.tv_store.proofs.PlannedCommit.{stays_or_next}
use Rattle.tv_store.proofs.LoadedFiles.{unloaded_before}
use Rattle.tv_store.proofs.Performing.{noted_by}
use Rattle.tv_store.proofs.ReaderEvents.{busy_before, cause_weaker, loading_of, loading_weaker}
use Rattle.tv_store.proofs.SettledNumbers.{few_after}
use Rattle.tv_store.proofs.Steps.{at_most, locking_cause, locks_none, longer}
use Rattle.tv_store.specs.Acting.{Acts, LeavesStep, Passes}
use Rattle.tv_catalog.specs.Actions.{MayGive, OnlyKeeps, SpentBy, Suits, LocksMeta, added_by, after, after_end, after_one, after_tried, catalog_after, keeps_lock, line_of, of_body, reply_in, tried_in, tried_of, changed, loaded_by, settled, with_added, with_delivered, with_kept, with_published, with_reload}
use Rattle.tv_store.specs.Performing.{MayNoteBy, FailsBy, FilesHold, KeepsBy, Performed, Performs, SavedNone, HoldNoneWith, LacksFileOf, loading_facts}
use Rattle.tv_store.specs.Applying.{ActCause, LeavesAlone, LeavesCommit, MayNoteAt, SavesAt, SavesPrinted, StepsHeld, UnloadedAt, UnloadedFor, event_facts}
use Rattle.tv_catalog.specs.Effects.{LoadsCommit, ReadsFiles, TakesMetaLock, written_by}
use Rattle.tv_catalog.specs.Exhausted.{IsExhausted}
use Rattle.tv_store.specs.Kept.{AtMost, FilesState, Holds, Standing, StoreState, kept_of}
use Rattle.tv_catalog.specs.Plans.{ChangesBeside, InMemory, LoadsFor, PlanCause, Plans, TakesNoMemory}
use Rattle.tv_store.specs.ReadCauses.{IsReadError, reading_facts}
use Rattle.tv_store.specs.Stays.{KeepsDotted, KeepsFiles}
use Rattle.tv_store.specs.StoreCauses.{IsBusy, LockingCause}
use Rattle.tv_catalog.specs.declared.action.Action.{Action}
use Rattle.tv_catalog.specs.declared.action.Action.TheVariants as actions
use Rattle.tv_catalog.specs.declared.action.Change.{Change}
use Rattle.tv_catalog.specs.declared.action.Change.TheVariants as changes
use Rattle.tv_catalog.specs.declared.action.Reply.{Reply}
use Rattle.tv_catalog.specs.declared.action.Reply.TheVariants as replies
use Rattle.tv_catalog.specs.declared.plan.Planned.{Planned}

-- a store of these parts
abbrev pub store_of : {O : Type 0} → Catalog → FilesState O → Standing → StoreState O
store_of catalog files standing = record { kept = kept_of catalog files; outside = files.outside; standing = standing }

-- a reply that is no commit's
pub saved_none : (reply : Reply) → ((commit : Commit) → reply ≡ replies.Saved commit → ⊥) → SavedNone reply
saved_none (replies.Saved commit) none = none commit refl
saved_none other none = tt

-- what a change leaves
reader_keeps : (c : Catalog) (policy : ReloadPolicy) (loaded : Option Snapshot) → (with_added c policy loaded).commit ≡ c.commit
reader_keeps c policy None = refl
reader_keeps c policy (Some shown) = refl

publish_keeps : (c : Catalog) (number : ℕ) (reader : Option Reader) (loaded : Option Snapshot) → (with_published c number reader loaded).commit ≡ c.commit
publish_keeps c number (Some reader) (Some shown) = refl
publish_keeps c number (Some reader) None = refl
publish_keeps c number None loaded = refl

reload_keeps : (c : Catalog) (number : ℕ) (reader : Option Reader) (reload : Reload) → (with_reload c number reader reload).commit ≡ c.commit
reload_keeps c number None reload = refl
reload_keeps c number (Some reader) reload = refl

kept_keeps : (c : Catalog) (number : ℕ) (loaded : Option Snapshot) → (with_kept c number loaded).commit ≡ c.commit
kept_keeps c number None = refl
kept_keeps c number (Some shown) = reload_keeps c number (reader_at c number) (Read shown.commit shown.bodies)

delivered_keeps : (c : Catalog) (loaded : Option Snapshot) → (with_delivered c loaded).commit ≡ c.commit
delivered_keeps c None = refl
delivered_keeps c (Some shown) = refl

pub commit_stays : (s : State) (change : Change) (reply : Reply) → (changed s change reply).catalog.commit ≡ s.catalog.commit
commit_stays s changes.Nothing reply = refl
commit_stays s (changes.Deletes id segment n) reply = refl
commit_stays s (changes.Release id) reply = refl
commit_stays s (changes.Reopen segments) reply = refl
commit_stays s (changes.AddReader policy) reply = reader_keeps s.catalog policy (loaded_by reply)
commit_stays s (changes.Publish number) reply = publish_keeps s.catalog number (reader_at s.catalog number) (loaded_by reply)
commit_stays s (changes.Note number commit) reply = reload_keeps s.catalog number (reader_at s.catalog number) (Locked commit)
commit_stays s (changes.Keep number) reply = kept_keeps s.catalog number (loaded_by reply)
commit_stays s changes.Deliver reply = delivered_keeps s.catalog (loaded_by reply)
commit_stays s (changes.EndReader number) reply = refl

changed_holds : {O : Type 0} (reads : Reads) (files : FilesState O) (now : State) (change : Change) (reply : Reply) (catalog : Catalog) → catalog ≡ catalog_after now.catalog change (loaded_by reply) → AllByRecursion IsSegment (changed now change reply).catalog.live
    → Holds reads (kept_of now.catalog files) now → Holds reads (kept_of catalog files) (changed now change reply)
changed_holds reads files now change reply catalog is segments h = record {
  catalog = is;
  managed = h.managed;
  collections = h.collections;
  segments = segments;
  names = h.names;
  files = h.files;
  left = h.left;
  meta = (h.meta.0, h.meta.1, subst (λ (c : Commit). Means files.form.settings files.form.schema h.meta.0 c) (sym (commit_stays now change reply)) h.meta.2);
  listing = h.listing;
  listed = h.listed;
}

body_keeps : (s : State) (w : Option (List ℕ)) (told : List ℕ → StepResult State) → ((body : List ℕ) → (told body).1.catalog ≡ s.catalog) → (of_body s w told).catalog ≡ s.catalog
body_keeps s None told each = refl
body_keeps s (Some body) told each = each body

one_keeps : (s : State) (number : ℕ) (c : Collection) (names : List (List ℕ)) (done : Bool) → (after_one s number c names done).catalog ≡ s.catalog
one_keeps s number c [] done = refl
one_keeps s number c (name ∷ names) done = refl

tried_keeps : (s : State) (number : ℕ) (c : Option Collection) (done : Bool) → (after_tried s number c done).catalog ≡ s.catalog
tried_keeps s number None done = refl
tried_keeps s number (Some c) done = one_keeps s number c c.untried done

try_keeps : (s : State) (number : ℕ) (reply : Reply) → (after s (actions.Try number) reply).catalog ≡ s.catalog
try_keeps s number (replies.Tried tried) = tried_keeps s number (collection_at s.collections number) tried.is_done
try_keeps s number other = refl

first_plain : (c : Catalog) (change : Change) (names : List (List ℕ)) (deletes : List Bool) → settled c change (tried_of names deletes) ≡ catalog_after c change (loaded_by (tried_of names deletes))
first_plain c change [] deletes = refl
first_plain c change (name ∷ names) deletes = refl

tried_plain : (c : Catalog) (change : Change) (o : Option Collection) (deletes : List Bool) → settled c change (tried_in o deletes) ≡ catalog_after c change (loaded_by (tried_in o deletes))
tried_plain c change None deletes = refl
tried_plain c change (Some k) deletes = first_plain c change k.untried deletes

end_keeps : (s : State) (number : ℕ) (c : Option Collection) → (after_end s number c).catalog ≡ s.catalog
end_keeps s number None = refl
end_keeps s number (Some c) = refl

-- no action changes which segments are live
pub live_stays : (s : State) (action : Action) (reply : Reply) → (after s action reply).catalog.live ≡ s.catalog.live
live_stays s (actions.Make name) replies.Done = refl
live_stays s (actions.Append name bytes) replies.Done = ap (λ (c : Catalog). c.live) (body_keeps s (written_to (file_at s name)) (wrote s name bytes.now) (λ body. refl))
live_stays s (actions.Seal name) replies.Done = ap (λ (c : Catalog). c.live) (body_keeps s (written_to (file_at s name)) (sealed_as s name) (λ body. refl))
live_stays s (actions.Leave names) replies.Done = refl
live_stays s (actions.Save commit text required) (replies.Saved saved) = refl
live_stays s (actions.Collect living) (replies.Collected names) = refl
live_stays s (actions.Begin living) replies.Done = refl
live_stays s (actions.Try number) (replies.Tried tried) = ap (λ (c : Catalog). c.live) (tried_keeps s number (collection_at s.collections number) tried.is_done)
live_stays s (actions.End number) replies.Done = ap (λ (c : Catalog). c.live) (end_keeps s number (collection_at s.collections number))
live_stays s actions.Reopen replies.Done = refl
live_stays s other reply = refl

-- what is known is what is known of the state after
settled_as : (s : State) (action : Action) (change : Change) (reply : Reply) (c : Catalog) → c ≡ s.catalog → (after s action reply).catalog ≡ s.catalog → settled c change reply ≡ catalog_after c change (loaded_by reply) → settled c change reply ≡ catalog_after (after s action reply).catalog change (loaded_by reply)
settled_as s action change reply c is stays plain = plain ∙ ap (λ k. catalog_after k change (loaded_by reply)) (is ∙ sym stays)

no_change : (change : Change) (P : Type 0) → (change ≡ changes.Nothing) ⊎ ⊥ → change ≡ changes.Nothing
no_change change P (inl e) = e
no_change change P (inr never) = absurd never

settled_is : (s : State) (action : Action) (change : Change) (reply : Reply) (c : Catalog) (collections : Collections) (managed : List (List ℕ)) → c ≡ s.catalog → (change ≡ changes.Nothing) ⊎ OnlyKeeps action → MayGive collections managed action reply
    → settled c change reply ≡ catalog_after (after s action reply).catalog change (loaded_by reply)
settled_is s actions.Nothing change reply c collections managed is beside gives = rw (gives, is) refl
settled_is s (actions.Make name) change reply c collections managed is beside (inl e) = rw (e, is) refl
settled_is s (actions.Make name) change reply c collections managed is beside (inr e) = rw (e, is) refl
settled_is s (actions.Append name bytes) change reply c collections managed is beside gives = rw (gives, is, body_keeps s (written_to (file_at s name)) (wrote s name bytes.now) (λ body. refl)) refl
settled_is s (actions.Seal name) change reply c collections managed is beside gives = rw (gives, is, body_keeps s (written_to (file_at s name)) (sealed_as s name) (λ body. refl)) refl
settled_is s (actions.Leave names) change reply c collections managed is beside gives = rw (gives, is) refl
settled_is s (actions.Save commit text required) change reply c collections managed is beside (inl e) = rw (e, is, no_change change ⊥ beside) refl
settled_is s (actions.Save commit text required) change reply c collections managed is beside (inr (name, among, e)) = rw (e, is) refl
settled_is s (actions.Collect living) change reply c collections managed is beside (deletes, e) = rw (e, is) refl
settled_is s (actions.Try number) change reply c collections managed is beside (deletes, e) =
    settled_as s (actions.Try number) change reply c is (try_keeps s number reply) (subst (λ (r : Reply). settled c change r ≡ catalog_after c change (loaded_by r)) (sym e) (tried_plain c change (collection_at collections number) deletes))
settled_is s (actions.Begin living) change reply c collections managed is beside gives = rw (gives, is) refl
settled_is s (actions.End number) change reply c collections managed is beside gives = rw (gives, is, end_keeps s number (collection_at s.collections number)) refl
settled_is s (actions.Validate names) change reply c collections managed is beside (inl (damaged, short, e)) = rw (e, is) refl
settled_is s (actions.Validate names) change reply c collections managed is beside (inr (name, among, e)) = rw (e, is) refl
settled_is s (actions.Load generation) change reply c collections managed is beside (shown, e) = rw (e, is) refl
settled_is s actions.Lock change reply c collections managed is beside gives = rw (gives, is) refl
settled_is s (actions.Read commit) change reply c collections managed is beside (shown, e) = rw (e, is) refl
settled_is s actions.Unlock change reply c collections managed is beside gives = rw (gives, is) refl
settled_is s actions.Reopen change reply c collections managed is beside gives = rw (gives, is) refl

-- a change goes with such an action
beside_of : (event : Event) (action : Action) (change : Change) → (change ≡ changes.Nothing) ⊎ ChangesBeside event action → (change ≡ changes.Nothing) ⊎ OnlyKeeps action
beside_of event action change (inl e) = inl e
beside_of (events.Commit payload ids) action change (inr never) = absurd never
beside_of event action change (inr only) = inr only

-- a commit that isn't refused is the one that was saved
saved_commit : {W : Type 0} (form : IndexForm) (old new : View W) (s next : State) (reply : Reply) → settled s.catalog changes.Nothing reply ≡ next.catalog → (next ≡ s) ⊎ (next.catalog.next ≡ s.catalog.next + 1)
    → ((commit : Commit) → reply ≡ replies.Saved commit → SavesPrinted form old new commit) → next ≢ s → SavesPrinted form old new next.catalog.commit
saved_commit form old new s next (replies.Saved commit) is either saves other = subst (λ (c : Catalog). SavesPrinted form old new c.commit) is (saves commit refl)
saved_commit form old new s next reply is (inl same) saves other = absurd (other same)
saved_commit form old new s next reply is (inr more) saves other = let same : s.catalog.next ≡ next.catalog.next = ap (λ (c : Catalog). c.next) is in absurd (omega (arith, same, more))

saves_at : {W : Type 0} (event : Event) (form : IndexForm) (old new : View W) (s : State) (action : Action) (change : Change) (reply : Reply) (deletes : List Bool) → (change ≡ changes.Nothing) ⊎ ChangesBeside event action
    → settled s.catalog change reply ≡ (step s event deletes).1.catalog → ((commit : Commit) → reply ≡ replies.Saved commit → SavesPrinted form old new commit) → SavesAt event form old new s (step s event deletes).1
saves_at (events.Commit payload ids) form old new s action change reply deletes beside is saves = λ other.
    let none = no_change change ⊥ beside in
    saved_commit form old new s (commit_step s payload ids).1 reply (subst (λ (c : Change). settled s.catalog c reply ≡ (commit_step s payload ids).1.catalog) none is) (stays_or_next s payload ids) saves other
saves_at event form old new s action change reply deletes beside is saves = tt

module _ {O W C : Type 0} (g : Ghosts O W C) (catalog : Catalog) (standing : Standing) (first : FilesState O) (event : Event) where
  abbrev Old : StoreState O
  Old = store_of catalog first standing

  -- why it failed: a file that is to be read isn't only where the lock was free
  abbrev Why : StoreState O → TantivyError → Type 0
  Why new error = (g.told.locks → TakesMetaLock catalog event → IsReadError error → (g.view first.outside).locks meta_lock_name ≡ false) × ActCause g Old new event error

  -- an event that loads a commit reads its files
  reads_of : (e : Event) → LoadsCommit catalog e → ReadsFiles catalog e
  reads_of (events.ReloadOpen number) h = absurd h
  reads_of other h = h

  -- for causes without a read
  by_lock : (new : StoreState O) (error : TantivyError)
      → (let facts = event_facts g (IsExhausted Old.kept event) Old new event in LockingCause facts.busy facts.refused facts.quiet (IsExhausted Old.kept event) error) → Why new error
  by_lock new error why =
      let facts = event_facts g (IsExhausted Old.kept event) Old new event in (
        λ told takes. locks_none (List ℕ) facts.busy facts.refused facts.quiet (IsExhausted Old.kept event) _ (Err error) why,
        locking_cause facts (IsExhausted Old.kept event) (UnloadedAt g Old new event) error why (λ e. e),
      )

  -- an error that came so far, with what is kept
  stopped : (new : StoreState O) (error : TantivyError) → ((bound : ℕ) → AtMost bound Old.kept → AtMost (bound + written_by event) new.kept) → Why new error
      → LeavesStep g Old new event (Err error) → (g.told.content → KeepsDotted (g.view first.outside).reads (g.view new.outside).reads)
      → new.kept.form ≡ first.form → new.standing ≡ standing → Passes g.told event (is_busy catalog) (is_busy new.kept.catalog) (g.view first.outside) (g.view new.outside)
      → Acts g Old new event (Err error)
  stopped new error lens why leaves dotted form stands passes = record {
    step = tt;
    room = tt;
    lens = lens;
    numbers = λ bound few. tt;
    faults = record { quiet = tt; free = λ told takes. tt; fits = tt; reads = why.0; cause = why.1 };
    leaves = leaves;
    dotted = dotted;
    frame = record { form = form; standing = stands; below = passes };
  }

  -- what leaves `meta.json` as it was leaves the commit before
  kept_meta : (new : StoreState O) (error : TantivyError) → (g.told.content → (g.view new.outside).reads meta_name ≡ (g.view first.outside).reads meta_name) → LeavesStep g Old new event (Err error)
  kept_meta new error same = record { meta = λ tells s held whole. ([], inl (same tells)); memory = λ tells wanted. same tells }

  cause_of : (error : TantivyError) (busy refused : Type 0) (n : ℕ) → PlanCause Old.kept event error → LockingCause busy refused (n ≡ n) (IsExhausted Old.kept event) error
  cause_of errors.Memory busy refused n h = refl
  cause_of errors.Exhausted busy refused n h = (refl, h)
  cause_of other busy refused n h = absurd h

  quiet_notes : (e : Event) (w : WatchState) → MayNoteAt e w w
  quiet_notes (events.Commit payload ids) w = inl refl
  quiet_notes other w = refl

  -- it wasn't planned
  pub unplanned : (error : TantivyError) → PlanCause Old.kept event error → Acts g Old Old event (Err error)
  unplanned error why =
      stopped Old error (λ bound h. at_most bound (written_by event) Old.kept h) (by_lock Old error (cause_of error _ _ _ why)) (kept_meta Old error (λ tells. refl)) (λ tells n dot other. refl) refl refl
      (record {
        goes_on = goes_on_itself g.told (g.view first.outside);
        heard = refl;
        locks = λ t. keeps_same (is_busy catalog) (is_busy catalog) (g.view first.outside).locks (g.view first.outside).locks refl (λ n. refl);
        watched = quiet_notes event (g.view first.outside).watched;
      })

  -- what only reads passes for an event
  passes_by : (action : Action) (was now : Bool) (next new : View W) → OnlyReads g.told (g.view first.outside) next → KeepsBy g.told action was now next new → ((old now : _) → MayNoteBy action old now → MayNoteAt event old now) → Passes g.told event was now (g.view first.outside) new
  passes_by action was now next new asked h notes = record {
    goes_on = goes_then asked.kept.frame.tells_none.deletes_none.goes_on h.goes_on;
    heard = h.heard ∙ asked.kept.frame.tells_none.heard;
    locks = λ t. then_keeps was now (g.view first.outside).locks next.locks new.locks (asked.kept.frame.locks t) (h.locks t);
    watched = notes (g.view first.outside).watched new.watched (subst (λ w. MayNoteBy action w new.watched) asked.kept.watched h.watched);
  }

  module _ (planned : Planned) (plans : Plans (kept_of catalog first) event planned) (next : FilesState O) (asked : KeepsFiles (OnlyReads g.told) g.view first next) (same : (g.view next.outside).faults ≡ (g.view first.outside).faults) where
    kept : kept_of catalog next ≡ kept_of catalog first
    kept = kept_by_files catalog asked

    below : OnlyReads g.told (g.view first.outside) (g.view next.outside)
    below = asked.managed.below

    pub in_memory : (s : State) → Holds (g.view first.outside).reads (kept_of catalog first) s → InMemory (kept_of catalog first) s
    in_memory s h = record {
      catalog = h.catalog;
      managed = h.managed;
      collections = h.collections;
      segments = h.segments;
      committed = (means_commit first.form.settings first.form.schema h.meta.0 s.catalog.commit h.meta.2).0.segments;
      written = λ n fits. sym (written_is (file_at s n) ((g.view first.outside).reads n) (at first.open_files n) (h.files n fits));
    }

    pub files_hold : g.told.content → (s : State) → Holds (g.view first.outside).reads (kept_of catalog first) s → FilesHold g next s
    files_hold tells s h =
        let whose : kept_of s.catalog next ≡ kept_of catalog first = ap (λ c. kept_of c next) (sym h.catalog) ∙ kept in
        same_holds (g.view first.outside).reads (g.view next.outside).reads (kept_of catalog first) (kept_of s.catalog next) s (below.content tells) whose h

    -- a notice that didn't come
    unnoted : (action : Action) (w : WatchState) → MayNoteBy action w w
    unnoted (actions.Save commit text required) w = inl refl
    unnoted other w = refl

    asked_passes : Passes g.told event (is_busy catalog) (is_busy catalog) (g.view first.outside) (g.view next.outside)
    asked_passes = record {
      goes_on = below.kept.frame.tells_none.deletes_none.goes_on;
      heard = below.kept.frame.tells_none.heard;
      locks = λ t. keeps_same (is_busy catalog) (is_busy catalog) (g.view first.outside).locks (g.view next.outside).locks refl (below.kept.frame.locks t);
      watched = noted_by event planned.action plans.saves (g.view first.outside).watched (g.view next.outside).watched
          (subst (λ w. MayNoteBy planned.action (g.view first.outside).watched w) (sym below.kept.watched) (unnoted planned.action (g.view first.outside).watched));
    }

    -- no room was made for its line
    pub unready : Acts g Old (store_of catalog next standing) event (Err errors.Memory)
    unready =
        stopped (store_of catalog next standing) errors.Memory (λ bound h. at_most bound (written_by event) (kept_of catalog next) (subst (AtMost bound) (sym kept) h)) (by_lock (store_of catalog next standing) errors.Memory same)
        (kept_meta (store_of catalog next standing) errors.Memory (λ tells. below.content tells meta_name)) (λ tells n dot other. below.content tells n) asked.managed.form refl asked_passes

    module _ (last : FilesState O) where
      lens_of : {result : Result Reply TantivyError} → Performs g planned.action next last result → (c : Catalog) (bound : ℕ) → AtMost bound (kept_of catalog first) → AtMost (bound + written_by event) (kept_of c last)
      lens_of p c bound h =
          longer last.open_files (bound + added_by planned.action) (bound + written_by event) (omega (arith, plans.adds)) (p.lens bound (subst (AtMost bound) (sym kept) h))

      passed : {result : Result Reply TantivyError} → Performs g planned.action next last result → Passes g.told event next.locked last.locked (g.view first.outside) (g.view last.outside)
      passed p = passes_by planned.action next.locked last.locked (g.view next.outside) (g.view last.outside) below p.frame (noted_by event planned.action plans.saves)

      -- the same, said of whether a reload waits for its files
      passed_as : {result : Result Reply TantivyError} (now : Bool) → next.locked ≡ is_busy catalog → last.locked ≡ now → Performs g planned.action next last result → Passes g.told event (is_busy catalog) now (g.view first.outside) (g.view last.outside)
      passed_as now was is p =
          subst (λ b. Passes g.told event (is_busy catalog) b (g.view first.outside) (g.view last.outside)) is (subst (λ b. Passes g.told event b last.locked (g.view first.outside) (g.view last.outside)) was (passed p))

      -- what its action did to the lock
      pub kept_lock : {reply : Reply} → next.locked ≡ is_busy catalog → Performs g planned.action next last (Ok reply) → last.locked ≡ keeps_lock planned.action (is_busy catalog)
      kept_lock was p = p.keeps ∙ ap (keeps_lock planned.action) was

      -- the step of the event, by what came of its action
      pub stepped : (s : State) → Holds (g.view first.outside).reads (kept_of catalog first) s → (deletes : List Bool) (reply : Reply) → reply ≡ reply_in s planned.action deletes
          → step s event deletes ≡ (line_of planned.line.items reply, changed (after s planned.action reply) planned.change reply)
      stepped s held deletes reply is =
          plans.steps s (in_memory s held) deletes
          ∙ ap (λ (r : Reply). (line_of planned.line.items r, changed (after s planned.action r) planned.change r)) (sym is)

      -- what is known after it
      known_after : (s : State) (reply : Reply) → Holds (g.view first.outside).reads (kept_of catalog first) s → MayGive next.collections next.managed planned.action reply
          → settled catalog planned.change reply ≡ catalog_after (after s planned.action reply).catalog planned.change (loaded_by reply)
      known_after s reply held gives = settled_is s planned.action planned.change reply catalog next.collections next.managed held.catalog (beside_of event planned.action planned.change plans.beside) gives

      -- and the state that is held
      pub held_after : (s : State) (deletes : List Bool) (reply : Reply) → Holds (g.view first.outside).reads (kept_of catalog first) s → MayGive next.collections next.managed planned.action reply → Performed g planned.action next last (s, deletes) reply
          → Holds (g.view last.outside).reads (kept_of (settled catalog planned.change reply) last) (changed (after s planned.action reply) planned.change reply)
      held_after s deletes reply held gives did =
          changed_holds (g.view last.outside).reads last (after s planned.action reply) planned.change reply (settled catalog planned.change reply) (known_after s reply held gives) (plans.segments s (in_memory s held) reply) did.held

      -- why its action failed
      why_failed : (action : Action) (error : TantivyError) → LoadsFor (kept_of catalog first) event action → (LocksMeta action → TakesMetaLock catalog event) → (TakesMetaLock catalog event → LocksMeta action)
          → ((s : State) → InMemory (kept_of catalog first) s → Suits s action) → (SpentBy next.collections action → IsExhausted Old.kept event)
          → FailsBy g action next last (Err error) → Why (store_of catalog last standing) error
      why_failed (actions.Load generation) error loads locks unlocked suits spends h = (
        λ told takes read. sym (below.kept.frame.locks told meta_lock_name) ∙ h.faults.reads told read,
        loading_weaker (record (loading_facts g next last) { busy = IsBusy g.told.locks ((g.view next.outside).locks meta_lock_name ≡ true) (Rose (g.view next.outside).faults (g.view last.outside).faults) })
            (event_facts g (IsExhausted Old.kept event) Old (store_of catalog last standing) event)
            (UnloadedFor g next.form.schema next.outside last.outside) (UnloadedAt g Old (store_of catalog last standing) event) error
            (λ b. (locks tt, busy_before _ _ _ _ _ (λ told. below.kept.frame.locks told meta_lock_name) same b)) (λ rose. subst (λ (n : ℕ). Rose n (g.view last.outside).faults) same rose) (λ still. still ∙ same) (λ never. absurd never)
            (λ e load. (
              loads.0,
              unloaded_before g first.form.schema next.form.schema first.outside next.outside last.outside last.outside e (ap (λ f. f.schema) asked.managed.form) (λ t. sym (below.content t meta_name))
                  (λ rose. subst (λ (n : ℕ). Rose n (g.view last.outside).faults) same rose) (λ still. still ∙ same) load,
            ))
            (λ e bad. (reads_of event loads.0, λ t s held whole. (s.catalog.commit, loads.1 s (in_memory s held), bad t s (files_hold t s held) whole)))
            (λ path none. (reads_of event loads.0, λ t s held whole. none t s (files_hold t s held) whole)) h.faults.cause,
      )
      why_failed (actions.Read commit) error loads locks unlocked suits spends h = (
        λ told takes read. absurd (unlocked takes),
        loading_of (event_facts g (IsExhausted Old.kept event) Old (store_of catalog last standing) event) (UnloadedAt g Old (store_of catalog last standing) event) error
            (cause_weaker (reading_facts (Rose (g.view next.outside).faults (g.view last.outside).faults) ((g.view last.outside).faults ≡ (g.view next.outside).faults) (LacksFileOf g next commit) (λ path. HoldNoneWith g next commit))
            (event_facts g (IsExhausted Old.kept event) Old (store_of catalog last standing) event) error
            (λ never. absurd never) (λ rose. subst (λ (n : ℕ). Rose n (g.view last.outside).faults) same rose) (λ still. still ∙ same) (λ never. absurd never)
            (λ e bad. (loads.0, λ t s held whole. (commit, loads.1 s (in_memory s held), bad t s (files_hold t s held) whole (suits s (in_memory s held)))))
            (λ path none. (loads.0, λ t s held whole. none t s (files_hold t s held) whole (suits s (in_memory s held)))) h.cause),
      )
      why_failed other error loads locks unlocked suits spends h =
          by_lock (store_of catalog last standing) error
          (locking_as _ _ (λ b. (locks b.0, record { told = λ t. sym (below.kept.frame.locks t meta_lock_name) ∙ b.1.told t; untold = b.1.untold })) spends error
          (subst (λ (n : ℕ). LockingCause (LocksMeta other × IsBusy g.told.locks ((g.view next.outside).locks meta_lock_name ≡ true) (Rose n (g.view last.outside).faults)) (Rose n (g.view last.outside).faults) ((g.view last.outside).faults ≡ n) (SpentBy next.collections other) error) same h))

      -- what it reads can be read
      reads_good : (action : Action) (s : State) (reply : Reply) → LoadsFor (kept_of catalog first) event action → Holds (g.view first.outside).reads (kept_of catalog first) s → IsWhole s → Suits s action → FailsBy g action next last (Ok reply) → g.told.content
          → ReadsGood s event
      reads_good (actions.Load generation) s reply loads held whole suits h tells =
          subst (λ (o : Option Commit). IfSome o (λ commit. AreGoodFiles s (all_required commit.segments))) (sym (loads.1 s (in_memory s held))) (h.readable tells s (files_hold tells s held) whole)
      reads_good (actions.Read noted) s reply loads held whole suits h tells =
          subst (λ (o : Option Commit). IfSome o (λ commit. AreGoodFiles s (all_required commit.segments))) (sym (loads.1 s (in_memory s held))) (h.readable tells s (files_hold tells s held) whole suits)
      reads_good other s reply loads held whole suits h tells = subst (λ (o : Option Commit). IfSome o (λ commit. AreGoodFiles s (all_required commit.segments))) (sym (loads s (in_memory s held))) tt

      -- nor did settling it, which changed nothing
      pub lock_unsettled : (c : Catalog) (reply : Reply) → next.locked ≡ is_busy catalog → c ≡ catalog → (TakesNoMemory planned.change → ⊥) → Performs g planned.action next last (Ok reply) → last.locked ≡ is_busy c
      lock_unsettled c reply locked stays unsure p = kept_lock locked p ∙ settles plans.sure ∙ ap is_busy (sym stays) where
        settles : (keeps_lock planned.action (is_busy catalog) ≡ is_busy catalog) ⊎ TakesNoMemory planned.change → keeps_lock planned.action (is_busy catalog) ≡ is_busy catalog
        settles (inl same) = same
        settles (inr sure) = absurd (unsure sure)

      -- or it is held as what is known says
      pub lock_settled : (reply : Reply) → next.locked ≡ is_busy catalog → Performs g planned.action next last (Ok reply) → last.locked ≡ is_busy (settled catalog planned.change reply)
      lock_settled reply locked p =
          kept_lock locked p
          ∙ sym (plans.keeps reply (subst (λ k. MayGive k.collections k.managed planned.action reply) kept p.gives))
          ∙ sym (settled_busy catalog planned.action planned.change reply next.collections next.managed (beside_of event planned.action planned.change plans.beside) p.gives)

      -- so in any case, whether settling it succeeded or not
      pub lock_after : {A E : Type 0} (c : Catalog) (reply : Reply) → next.locked ≡ is_busy catalog → Performs g planned.action next last (Ok reply)
          → (settling : Result A E) → OnOk settling (c ≡ settled catalog planned.change reply) → OnErr settling (c ≡ catalog) → (TakesNoMemory planned.change → IfErr settling (λ error. ⊥)) → last.locked ≡ is_busy c
      lock_after c reply locked p (Ok done) is stays sure = lock_settled reply locked p ∙ ap is_busy (sym is)
      lock_after c reply locked p (Err error) is stays sure = lock_unsettled c reply locked stays sure p

      -- its action wasn't performed
      pub unperformed : (error : TantivyError) → next.locked ≡ is_busy catalog → Performs g planned.action next last (Err error) → Acts g Old (store_of catalog last standing) event (Err error)
      unperformed error locked p =
          let new = store_of catalog last standing in
          stopped new error (lens_of p catalog)
          (why_failed planned.action error plans.loads plans.locks plans.unlocked plans.suits (λ spent. plans.spends (subst (λ c. SpentBy c planned.action) (ap (λ k. k.collections) kept) spent)) p.faults.cause)
          (record {
            meta = λ tells s held whole. ([], left tells s held (p.meta.failed tells s (files_hold tells s held) whole (plans.suits s (in_memory s held)) []));
            memory = λ tells wanted. p.meta.memory tells wanted ∙ below.content tells meta_name;
          })
          (λ tells n dot other. p.dotted tells n dot other ∙ below.content tells n) (p.form ∙ asked.managed.form) refl (passed_as (is_busy catalog) locked (p.stays ∙ locked) p) where
            left : g.told.content → (s : State) → Holds (g.view first.outside).reads (kept_of catalog first) s
                → LeavesCommit (Rose (g.view next.outside).faults (g.view last.outside).faults) ((g.view next.outside).reads meta_name) ((g.view last.outside).reads meta_name) next.form (after s planned.action (reply_in s planned.action [])).catalog.commit
                → LeavesCommit (Rose (g.view first.outside).faults (g.view last.outside).faults) ((g.view first.outside).reads meta_name) ((g.view last.outside).reads meta_name) first.form (step s event []).1.catalog.commit
            left tells s held h =
                let commit : (step s event []).1.catalog.commit ≡ (after s planned.action (reply_in s planned.action [])).catalog.commit =
                ap (λ t. t.1.catalog.commit) (stepped s held [] (reply_in s planned.action []) refl) ∙ commit_stays (after s planned.action (reply_in s planned.action [])) planned.change (reply_in s planned.action []) in
                rw (commit, ← same, ← asked.managed.form, ← below.content tells meta_name) h

      -- memory was wanted for what is known beside the files
      pub unsettled : (c : Catalog) (reply : Reply) → next.locked ≡ is_busy catalog → c ≡ catalog → (TakesNoMemory planned.change → ⊥) → Performs g planned.action next last (Ok reply) → SavedNone reply → Acts g Old (store_of c last standing) event (Err errors.Memory)
      unsettled c reply locked stays unsure p none =
          stopped (store_of c last standing) errors.Memory (lens_of p c) (by_lock (store_of c last standing) errors.Memory (p.faults.quiet ∙ same)) (kept_meta (store_of c last standing) errors.Memory (λ tells. p.meta.spared tells none ∙ below.content tells meta_name))
          (λ tells n dot other. p.dotted tells n dot other ∙ below.content tells n) (p.form ∙ asked.managed.form) refl (passed_as (is_busy c) locked (lock_unsettled c reply locked stays unsure p) p)

      -- it was answered, and what is known beside the files was settled
      pub answered : (reply : Reply) (answer : List ℕ) → next.locked ≡ is_busy catalog → Performs g planned.action next last (Ok reply) → answer ≡ line_of planned.line.items reply → length answer < (g.view last.outside).room
          → Acts g Old (store_of (settled catalog planned.change reply) last standing) event (Ok answer)
      answered reply answer locked p is fits = record {
        step = record {
          outcomes = p.performed.0;
          refused = subst (λ n. RoseBy (refused_in p.performed.0) n (g.view last.outside).refusals) below.kept.frame.tells_none.deletes_none.refusals p.performed.1;
          each = λ tells s held whole. made tells s held whole (p.performed.2 tells s (files_hold tells s held) whole (plans.suits s (in_memory s held)));
        };
        room = fits;
        lens = lens_of p (settled catalog planned.change reply);
        numbers = λ bound few.
            few_after bound (written_by event) catalog planned.change reply first.collections last.collections (omega (arith, plans.numbers))
            (omega (arith, p.numbers, plans.numbers, few.next_collection, ap (λ k. k.collections.next) kept)) few;
        faults = record {
          quiet = p.faults.quiet ∙ same;
          free = λ told takes. sym (below.kept.frame.locks told meta_lock_name) ∙ p.faults.free told (plans.unlocked takes);
          fits = λ spent. p.faults.fits (subst (λ c. SpentBy c planned.action) (sym (ap (λ k. k.collections) kept)) (plans.fits spent));
          reads = λ told takes. tt;
          cause = tt;
        };
        leaves = record { meta = λ tells s held whole. tt; memory = λ tells. tt };
        dotted = λ tells n dot other. p.dotted tells n dot other ∙ below.content tells n;
        frame = record { form = p.form ∙ asked.managed.form; standing = refl; below = passed_as (is_busy (settled catalog planned.change reply)) locked (lock_settled reply locked p) p };
      } where
        new : StoreState O
        new = store_of (settled catalog planned.change reply) last standing

        made : g.told.content → (s : State) → Holds (g.view first.outside).reads (kept_of catalog first) s → IsWhole s → Performed g planned.action next last (s, p.performed.0) reply
            → StepsHeld g Old new s (event, p.performed.0) answer
        made tells s held whole did =
            let right = stepped s held p.performed.0 reply did.reply_is in
            let now = after s planned.action reply in
            let known = known_after s reply held p.gives in
            let state : changed now planned.change reply ≡ (step s event p.performed.0).1 = sym (ap (λ (t : StepResult State). t.1) right) in
            record {
              told = is ∙ sym (ap (λ (t : StepResult State). t.0) right);
              held = subst (λ (t : State). Holds (g.view last.outside).reads new.kept t) state (held_after s p.performed.0 reply held p.gives did);
              readable = reads_good planned.action s reply plans.loads held whole (plans.suits s (in_memory s held)) p.faults.cause tells;
              unchanged = λ by_step stays.
                  let alone : LeavesAlone (g.view next.outside) (g.view last.outside) =
                  ⊎_elim (λ nothing. did.same (plans.changes by_step) (sym (ap (λ (c : Change). changed now c reply) nothing) ∙ state ∙ stays)) (λ only. p.alone only tells) (beside_of event planned.action planned.change plans.beside) in
                  record { reads = λ n. alone.reads n ∙ below.content tells n; watched = alone.watched ∙ below.kept.watched };
              saves = saves_at event first.form (g.view first.outside) (g.view last.outside) s planned.action planned.change reply p.performed.0 plans.beside
                  (ap (λ c. settled c planned.change reply) (sym held.catalog) ∙ known ∙ ap (λ (t : State). t.catalog) state)
                  (λ commit gives. let saved = did.saves commit gives in record { text = rw (← asked.managed.form) saved.text; notice = saved.notice ∙ ap (noted meta_name) below.kept.watched });
            }
