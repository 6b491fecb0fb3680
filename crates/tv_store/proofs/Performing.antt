-- How an action is shown to be performed.
use Rattle.std.proofs.Common.{ℕ, ◌≡◌, ◌≤◌, ◌+◌, ◌∙◌, Bool, true, false, List, [], Result, Ok, Err, refl, sym, ap, subst, arith, inl}
use Rattle.std.proofs.lemmas.Result.{IfOk-weaker}
use Rattle.std.specs.Prelude.{IfErr, IfOk, OnOk}
use Rattle.tv_base.specs.declared.error.TantivyError.{TantivyError}
use Rattle.tv_base.specs.declared.error.TantivyError.TheVariants as errors
use Rattle.tv_device.specs.Locks.{Locks, SameLocks}
use Rattle.tv_device.specs.View.{Kept as KeptView, MayDelete, OnlyReads, Told, View}
use Rattle.tv_device.specs.declared.directory.Directory.{Ghosts}
use Rattle.tv_formats.proofs.Results.{any_err, on_err, on_ok}
use Rattle.tv_formats.specs.Files.{Rose, RoseBy}
use Rattle.tv_device.specs.Watch.{MayNote, WatchState}
use Rattle.tv_formats.specs.Names.{meta_name}
use Rattle.tv_events.specs.declared.event.Event.{Event}
use Rattle.tv_events.specs.declared.event.Event.TheVariants as events
use Rattle.tv_machine.specs.Machine.{refused_in}
use Rattle.tv_machine.specs.SoundStates.{IsWhole}
use Rattle.tv_machine.specs.State.{State}
use Rattle.tv_managed.specs.Managed.{KeepsOtherFiles}
use Rattle.tv_store.proofs.FewNumbers.{few_given}
use Rattle.tv_store.proofs.Asking.{kept_by_files}
use Rattle.tv_store.proofs.FilesHeld.{short_same}
use Rattle.tv_store.proofs.Holding.{dotted_others, reads_alone, same_holds}
use Rattle.tv_store.proofs.Listings.{undotted_isnt_list}
use Rattle.tv_catalog.specs.Actions.{MayGive, OnlyKeeps, SavesNoCommit, SpentBy, Suits, LocksMeta, TriesDeletes, added_by, after, given_by, keeps_lock, reply_in}
use Rattle.tv_store.specs.Performing.{MayNoteBy, FailsBy, FaultsBy, FilesHold, KeepsBy, MetaBy, Performed, Performs, Short}
use Rattle.tv_formats.specs.Commits.{Commit}
use Rattle.tv_device.specs.ViewLaws.{kept_itself}
use Rattle.tv_store.specs.Applying.{KeepsLocks, LeavesAlone, MayNoteAt}
use Rattle.tv_catalog.specs.declared.action.Reply.TheVariants as replies
use Rattle.tv_store.specs.Kept.{FilesState, kept_of}
use Rattle.tv_catalog.specs.Plans.{IsSegmentFile, SavesOnlyAt}
use Rattle.tv_store.specs.Stays.{EventFaults, KeepsDotted, KeepsFiles, KeepsMade, KeepsManaged}
use Rattle.tv_store.specs.StoreCauses.{EventCause, LockingCause}
use Rattle.tv_catalog.specs.declared.action.Action.{Action}
use Rattle.tv_catalog.specs.declared.action.Action.TheVariants as actions
use Rattle.tv_catalog.specs.declared.action.Reply.{Reply}

-- a cause without a lock, and without anything spent, is one with them
pub no_lock : (busy refused quiet spent : Type 0) (error : TantivyError) → EventCause refused quiet ⊥ error → LockingCause busy refused quiet spent error
no_lock busy refused quiet spent (errors.IoError fault) h = h
no_lock busy refused quiet spent (errors.OpenWriteError why) h = h
no_lock busy refused quiet spent errors.Exhausted h = absurd h.1
no_lock busy refused quiet spent errors.Memory h = h
no_lock busy refused quiet spent other h = absurd h

no_lock_in : {A : Type 0} (busy refused quiet spent : Type 0) (result : Result A TantivyError) → IfErr result (EventCause refused quiet ⊥) → IfErr result (LockingCause busy refused quiet spent)
no_lock_in busy refused quiet spent (Ok a) h = tt
no_lock_in busy refused quiet spent (Err e) h = no_lock busy refused quiet spent e h

-- an action that takes no lock, and reads no commit's files
abbrev pub ReadsNone : Action → Type 0
ReadsNone (actions.Read commit) = ⊥
ReadsNone other = Unit {0}

abbrev pub TakesNone : Action → Type 0
TakesNone action = (LocksMeta action → ⊥) × ReadsNone action

-- fails so
fails_plainly : {O W C : Type 0} (g : Ghosts O W C) (action : Action) (old new : FilesState O) (result : Result Reply TantivyError) → TakesNone action
    → IfErr result (EventCause (Rose (g.view old.outside).faults (g.view new.outside).faults) ((g.view new.outside).faults ≡ (g.view old.outside).faults) ⊥) → FailsBy g action old new result
fails_plainly g (actions.Load generation) old new result unlocked h = absurd (unlocked.0 tt)
fails_plainly g (actions.Read commit) old new result unlocked h = absurd unlocked.1
fails_plainly g other old new result unlocked h = no_lock_in _ _ _ _ result h

-- locks that stay go with a meta lock that stays kept or free
pub same_kept : (locked : Bool) (old new : Locks) → SameLocks old new → KeepsLocks locked locked old new
same_kept true old new h = h
same_kept false old new h = h

-- what keeps all but a file keeps what any action keeps
pub kept_by : {W : Type 0} {locked : Bool} (told : Told) (action : Action) (old new : View W) → MayNoteBy action old.watched new.watched → KeptView told old new → KeepsBy told action locked locked old new
kept_by {locked = locked} told action old new notes h = record {
  goes_on = h.frame.tells_none.deletes_none.goes_on;
  deletes_none = λ none. h.frame.tells_none.deletes_none;
  heard = h.frame.tells_none.heard;
  room = h.frame.tells_none.room;
  locks = λ tells. same_kept locked old.locks new.locks (h.frame.locks tells);
  watched = notes;
}

-- what may delete files keeps what an action keeps that tries to
pub kept_by_deletes : {W : Type 0} {locked : Bool} (told : Told) (action : Action) (old new : View W) → TriesDeletes action → MayNoteBy action old.watched new.watched → MayDelete told old new → KeepsBy told action locked locked old new
kept_by_deletes {locked = locked} told action old new tries notes h = record {
  goes_on = h.goes_on;
  deletes_none = λ none. absurd (none tries);
  heard = h.heard;
  room = h.room;
  locks = λ tells. same_kept locked old.locks new.locks (h.locks tells);
  watched = notes;
}

module _ {O W C : Type 0} (g : Ghosts O W C) (action : Action) (old new : FilesState O) (result : Result Reply TantivyError) where
  -- what came of it, with some outcomes of its deletes
  abbrev pub Came : Type 0
  Came = IfOk result (λ reply. (deletes : List Bool) × RoseBy (refused_in deletes) (g.view old.outside).refusals (g.view new.outside).refusals
      × (g.told.content → (s : State) → FilesHold g old s → IsWhole s → Suits s action → Performed g action old new (s, deletes) reply))

  -- an action leaves `meta.json` as it was
  pub meta_stays : (g.told.content → (g.view new.outside).reads meta_name ≡ (g.view old.outside).reads meta_name) → MetaBy g action old new result
  meta_stays same = record {
    unsaved = λ none tells. same tells;
    failed = λ tells s h whole suits deletes. on_err result (inl (same tells));
    memory = λ tells. any_err result (λ e is. same tells);
    spared = λ tells. any_ok result (λ reply none. same tells);
  } where
    any_ok : (r : Result Reply TantivyError) {P : Reply → Type 0} → ((reply : Reply) → P reply) → IfOk r P
    any_ok (Ok reply) f = f reply
    any_ok (Err error) f = tt

  -- an action that takes no lock and spends nothing fails as an event does
  pub plain_faults : EventFaults ⊥ (g.view old.outside) (g.view new.outside) result → (SpentBy old.collections action → ⊥) → TakesNone action → FaultsBy g action old new result
  plain_faults faults unspent unlocked = record {
    quiet = faults.quiet;
    free = λ told takes. absurd (unlocked.0 takes);
    fits = on_ok result unspent;
    cause = fails_plainly g action old new result unlocked faults.cause;
  }

  -- the meta lock is kept for a reload as it was, and the action says so
  abbrev pub SameLocked : Type 0
  SameLocked = (new.locked ≡ old.locked) × (keeps_lock action old.locked ≡ old.locked)

  -- an action that saves no commit
  pub on_files : IfOk result (MayGive old.collections old.managed action) → Came → (g.told.content → (g.view new.outside).reads meta_name ≡ (g.view old.outside).reads meta_name)
      → (g.told.content → KeepsDotted (g.view old.outside).reads (g.view new.outside).reads) → ((bound : ℕ) → Short bound old.open_files → Short (bound + added_by action) new.open_files) → OnOk result (new.collections.next ≤ old.collections.next + given_by action)
      → FaultsBy g action old new result → new.form ≡ old.form → KeepsBy g.told action old.locked old.locked (g.view old.outside) (g.view new.outside) → (OnlyKeeps action → g.told.content → LeavesAlone (g.view old.outside) (g.view new.outside))
      → SameLocked → Performs g action old new result
  on_files gives came kept dotted lens numbers faults form frame alone (locked, says) = record {
    gives = gives;
    performed = came;
    alone = alone;
    meta = meta_stays kept;
    dotted = dotted;
    lens = lens;
    numbers = numbers;
    faults = faults;
    form = form;
    frame = subst (λ (b : Bool). KeepsBy g.told action old.locked b (g.view old.outside) (g.view new.outside)) (sym locked) frame;
    keeps = on_ok result (locked ∙ sym says);
    stays = on_err result locked;
  }

  -- one by which the directory is only read
  pub on_read : IfOk result (MayGive old.collections old.managed action) → Came → ((bound : ℕ) → Short bound old.open_files → Short (bound + added_by action) new.open_files)
      → OnOk result (new.collections.next ≤ old.collections.next + given_by action) → FaultsBy g action old new result → new.form ≡ old.form → MayNoteBy action (g.view old.outside).watched (g.view old.outside).watched
      → OnlyReads g.told (g.view old.outside) (g.view new.outside) → SameLocked → Performs g action old new result
  on_read gives came lens numbers faults form notes below locked =
      on_files gives came (λ tells. below.content tells meta_name) (λ tells n dot other. below.content tells n) lens numbers faults form
      (kept_by g.told action (g.view old.outside) (g.view new.outside) (subst (λ w. MayNoteBy action (g.view old.outside).watched w) (sym below.kept.watched) notes) below.kept) (λ only tells. reads_alone below tells) locked

-- one that deletes nothing
pub came_undeleted : {O W C : Type 0} (g : Ghosts O W C) (action : Action) (old new : FilesState O) (result : Result Reply TantivyError) → KeptView g.told (g.view old.outside) (g.view new.outside)
    → (g.told.content → (s : State) → FilesHold g old s → IsWhole s → Suits s action → IfOk result (Performed g action old new (s, []))) → Came g action old new result
came_undeleted g action old new (Ok reply) kept h = ([], inl (omega (arith, kept.frame.tells_none.deletes_none.refusals)), h)
came_undeleted g action old new (Err error) kept h = tt

-- one that changes no other file than this one and those of the list
pub on_one_file : {O W C : Type 0} (g : Ghosts O W C) (action : Action) (old new : FilesState O) (result : Result Reply TantivyError) (name : List ℕ) → IsSegmentFile name → IfOk result (MayGive old.collections old.managed action)
    → (g.told.content → (s : State) → FilesHold g old s → IsWhole s → Suits s action → IfOk result (Performed g action old new (s, [])))
    → (g.told.content → KeepsOtherFiles (g.view old.outside).reads (g.view new.outside).reads name)
    → ((bound : ℕ) → Short bound old.open_files → Short (bound + added_by action) new.open_files)
    → EventFaults ⊥ (g.view old.outside) (g.view new.outside) result → KeepsMade (KeptView g.told) g.view old new
    → (SpentBy old.collections action → ⊥) → TakesNone action → (OnlyKeeps action → ⊥) → MayNoteBy action (g.view old.outside).watched (g.view new.outside).watched
    → keeps_lock action old.locked ≡ old.locked → Performs g action old new result
on_one_file g action old new result name is gives performed others lens faults frame unspent unlocked touched notes says =
    on_files g action old new result gives (came_undeleted g action old new result frame.below performed)
    (λ tells. others tells meta_name (λ e. is.file.1 (sym e)) (undotted_isnt_list meta_name refl))
    (λ tells. dotted_others (g.view old.outside).reads (g.view new.outside).reads name is.file.0 (others tells)) lens (few_given (given_by action) result frame.collections)
    (plain_faults g action old new result faults unspent unlocked) frame.form (kept_by g.told action (g.view old.outside) (g.view new.outside) notes frame.below) (λ only. absurd (touched only)) (frame.locked, says)

-- what a call keeps that makes no file
pub as_made : {O W C : Type 0} (g : Ghosts O W C) {old new : FilesState O} → KeepsManaged (KeptView g.told) g.view old new → KeepsMade (KeptView g.told) g.view old new
as_made g frame = record { form = frame.form; locked = frame.locked; collections = frame.collections; below = frame.below }

-- want of memory alone, where the device is asked for nothing
pub wants_memory : {O W C : Type 0} (g : Ghosts O W C) (old new : FilesState O) (result : Result Reply TantivyError) → new.outside ≡ old.outside → IfErr result (λ error. error ≡ errors.Memory) → EventFaults ⊥ (g.view old.outside) (g.view new.outside) result
wants_memory g old new (Ok reply) same h = record { quiet = ap (λ o. (g.view o).faults) same; fits = λ never. never; cause = tt }
wants_memory g old new (Err error) same h = record {
  quiet = tt;
  fits = tt;
  cause = subst (EventCause (Rose (g.view old.outside).faults (g.view new.outside).faults) ((g.view new.outside).faults ≡ (g.view old.outside).faults) ⊥) (sym h) (ap (λ o. (g.view o).faults) same);
}

-- An action that asks the device for nothing: it fails for want of memory alone.
pub memory_only : {O W C : Type 0} (g : Ghosts O W C) (action : Action) (old new : FilesState O) (result : Result Reply TantivyError) → (SpentBy old.collections action → ⊥) → TakesNone action → MayNoteBy action (g.view old.outside).watched (g.view old.outside).watched
    → new.outside ≡ old.outside → new.form ≡ old.form → OnOk result (new.collections.next ≤ old.collections.next + given_by action) → ((bound : ℕ) → Short bound old.open_files → Short (bound + added_by action) new.open_files)
    → IfOk result (MayGive old.collections old.managed action) → ((s : State) → FilesHold g old s → IfOk result (λ reply. (reply ≡ reply_in s action []) × FilesHold g new (after s action reply) × ((commit : Commit) → reply ≡ replies.Saved commit → ⊥)))
    → IfErr result (λ error. error ≡ errors.Memory) → SameLocked g action old new result → Performs g action old new result
memory_only g action old new result unspent unlocked notes same form numbers lens gives held why locked =
    on_read g action old new result gives
    (came_undeleted g action old new result below.kept (λ tells s h whole suits.
    IfOk-weaker result _ _ (λ reply k. record { reply_is = k.0; held = k.1; same = λ some stays. reads_alone below tells; saves = λ commit e. absurd (k.2 commit e) }) (held s h)))
    lens numbers (plain_faults g action old new result (wants_memory g old new result same why) unspent unlocked) form notes below locked where
      below : OnlyReads g.told (g.view old.outside) (g.view new.outside)
      below = subst (λ o. OnlyReads g.told (g.view old.outside) (g.view o)) (sym same) (record { kept = kept_itself g.told (g.view old.outside); content = λ tells n. refl })

-- An action that only asks: it changes nothing.
pub asks_only : {O W C : Type 0} (g : Ghosts O W C) (action : Action) (old new : FilesState O) (result : Result Reply TantivyError) → IfOk result (MayGive old.collections old.managed action)
    → (g.told.content → (s : State) → FilesHold g old s → IsWhole s → Suits s action → IfOk result (λ reply. (reply ≡ reply_in s action []) × (after s action reply ≡ s) × ((commit : Commit) → reply ≡ replies.Saved commit → ⊥)))
    → FaultsBy g action old new result → KeepsFiles (OnlyReads g.told) g.view old new → MayNoteBy action (g.view old.outside).watched (g.view old.outside).watched → keeps_lock action old.locked ≡ old.locked → Performs g action old new result
asks_only g action old new result gives found faults frame notes says =
    let below = frame.managed.below in
    on_read g action old new result gives
    (came_undeleted g action old new result below.kept (λ tells s h whole suits.
    IfOk-weaker result _ _ (λ reply k. record {
      reply_is = k.0;
      held = subst (λ (t : State). FilesHold g new t) (sym k.1) (same_holds (g.view old.outside).reads (g.view new.outside).reads (kept_of s.catalog old) (kept_of s.catalog new) s (below.content tells) (kept_by_files s.catalog frame) h);
      same = λ some stays. reads_alone below tells;
      saves = λ commit e. absurd (k.2 commit e);
    }) (found tells s h whole suits)))
    (λ bound short. short_same bound (added_by action) old.open_files new.open_files frame.open_files short) (few_given (given_by action) result frame.managed.collections) faults frame.managed.form notes below (frame.managed.locked, says)

-- ---- notices

-- a notice comes by a save
by_save : (action : Action) (old new : WatchState) → MayNoteBy action old new → MayNote meta_name old new
by_save (actions.Save commit text required) old new may = may
by_save other old new same = inl same

-- and by nothing else
by_none : (action : Action) → SavesNoCommit action → (old new : WatchState) → MayNoteBy action old new → new ≡ old
by_none (actions.Save commit text required) none old new may = absurd none
by_none other none old new same = same

-- so that it comes only at an event that commits
pub noted_by : (event : Event) (action : Action) → SavesOnlyAt event action → (old new : WatchState) → MayNoteBy action old new → MayNoteAt event old new
noted_by (events.Commit payload ids) action saves old new may = by_save action old new may
noted_by other action saves old new may = by_none action saves old new may
