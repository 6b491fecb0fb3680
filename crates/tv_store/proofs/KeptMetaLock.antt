-- Actions that take the meta lock for a reload, or give it back.
use Rattle.std.proofs.Common.{ℕ, ◌≡◌, ◌≤◌, ◌+◌, ◌∙◌, Bool, false, [], Result, Ok, Err, sym, ap, subst, arith, inl}
use Rattle.std.proofs.lemmas.Result.{IfOk-weaker}
use Rattle.std.specs.Prelude.{IfOk, OnErr, OnOk}
use Rattle.tv_base.specs.declared.error.TantivyError.{TantivyError}
use Rattle.tv_catalog.specs.Actions.{MayGive, Suits, added_by, after, given_by, keeps_lock, reply_in}
use Rattle.tv_catalog.specs.declared.action.Action.{Action}
use Rattle.tv_catalog.specs.declared.action.Reply.{Reply}
use Rattle.tv_catalog.specs.declared.action.Reply.TheVariants as replies
use Rattle.tv_device.specs.View.{OnlyLocks, OnlyReads}
use Rattle.tv_device.specs.ViewLaws.{tells_then}
use Rattle.tv_device.specs.declared.directory.Directory.{Ghosts}
use Rattle.tv_formats.specs.Commits.{Commit}
use Rattle.tv_formats.specs.Names.{meta_name}
use Rattle.tv_machine.specs.SoundStates.{IsWhole}
use Rattle.tv_machine.specs.State.{State}
use Rattle.tv_store.proofs.FewNumbers.{few_given}
use Rattle.tv_store.proofs.FilesHeld.{short_same}
use Rattle.tv_store.proofs.Holding.{same_holds}
use Rattle.tv_store.proofs.KeptLocks.{then_keeps}
use Rattle.tv_store.proofs.Performing.{Came, meta_stays}
use Rattle.tv_store.specs.Applying.{KeepsLocks}
use Rattle.tv_store.specs.Kept.{FilesState, kept_of}
use Rattle.tv_store.specs.Performing.{FaultsBy, FilesHold, MayNoteBy, Performed, Performs, Short}
use Rattle.tv_store.specs.ReloadLocks.{GivesBack}

-- what only reads takes no lock
pub reads_lock : {O W C : Type 0} (g : Ghosts O W C) (old new : FilesState O) → OnlyReads g.told (g.view old.outside) (g.view new.outside) → OnlyLocks g.told (g.view old.outside) (g.view new.outside)
reads_lock g old new below = record { tells_none = below.kept.frame.tells_none; watched = below.kept.watched; content = below.content }

-- the meta lock is given back after a call that only reads
pub record GaveBack {O W C : Type 0} (g : Ghosts O W C) (old new : FilesState O) : Type 0 where
  pub below : OnlyLocks g.told (g.view old.outside) (g.view new.outside)
  pub locks : g.told.locks → KeepsLocks old.locked false (g.view old.outside).locks (g.view new.outside).locks

pub gave_back : {O W C : Type 0} (g : Ghosts O W C) (old mid new : FilesState O) → OnlyReads g.told (g.view old.outside) (g.view mid.outside) → mid.locked ≡ old.locked
    → GivesBack g.told mid.locked (g.view mid.outside) (g.view new.outside) → GaveBack g old new
gave_back g old mid new read same gives = record {
  below = record {
    tells_none = tells_then read.kept.frame.tells_none gives.frame.tells_none;
    watched = gives.frame.watched ∙ read.kept.watched;
    content = λ tells n. gives.frame.content tells n ∙ read.content tells n;
  };
  locks = λ tells.
      then_keeps old.locked false (g.view old.outside).locks (g.view mid.outside).locks (g.view new.outside).locks (read.kept.frame.locks tells)
      (subst (λ (b : Bool). KeepsLocks b false (g.view mid.outside).locks (g.view new.outside).locks) same (gives.locks tells));
}

module _ {O W C : Type 0} (g : Ghosts O W C) (action : Action) (old new : FilesState O) (result : Result Reply TantivyError) (below : OnlyLocks g.told (g.view old.outside) (g.view new.outside)) where
  -- it deletes nothing
  pub came_locked : (g.told.content → (s : State) → FilesHold g old s → IsWhole s → Suits s action → IfOk result (Performed g action old new (s, []))) → Came g action old new result
  came_locked h = came result h where
    came : (r : Result Reply TantivyError) → (g.told.content → (s : State) → FilesHold g old s → IsWhole s → Suits s action → IfOk r (Performed g action old new (s, []))) → Came g action old new r
    came (Ok reply) k = ([], inl (omega (arith, below.tells_none.deletes_none.refusals)), k)
    came (Err error) k = tt

  -- the directory stays but for the meta lock
  pub on_locks : IfOk result (MayGive old.collections old.managed action) → Came g action old new result → ((bound : ℕ) → Short bound old.open_files → Short (bound + added_by action) new.open_files)
      → OnOk result (new.collections.next ≤ old.collections.next + given_by action) → FaultsBy g action old new result → new.form ≡ old.form → MayNoteBy action (g.view old.outside).watched (g.view new.outside).watched
      → (g.told.locks → KeepsLocks old.locked new.locked (g.view old.outside).locks (g.view new.outside).locks) → OnOk result (new.locked ≡ keeps_lock action old.locked) → OnErr result (new.locked ≡ old.locked)
      → Performs g action old new result
  on_locks gives came lens numbers faults form notes locks keeps stays = record {
    gives = gives;
    performed = came;
    alone = λ only tells. record { reads = below.content tells; watched = below.watched };
    meta = meta_stays g action old new result (λ tells. below.content tells meta_name);
    dotted = λ tells n dot other. below.content tells n;
    lens = lens;
    numbers = numbers;
    faults = faults;
    form = form;
    frame = record {
      goes_on = below.tells_none.deletes_none.goes_on;
      deletes_none = λ none. below.tells_none.deletes_none;
      heard = below.tells_none.heard;
      room = below.tells_none.room;
      locks = locks;
      watched = notes;
    };
    keeps = keeps;
    stays = stays;
  }

  -- and so does what is kept
  pub locks_only : (locked : Bool) → new ≡ record old { outside = new.outside; locked = locked } → IfOk result (MayGive old.collections old.managed action)
      → (g.told.content → (s : State) → FilesHold g old s → IsWhole s → Suits s action → IfOk result (λ reply. (reply ≡ reply_in s action []) × (after s action reply ≡ s) × ((commit : Commit) → reply ≡ replies.Saved commit → ⊥)))
      → FaultsBy g action old new result → MayNoteBy action (g.view old.outside).watched (g.view new.outside).watched
      → (g.told.locks → KeepsLocks old.locked locked (g.view old.outside).locks (g.view new.outside).locks) → OnOk result (locked ≡ keeps_lock action old.locked) → OnErr result (locked ≡ old.locked)
      → Performs g action old new result
  locks_only locked rest gives found faults notes locks keeps stays =
      let is : new.locked ≡ locked = ap (λ v. v.locked) rest in
      on_locks gives
      (came_locked (λ tells s h whole suits.
      IfOk-weaker result _ _ (λ reply k. record {
        reply_is = k.0;
        held = subst (λ (t : State). FilesHold g new t) (sym k.1) (same_holds (g.view old.outside).reads (g.view new.outside).reads (kept_of s.catalog old) (kept_of s.catalog new) s (below.content tells) (ap (kept_of s.catalog) rest) h);
        same = λ some stays. record { reads = below.content tells; watched = below.watched };
        saves = λ commit e. absurd (k.2 commit e);
      }) (found tells s h whole suits)))
      (λ bound short. short_same bound (added_by action) old.open_files new.open_files (ap (λ v. v.open_files) rest) short) (few_given (given_by action) result (ap (λ v. v.collections) rest)) faults (ap (λ v. v.form) rest) notes
      (λ tells. subst (λ (b : Bool). KeepsLocks old.locked b (g.view old.outside).locks (g.view new.outside).locks) (sym is) (locks tells))
      (subst (λ (b : Bool). OnOk result (b ≡ keeps_lock action old.locked)) (sym is) keeps) (subst (λ (b : Bool). OnErr result (b ≡ old.locked)) (sym is) stays)
