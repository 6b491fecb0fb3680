-- What a crash may leave of the files of a store while an action is performed on them.
use Rattle.std.specs.Prelude.{ℕ, ◌≡◌, Bool, true, List, Some, Result, IfErr, IfOk, OnOk}
use Rattle.tv_base.specs.declared.error.TantivyError.{TantivyError}
use Rattle.tv_base.specs.declared.error.TantivyError.TheVariants as errors
use Rattle.tv_crashes.specs.Stored.{IsSafe, IsStored, stored_of}
use Rattle.tv_device.specs.declared.directory.Directory.{Ghosts}
use Rattle.tv_formats.specs.Disk.{Sealed, Throughout, possible_now}
use Rattle.tv_formats.specs.Names.{has}
use Rattle.tv_formats.specs.Segments.{all_required}
use Rattle.tv_machine.specs.Living.{is_busy}
use Rattle.tv_machine.specs.Machine.{step}
use Rattle.tv_machine.specs.SoundStates.{IsWhole}
use Rattle.tv_machine.specs.State.{SealedFile, State, file_at}
use Rattle.tv_events.specs.declared.event.Event.{Event}
use Rattle.tv_managed.specs.Crashes.{AreListed, IsTracked}
use Rattle.tv_catalog.specs.Actions.{Suits, after, reply_in}
use Rattle.tv_store.specs.Kept.{FilesState, IsHeld, StoreState, kept_of, names_below}
use Rattle.tv_store.specs.Performing.{FilesHold, SavedNone}
use Rattle.tv_catalog.specs.Plans.{CanPerform}
use Rattle.tv_catalog.specs.declared.action.Action.{Action}
use Rattle.tv_catalog.specs.declared.action.Reply.{Reply}

-- A crash can't hurt the files of a store, which hold this state: the list forgets no file, and each managed
-- name is on it, whatever a crash may leave of that. In each possible state `meta.json` means the current
-- commit, each of whose files has one possible state. And each sealed file that a live segment requires
-- stands so, with its bytes.
pub record IsDurable {O W C : Type 0} (g : Ghosts O W C) (files : FilesState O) (s : State) : Type 0 where
  pub tracked : IsTracked g (names_below files)
  pub listed : AreListed g (names_below files)
  pub stored :
      IsStored (stored_of files.form s) (stored_of files.form s) (possible_now (g.disk files.outside))
  pub sealed : (n bytes : List ℕ) → has (all_required s.catalog.live) n ≡ true
      → file_at s n ≡ Some (SealedFile bytes) → (g.disk files.outside).now n ≡ Sealed bytes

-- An action was performed from this state: at each moment a crash leaves what the state stores, or what is
-- stored after the action, whatever deletes are refused. At Ok a crash can't hurt the files, with the state
-- after what came of the action. Where that tells of no commit which was saved, or where memory was wanted,
-- it leaves at each moment what the state stores.
pub record LeavesStored {O W C : Type 0} (g : Ghosts O W C) (action : Action) (old new : FilesState O)
    (s : State) (result : Result Reply TantivyError) : Type 0 where
  pub moments : (deletes : List Bool) → Throughout
      (IsSafe (stored_of old.form s) (stored_of old.form (after s action (reply_in s action deletes))))
      (g.disk old.outside) (g.disk new.outside)
  pub durable : IfOk result (λ reply. IsDurable g new (after s action reply))
  pub spared : IfOk result (λ reply. SavedNone reply
      → Throughout (IsSafe (stored_of old.form s) (stored_of old.form s))
      (g.disk old.outside) (g.disk new.outside))
  pub memory : IfErr result (λ error. error ≡ errors.Memory
      → Throughout (IsSafe (stored_of old.form s) (stored_of old.form s))
      (g.disk old.outside) (g.disk new.outside))

-- The same from each whole state that these files hold, that suits the action, and in which it can be
-- performed, where a crash can't hurt the files.
abbrev pub PerformsSafely : {O W C : Type 0} → Ghosts O W C → Action → (old new : FilesState O)
    → Result Reply TantivyError → Type 0
PerformsSafely g action old new result =
    g.tells_images → (s : State) → FilesHold g old s → IsWhole s → Suits s action
    → CanPerform (kept_of s.catalog old) action → IsDurable g old s
    → LeavesStored g action old new s result

-- the files of a store, which keeps the meta lock where a reload waits for its files
abbrev pub store_files : {O : Type 0} → StoreState O → FilesState O
store_files store = record {
  outside = store.outside;
  form = store.kept.form;
  managed = store.kept.managed;
  collections = store.kept.collections;
  open_files = store.kept.open_files;
  left = store.kept.left;
  locked = is_busy store.kept.catalog;
}

-- An event's step was made from this state, and its line is yet to be told: at each moment a crash leaves
-- what the state stores, or what is stored after the event, whatever deletes are refused; where memory was
-- wanted, what the state stores. At Ok a crash can't hurt the files, whatever state they hold.
pub record ActsSafely {A O W C : Type 0} (g : Ghosts O W C) (old new : StoreState O) (event : Event)
    (s : State) (result : Result A TantivyError) : Type 0 where
  pub moments : (outcomes : List Bool) → Throughout
      (IsSafe (stored_of old.kept.form s) (stored_of old.kept.form (step s event outcomes).1))
      (g.disk old.outside) (g.disk new.outside)
  pub durable : OnOk result ((t : State) → IsHeld g new t → IsDurable g (store_files new) t)
  pub memory : IfErr result (λ error. error ≡ errors.Memory
      → Throughout (IsSafe (stored_of old.kept.form s) (stored_of old.kept.form s))
      (g.disk old.outside) (g.disk new.outside))
