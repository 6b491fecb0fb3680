-- What the laws of a store's events say.
use Rattle.std.specs.Prelude.{ℕ, ◌≡◌, ◌<◌, Bool, false, true, List, Some}
use Rattle.tv_device.specs.declared.directory.Directory.{Ghosts}
use Rattle.tv_formats.specs.Commits.{Commit}
use Rattle.tv_formats.specs.Names.{has, at}
use Rattle.tv_formats.specs.Segments.{num_docs}
use Rattle.tv_machine.specs.SoundStates.{IsWhole}
use Rattle.tv_device.specs.Locks.{Locks}
use Rattle.tv_machine.specs.State.{Catalog, State, live_at}
use Rattle.tv_formats.specs.declared.segment.LiveSegment.{LiveSegment}
use Rattle.tv_store.specs.Kept.{StoreState, IsHeld}

-- The directory tells its content, and with what the store keeps it holds a state of the machine
-- whose commit has its files.
pub record HoldsSome {O W C : Type 0} (g : Ghosts O W C) (store : StoreState O) : Type 0 where
  pub tells : g.told.content
  pub state : State
  pub held : IsHeld g store state
  pub whole : IsWhole state

-- the commit has each of these live segments that has living documents
abbrev pub HasLiving : (ids : List (List ℕ)) → Catalog → Commit → Type 0
HasLiving ids c commit =
    (id : List ℕ) (segment : LiveSegment) → has ids id ≡ true
    → live_at c id ≡ Some segment → 0 < num_docs segment
    → at commit.segments id ≡ Some segment

-- What becomes of the lock of this name that is held while something waits: it is free before that begins, and
-- held then; it is free once that has ended; and else it stands as it stood.
pub record LocksMeanwhile (name : List ℕ) (was_waiting now_waiting : Bool) (old new : Locks)
    : Type 0 where
  pub begins : was_waiting ≡ false → now_waiting ≡ true → (old name ≡ false) × (new name ≡ true)
  pub ends : was_waiting ≡ true → now_waiting ≡ false → new name ≡ false
  pub stays : now_waiting ≡ was_waiting → new name ≡ old name
