-- What a crash may leave of the calls on the files of a store, at each of their moments.
use Rattle.std.specs.Prelude.{ℕ, ◌≡◌, true, false, List, Some, Result, OnOk}
use Rattle.tv_device.specs.declared.directory.Directory.{Ghosts}
use Rattle.tv_formats.specs.Disk.{Disk, Sealed, Unsealed, MayAdd, OnlyMoves, Throughout, possible_now}
use Rattle.tv_formats.specs.Footer.{sealed}
use Rattle.tv_formats.specs.Names.{at, has}
use Rattle.tv_managed.specs.Crashes.{CollectsStates, Gains, IsFree, IsGiven, LeavesSafely, OrItsList, ShortensSafely}
use Rattle.tv_managed.specs.Names.{ManagedNames}
use Rattle.tv_store.specs.Kept.{FilesState, names_below}

-- A file is made where there is none and its name isn't held. At each moment it may be unsealed, and the list
-- may have its name, where that has no dot in front and wasn't managed; where there is a file, or the name is
-- held, no state is possible besides, and each name stands as it stood.
pub record OpensStates (old new : Disk) (names : ManagedNames) (name : List ℕ) : Type 0 where
  pub moments :
      Throughout (Gains (λ n s. IsFree old names name × IsGiven names name Unsealed n s) (possible_now old))
      old new
  pub now : OnlyMoves (λ n. IsFree old names name × OrItsList names name n) old new

-- A file is made as `OpensStates` says, and where the list forgot no file it never does.
abbrev pub OpensFileSafely : {O W C : Type 0} → Ghosts O W C → (name : List ℕ)
    → (old new : FilesState O) → Type 0
OpensFileSafely g name old new =
    LeavesSafely g (OpensStates (g.disk old.outside) (g.disk new.outside) (names_below old).1 name)
    (names_below old) (names_below new)

-- A file to which this was written is sealed. At each moment it may have that, with a footer, and no other
-- state is possible besides; at Ok it has it. No other file is touched.
pub record SealsAs {A E : Type 0} (old new : Disk) (name body : List ℕ) (result : Result A E) : Type 0 where
  pub moments :
      Throughout (λ possible. MayAdd (possible_now old) possible name (Sealed (sealed body))) old new
  pub now : OnlyMoves (λ n. n ≡ name) old new
  pub ok : OnOk result (new.now name ≡ Sealed (sealed body))

-- An open file is sealed as `SealsAs` says, and where the list forgot no file it never does.
abbrev pub SealsSafely : {A E O W C : Type 0} → Ghosts O W C → (name : List ℕ) → (old new : FilesState O)
    → Result A E → Type 0
SealsSafely g name old new result =
    (body : List ℕ) → at old.open_files name ≡ Some body
    → LeavesSafely g (SealsAs (g.disk old.outside) (g.disk new.outside) name body result)
    (names_below old) (names_below new)

-- A collection that spares what is living deletes some files, none of them living: `CollectsStates` says what
-- a crash may leave at each moment.
pub record CollectsSafely {A E O W C : Type 0} (g : Ghosts O W C) (living : List (List ℕ))
    (old new : FilesState O) (result : Result A E) : Type 0 where
  pub done : List (List ℕ)
  pub spares : (n : List ℕ) → has living n ≡ true → has done n ≡ false
  pub leaves : ShortensSafely g (CollectsStates g done (names_below old) (names_below new))
      (names_below old) (names_below new) result
