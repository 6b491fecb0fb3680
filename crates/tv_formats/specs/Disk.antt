-- What a crash may leave of the files on a disk.
use Rattle.std.specs.Prelude.{ℕ, ◌≡◌, ◌⊎◌, ◌≤◌, ◌<◌, List, Option, None, Some, IsSome}
use Rattle.tv_formats.specs.Files.{Reads}

-- how a name may stand on a disk: it has no file, or one that isn't sealed, or one that is sealed with these
-- bytes
pub data DiskState : Type 0 where
  Absent : DiskState
  Unsealed : DiskState
  Sealed : List ℕ → DiskState

-- a name in this state has a file
abbrev pub IsThere : DiskState → Type 0
IsThere Absent = ⊥
IsThere Unsealed = Unit {0}
IsThere (Sealed bytes) = Unit {0}

-- what the name may read then: of a file that isn't sealed, any bytes
abbrev pub MayRead : DiskState → Option (List ℕ) → Type 0
MayRead Absent read = read ≡ None
MayRead Unsealed read = IsSome read
MayRead (Sealed bytes) read = read ≡ Some bytes

-- the states in which a crash may leave each name: its state at the last directory sync that succeeded, and
-- those since
abbrev pub Possible : Type 1
Possible = List ℕ → DiskState → Type 0

-- an image gives each name, by itself, one of its possible states
pub record IsImage (possible : Possible) (image : Reads) : Type 0 where
  pub each : (n : List ℕ) → (s : DiskState) × possible n s × MayRead s (image n)

-- what is said of a disk: the clock, the state of each name now, and, for each moment up to now, the states
-- in which a crash then may leave each name
pub record Disk : Type 1 where
  pub moment : ℕ
  pub now : List ℕ → DiskState
  pub possible : ℕ → Possible

-- a disk of which nothing is said
abbrev pub no_disk : Disk
no_disk = record { moment = 0; now = λ _. Absent; possible = λ _ _ _. ⊥ }

-- the states in which a crash now may leave each name
abbrev pub possible_now : Disk → Possible
possible_now disk = disk.possible disk.moment

-- a crash at this moment may leave this image
abbrev pub MayLeave : Disk → ℕ → Reads → Type 0
MayLeave disk moment image = IsImage (disk.possible moment) image

-- no name has a possible state that it hadn't
pub record Within (old new : Possible) : Type 0 where
  pub each : (n : List ℕ) (s : DiskState) → new n s → old n s

-- each name has the possible states that it had
pub record SamePossible (old new : Possible) : Type 0 where
  pub no_more : Within old new
  pub no_fewer : Within new old

-- at most this state of this name is possible besides
pub record MayAdd (old new : Possible) (name : List ℕ) (state : DiskState) : Type 0 where
  pub each : (n : List ℕ) (s : DiskState) → new n s → old n s ⊎ ((n ≡ name) × (s ≡ state))

-- this state of this name is possible, and all that was
pub record Adds (old new : Possible) (name : List ℕ) (state : DiskState) : Type 0 where
  pub added : new name state
  pub kept : Within new old

-- this name has one possible state, that in which it is
abbrev pub IsSettledAt : Disk → List ℕ → Type 0
IsSettledAt disk n = (s : DiskState) → possible_now disk n s → s ≡ disk.now n

-- each name has one possible state, that in which it is
pub record IsSettled (disk : Disk) : Type 0 where
  pub each : (n : List ℕ) → IsSettledAt disk n

-- One call: what a crash at a moment up to then may leave stays as it was. At each later moment of the call a
-- crash may leave just what it may before the call, or just what it may after it.
pub record Elapses (old new : Disk) : Type 0 where
  pub later : old.moment ≤ new.moment
  pub past : (x : ℕ) → x ≤ old.moment → SamePossible (old.possible x) (new.possible x)
  pub inside : (x : ℕ) → old.moment < x → x ≤ new.moment
      → SamePossible (possible_now old) (new.possible x) ⊎ SamePossible (possible_now new) (new.possible x)

-- A run of calls: at each of its moments this holds of what a crash may leave, and what may be left by a
-- crash before them stays as it was.
pub record Throughout (P : Possible → Type 0) (old new : Disk) : Type 0 where
  pub later : old.moment ≤ new.moment
  pub past : (x : ℕ) → x ≤ old.moment → SamePossible (old.possible x) (new.possible x)
  pub each : (x : ℕ) → old.moment ≤ x → x ≤ new.moment → P (new.possible x)

-- names that aren't touched have no possible state that they hadn't
pub record OnlyTouches (touched : List ℕ → Type 0) (old new : Possible) : Type 0 where
  pub each : (n : List ℕ) → (touched n → ⊥) → (s : DiskState) → new n s → old n s

-- names that aren't touched stand as they stood
pub record OnlyMoves (touched : List ℕ → Type 0) (old new : Disk) : Type 0 where
  pub each : (n : List ℕ) → (touched n → ⊥) → new.now n ≡ old.now n

-- at each moment of some calls names that aren't touched have no possible state that they hadn't before, and
-- then they stand as they stood
pub record TouchesOnly (touched : List ℕ → Type 0) (old new : Disk) : Type 0 where
  pub moments : Throughout (OnlyTouches touched (possible_now old)) old new
  pub now : OnlyMoves touched old new
