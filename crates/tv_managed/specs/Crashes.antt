-- What a crash may leave of a managed directory at each moment of its calls.
use Rattle.std.specs.Prelude.{ℕ, ◌≡◌, ◌⊎◌, Bool, true, false, List, Some, Result, IfErr, IfOk, OnErr, OnOk}
use Rattle.tv_formats.specs.Disk.{DiskState, Absent, Unsealed, Sealed, IsThere, MayLeave, MayRead, Possible, Disk, possible_now, Within, MayAdd, IsSettled, Elapses, Throughout, OnlyMoves, TouchesOnly}
use Rattle.tv_formats.specs.Files.{Reads}
use Rattle.tv_formats.specs.Listed.{ImagesListTheirFiles, IsAlwaysListed, IsListSettled, ListsEachFile}
use Rattle.tv_formats.specs.Listing.{IsListFile, IsListOf, list_text}
use Rattle.tv_formats.specs.Names.{has, is_undotted, list_name}
use Rattle.tv_formats.specs.Footer.{sealed}
use Rattle.tv_formats.specs.Collections.{Collection, collection_at, done_of, held, without}
use Rattle.tv_base.specs.Causes.{IoCause}
use Rattle.tv_base.specs.declared.io.IoError.{IoError}
use Rattle.tv_base.specs.declared.open_errors.OpenWriteError.{OpenWriteError}
use Rattle.tv_base.specs.declared.open_errors.OpenWriteError.TheVariants as write
use Rattle.tv_device.specs.Images.{KeepsDisk, KeepsOtherStates, SameStates}
use Rattle.tv_device.specs.declared.directory.Directory.{Ghosts}
use Rattle.tv_managed.specs.Collecting.{Leaves, NextName, SavesNone, Tries, TriesSome, names_of}
use Rattle.tv_managed.specs.Managed.{NeedsNoListing, SavesList, registered}
use Rattle.tv_managed.specs.Names.{ManagedNames, done_names}
use Rattle.tv_managed.specs.Writers.{IsSummed}
use Rattle.tv_managed.specs.declared.collection.GarbageCollectionResult.{GarbageCollectionResult}
use Rattle.tv_managed.specs.declared.writer.ManagedWriter.{ManagedWriter}

-- The list is for crashes. It forgets no file, each undotted file that a crash may leave is managed, and each
-- managed name that no unfinished collection has done is always listed. What such a collection has done,
-- which has no dot in front, is absent now; it may be on no list any more.
pub record IsCovered (possible : Possible) (now : List ℕ → DiskState) (names : ManagedNames) : Type 0 where
  pub forgets_none : ListsEachFile possible
  pub covers : (n : List ℕ) → is_undotted n ≡ true → (s : DiskState) → possible n s → IsThere s
      → has names.managed n ≡ true
  pub listed : (n : List ℕ) → has names.managed n ≡ true → has (done_names names.collections) n ≡ false
      → IsAlwaysListed possible n
  pub gone : (n : List ℕ) → is_undotted n ≡ true
      → has (done_names names.collections) n ≡ true → now n ≡ Absent

-- The list of a managed directory forgets no file that a crash now may leave, and memory knows each of them
-- (`IsCovered`).
abbrev pub IsTracked : {D W C : Type 0} → Ghosts D W C → D × ManagedNames → Type 0
IsTracked g managed = IsCovered (possible_now (g.disk managed.0)) (g.disk managed.0).now managed.1

-- each managed name is on the list, whatever a crash now may leave of that
abbrev pub AreListed : {D W C : Type 0} → Ghosts D W C → D × ManagedNames → Type 0
AreListed g managed =
    (n : List ℕ) → has managed.1.managed n ≡ true → IsAlwaysListed (possible_now (g.disk managed.0)) n

-- The list of a managed directory forgets no file at any moment of a call, and afterwards memory knows each
-- file that a crash may leave.
pub record KeepsTrack {D W C : Type 0} (g : Ghosts D W C) (old new : D × ManagedNames) : Type 0 where
  pub tracked : IsTracked g new
  pub moments : Throughout ListsEachFile (g.disk old.0) (g.disk new.0)

-- these files and the list
abbrev pub AnyOrList : List (List ℕ) → List ℕ → Type 0
AnyOrList names n = (has names n ≡ true) ⊎ IsListFile n

-- The disk was only read. Where a crash leaves the list as it is, as after a directory sync that succeeded,
-- and each image that it may leave lists its files, the list forgets no file, memory knows each of them, and
-- each managed name is on the list, whatever a crash may leave of that.
pub record WrapsDisk {D W C : Type 0} (g : Ghosts D W C) (directory : D)
    (managed : D × ManagedNames) : Type 0 where
  pub keeps : KeepsDisk (g.disk directory) (g.disk managed.0)
  pub tracked : IsListSettled (g.disk directory) → ImagesListTheirFiles (possible_now (g.disk directory))
      → IsTracked g managed
  pub listed : IsListSettled (g.disk directory) → ImagesListTheirFiles (possible_now (g.disk directory))
      → AreListed g managed

-- What a call of a managed directory does to what a crash may leave: it keeps track, and this becomes of the
-- states. Where each managed name was on the list, whatever a crash might leave of that, each is so still.
pub record LeavesSafely {D W C : Type 0} (g : Ghosts D W C) (becomes : Type 0)
    (old new : D × ManagedNames) : Type 0 where
  pub tracks : IsTracked g old → KeepsTrack g old new
  pub listed : AreListed g old → AreListed g new
  pub states : becomes

-- What a call that may save a shorter list does to what a crash may leave: it keeps track, and this becomes
-- of the states. At Ok each managed name is on the list, whatever a crash may leave of that, where each was
-- before; after an error the shorter list may stand, and what it lacks is still managed.
pub record ShortensSafely {A E D W C : Type 0} (g : Ghosts D W C) (becomes : Type 0)
    (old new : D × ManagedNames) (result : Result A E) : Type 0 where
  pub tracks : IsTracked g old → KeepsTrack g old new
  pub listed : OnOk result (AreListed g old → AreListed g new)
  pub states : becomes

-- a call that only reads
abbrev pub ReadsSafely : {D W C : Type 0} → Ghosts D W C → (old new : D × ManagedNames) → Type 0
ReadsSafely g old new = LeavesSafely g (KeepsDisk (g.disk old.0) (g.disk new.0)) old new

-- at most these states are possible besides
pub record Gains (extra : List ℕ → DiskState → Type 0) (old new : Possible) : Type 0 where
  pub each : (n : List ℕ) (s : DiskState) → new n s → old n s ⊎ extra n s

-- this is the list, and the name is to be put on it: it has no dot in front, and isn't managed
abbrev pub IsToList : ManagedNames → (name n : List ℕ) → Type 0
IsToList names name n = IsListFile n × (NeedsNoListing names name → ⊥)

-- this is the list, with the text of the managed names and this one, which has no dot in front and isn't
-- managed
abbrev pub IsNewList : ManagedNames → (name n : List ℕ) → DiskState → Type 0
IsNewList names name n s = IsToList names name n × (s ≡ Sealed (list_text (registered names.managed name)))

-- this is the file, or the list, where the name is to be put on it
abbrev pub OrItsList : ManagedNames → (name n : List ℕ) → Type 0
OrItsList names name n = (n ≡ name) ⊎ IsToList names name n

-- the file in this state, or the list with its name
abbrev pub IsGiven : ManagedNames → (name : List ℕ) → (state : DiskState) → (n : List ℕ) → DiskState → Type 0
IsGiven names name state n s = ((n ≡ name) × (s ≡ state)) ⊎ IsNewList names name n s

-- A name is given this state. At each moment it may be in this state, and the list may have the name, where
-- that has no dot in front and wasn't managed; no other state is possible besides. Where memory was wanted,
-- at most the list gained a state. At Ok the name is in this state; other files stand as they stood.
pub record GivesStates {A : Type 0} (old new : Disk) (names : ManagedNames) (name : List ℕ)
    (state : DiskState) (result : Result A IoError) : Type 0 where
  pub moments : Throughout (Gains (IsGiven names name state) (possible_now old)) old new
  pub now : OnlyMoves (OrItsList names name) old new
  pub memory : IfErr result (IoCause (Unit {0})
      (Throughout (Gains (IsNewList names name) (possible_now old)) old new))
  pub stands : OnOk result (new.now name ≡ state)

-- A name is given this state as `GivesStates` says, and where the list forgot no file it never does.
abbrev pub GivesSafely : {A D W C : Type 0} → Ghosts D W C → (name : List ℕ) → DiskState
    → (old new : D × ManagedNames) → Result A IoError → Type 0
GivesSafely g name state old new result =
    LeavesSafely g (GivesStates (g.disk old.0) (g.disk new.0) old.1 name state result) old new

-- a file of this name may be made: there is none, and no unfinished collection has the name
abbrev pub IsFree : Disk → ManagedNames → (name : List ℕ) → Type 0
IsFree disk names name = (disk.now name ≡ Absent) × (has (held names.collections) name ≡ false)

-- A file is made where there is none and its name isn't held. At each moment it may be unsealed, and the list
-- may have its name, where that has no dot in front and wasn't managed; where there is a file, or the name is
-- held, no state is possible besides, and each name stands as it stood. Where memory was wanted, at most the
-- list gained a state. At Ok the file is unsealed.
pub record CreatesStates {A : Type 0} (old new : Disk) (names : ManagedNames) (name : List ℕ)
    (result : Result A OpenWriteError) : Type 0 where
  pub moments : Throughout (Gains (λ n s. IsFree old names name × IsGiven names name Unsealed n s)
      (possible_now old)) old new
  pub now : OnlyMoves (λ n. IsFree old names name × OrItsList names name n) old new
  pub memory : IfErr result (λ error. error ≡ write.Memory
      → Throughout (Gains (IsNewList names name) (possible_now old)) old new)
  pub stands : OnOk result (new.now name ≡ Unsealed)

-- A file is made as `CreatesStates` says, and where the list forgot no file it never does.
abbrev pub CreatesSafely : {A D W C : Type 0} → Ghosts D W C → (name : List ℕ) → (old new : D × ManagedNames)
    → Result A OpenWriteError → Type 0
CreatesSafely g name old new result =
    LeavesSafely g (CreatesStates (g.disk old.0) (g.disk new.0) old.1 name result) old new

-- No state is possible besides those that were, at any moment, and names stand as they stood; at Ok a crash
-- leaves each so.
pub record SettlesStates {A E : Type 0} (old new : Disk) (result : Result A E) : Type 0 where
  pub moments : Throughout (Within (possible_now old)) old new
  pub now : SameStates old new
  pub ok : OnOk result (IsSettled new)

-- A writer's file is sealed. Whatever its checksum is, no other file is touched. Where that is right, the
-- file may at each moment have all that was written, with its footer, and no other state is possible besides;
-- at Ok it has it. Where its name was deleted since, nothing changed.
pub record SealsStates {A E D W C : Type 0} (g : Ghosts D W C) (old new : D) (w : ManagedWriter D W C)
    (result : Result A E) : Type 0 where
  pub touches : TouchesOnly (λ n. n ≡ (g.state_of w.writer).name) (g.disk old) (g.disk new)
  pub moments : IsSummed g.state_of w
      → Throughout (λ possible. MayAdd (possible_now (g.disk old)) possible (g.state_of w.writer).name
      (Sealed (sealed (g.state_of w.writer).written))) (g.disk old) (g.disk new)
  pub stands : (g.view old).lives w.writer ≡ true → IsSummed g.state_of w
      → OnOk result ((g.disk new).now (g.state_of w.writer).name
      ≡ Sealed (sealed (g.state_of w.writer).written))
  pub gone : (g.view old).lives w.writer ≡ false → KeepsDisk (g.disk old) (g.disk new)

-- a name that is managed no more has no file after any crash
abbrev pub Forgets : {D W C : Type 0} → Ghosts D W C → (old new : D × ManagedNames) → Type 0
Forgets g old new =
    (n : List ℕ) → has old.1.managed n ≡ true → has new.1.managed n ≡ false → (s : DiskState)
    → possible_now (g.disk new.0) n s → s ≡ Absent

-- A collection tries this name: at each moment it may be absent besides, and is where the answer says that it
-- is done. Where that says that it failed, or no name could be tried, nothing changed. No other name is
-- touched.
pub record TriesStates {A E : Type 0} (says_done : A → Bool) (old new : Disk) (name : List ℕ)
    (result : Result A E) : Type 0 where
  pub moments : Throughout (λ possible. MayAdd (possible_now old) possible name Absent) old new
  pub now : OnlyMoves (λ n. n ≡ name) old new
  pub gone : IfOk result (λ answer. says_done answer ≡ true → new.now name ≡ Absent)
  pub refused : IfOk result (λ answer. says_done answer ≡ false → KeepsDisk old new)
  pub err : OnErr result (KeepsDisk old new)

-- A collection tries its next name: at each moment that file may be absent besides, and is where the
-- answer says that it is done. Where that says that it failed, or no name could be tried, nothing
-- changed. No other name is touched.
abbrev pub StepsSafely : {A E D W C : Type 0} → (says_done : A → Bool) → Ghosts D W C → (number : ℕ)
    → (old new : D × ManagedNames) → Result A E → Type 0
StepsSafely says_done g number old new result =
    (next : NextName old.1.collections number)
    → LeavesSafely g (TriesStates says_done (g.disk old.0) (g.disk new.0) next.name result) old new

-- The list may have these names besides. No file is touched. A name that is managed no more has no file after
-- any crash.
pub record ShortensStates {D W C : Type 0} (g : Ghosts D W C) (left : List (List ℕ))
    (old new : D × ManagedNames) : Type 0 where
  pub moments : Throughout (λ possible. MayAdd (possible_now (g.disk old.0)) possible list_name
      (Sealed (list_text left))) (g.disk old.0) (g.disk new.0)
  pub now : OnlyMoves IsListFile (g.disk old.0) (g.disk new.0)
  pub forgets : IsTracked g old → Forgets g old new

-- A collection ends: the list may have the shorter names besides. No file is touched. A name that is managed
-- no more has no file after any crash. At Ok the managed names are on the list, whatever a crash may leave of
-- that, where they were before.
abbrev pub EndsSafely : {A E D W C : Type 0} → Ghosts D W C → (number : ℕ) → (old new : D × ManagedNames)
    → Result A E → Type 0
EndsSafely g number old new result =
    (c : Collection) → collection_at old.1.collections number ≡ Some c
    → ShortensSafely g (ShortensStates g (without c.done old.1.managed) old new) old new result

-- this is one of these names, and it is absent
abbrev pub IsLost : List (List ℕ) → List ℕ → DiskState → Type 0
IsLost names n s = (has names n ≡ true) × (s ≡ Absent)

-- Each name has one possible state, that in which it stood, but that one of these names may be absent
-- besides, and the list may have this text.
pub record IsSettledBut (stood : List ℕ → DiskState) (names : List (List ℕ)) (text : List ℕ)
    (possible : Possible) : Type 0 where
  pub each : (n : List ℕ) (s : DiskState) → possible n s
      → (s ≡ stood n) ⊎ (IsLost names n s ⊎ (IsListFile n × (s ≡ Sealed text)))

-- A collection touches the names that are done and the list alone: a name whose delete is refused stands
-- as it stood. A name that is managed no more has no file after any crash.
pub record CollectsStates {D W C : Type 0} (g : Ghosts D W C) (done : List (List ℕ))
    (old new : D × ManagedNames) : Type 0 where
  pub touches : TouchesOnly (AnyOrList done) (g.disk old.0) (g.disk new.0)
  -- at each moment no state is possible besides; or the device has kept what was written before, and each
  -- name stands as it stood, but that what is done may be absent, and the list may lack it
  pub synced : Throughout (λ possible. Within (possible_now (g.disk old.0)) possible
      ⊎ IsSettledBut (g.disk old.0).now done (list_text (without done old.1.managed)) possible)
      (g.disk old.0) (g.disk new.0)
  pub forgets : IsTracked g old → Forgets g old new

-- What a collection of these names did, whatever it answered: what it left, of the names, the files, the
-- list, and of what a crash may leave. At Ok it tried them all.
pub record CollectsNames {E D W C : Type 0} (g : Ghosts D W C) (names : List (List ℕ))
    (old new : D × ManagedNames) (result : Result GarbageCollectionResult E) : Type 0 where
  pub leaves : Leaves g names old new result
  pub tries : IfOk result (Tries g names old new)
  -- what it tells as deleted is what is done
  pub told : IfOk result (λ r. names_of r.deleted_files.items ≡ done_of leaves.front leaves.outcomes)
  pub saves : SavesList g old new result
  pub saves_none : SavesNone g old new result
  pub safe : g.tells_images
      → ShortensSafely g (CollectsStates g (done_of leaves.front leaves.outcomes) old new) old new result

-- What follows is cited by laws alone.

-- each image that a crash may leave now, it might have left before
abbrev pub LeavesWhatMight : Disk → Disk → Type 0
LeavesWhatMight old new = (image : Reads) → MayLeave new new.moment image → MayLeave old old.moment image

-- an image has each of these names, but the list's, as it stood
abbrev pub StandsFor : (names : List (List ℕ)) → (stood : List ℕ → DiskState) → Reads → Type 0
StandsFor names stood image =
    (n : List ℕ) → has names n ≡ true → (IsListFile n → ⊥) → MayRead (stood n) (image n)

-- What follows is cited by private functions alone.

-- A step puts a name on the list, where that has no dot in front and isn't managed, and keeps track; managed
-- names that were on the list, whatever a crash might leave of that, are so still. At each moment the
-- possible states are at most those that were, and where the name is put also that the list is that of the
-- managed names and this one. Each file stands as it stood, but for the list where the name is put.
pub record ListsName {D W C : Type 0} (g : Ghosts D W C) (old new : D × ManagedNames)
    (name : List ℕ) : Type 0 where
  pub tracks : IsTracked g old → KeepsTrack g old new
  pub listed : AreListed g old → AreListed g new
  pub moments :
      Throughout (Gains (IsNewList old.1 name) (possible_now (g.disk old.0))) (g.disk old.0) (g.disk new.0)
  pub now : OnlyMoves (IsToList old.1 name) (g.disk old.0) (g.disk new.0)

-- The list is given this text: at each moment it may have it, or be as it was, and at Ok it has it. Where
-- memory was wanted, no state is possible that wasn't.
pub record SavesText {A : Type 0} (old new : Disk) (text : List ℕ) (result : Result A IoError) : Type 0 where
  pub moments : Throughout (λ possible. MayAdd (possible_now old) possible list_name (Sealed text)) old new
  pub others : KeepsOtherStates old new list_name
  pub ok : OnOk result ((l : DiskState) → possible_now new list_name l → l ≡ Sealed text)
  pub memory : IfErr result (IoCause (Unit {0}) (Within (possible_now old) (possible_now new)))

-- The list of the managed names was saved so, and its text is a list of them.
pub record SavesManaged {A D W C : Type 0} (g : Ghosts D W C) (old new : D × ManagedNames)
    (result : Result A IoError) : Type 0 where
  pub saves : SavesText (g.disk old.0) (g.disk new.0) (list_text old.1.managed) result
  pub listed : IsListOf (list_text old.1.managed) old.1.managed

-- At each moment any of these names may be absent besides, and no other name is touched.
pub record LosesNames (names : List (List ℕ)) (old new : Disk) : Type 0 where
  pub moments : Throughout (Gains (IsLost names) (possible_now old)) old new
  pub now : OnlyMoves (λ n. has names n ≡ true) old new

-- Some first ones of the names of a collection were tried, which was begun where the managed names and the
-- other collections were these. Where track was kept it is so still, and at each moment those names that
-- are done may be absent besides, and no other name is touched.
pub record TriesSafely {D W C : Type 0} (g : Ghosts D W C) (before : ManagedNames) (taken : List (List ℕ))
    (old new : D × ManagedNames) : Type 0 where
  pub some : TriesSome g before taken old new
  pub safe : g.tells_images → LeavesSafely g (LosesNames some.deleted (g.disk old.0) (g.disk new.0)) old new

-- A name is tried: it may be absent besides, and is where it is told as gone; what is absent stays so. Where
-- it is told as still there, or memory was wanted, nothing changed.
pub record TriesState {E : Type 0} (old new : Disk) (name : List ℕ) (result : Result Bool E) : Type 0 where
  pub gone : IfOk result (λ is_gone. is_gone ≡ true → new.now name ≡ Absent)
  pub refused : IfOk result (λ is_gone. is_gone ≡ false → KeepsDisk old new)
  pub err : OnErr result (KeepsDisk old new)
  pub stays : (n : List ℕ) → old.now n ≡ Absent → new.now n ≡ Absent
  pub others : KeepsOtherStates old new name
  pub no_more : MayAdd (possible_now old) (possible_now new) name Absent
  pub time : Elapses old new

-- each managed name that isn't left is done by an unfinished collection
abbrev pub LacksDone : (left : List (List ℕ)) → ManagedNames → Type 0
LacksDone left names =
    (n : List ℕ) → has names.managed n ≡ true → has left n ≡ false
    → has (done_names names.collections) n ≡ true

-- The list is cut to the names that are left: the device has kept that the others are absent before the list
-- lacks them.
abbrev pub CutsList : {A E D W C : Type 0} → Ghosts D W C → (left : List (List ℕ))
    → (old new : D × ManagedNames)
    → Result A E → Type 0
CutsList g left old new result =
    LacksDone left old.1 → ShortensSafely g (ShortensStates g left old new) old new result
