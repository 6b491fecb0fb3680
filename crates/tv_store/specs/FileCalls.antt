-- What the calls on the files of a store do.
use Rattle.std.specs.Prelude.{ℕ, ◌≡◌, ◌⊎◌, ◌&&◌, ◌||◌, ◌++◌, Bool, not, is_some, true, false, List, [], length, cond, Option, Some, None, IsSome, Result, Ok, Err, IfErr, OnOk, OnErr, option_and_then}
use Rattle.std.specs.BTreeMap.{insert_entry}
use Rattle.std.specs.BTreeSet.{insert_key}
use Rattle.tv_base.specs.declared.error.TantivyError.{TantivyError}
use Rattle.tv_base.specs.declared.error.TantivyError.TheVariants as errors
use Rattle.tv_base.specs.declared.open_errors.OpenWriteError.{OpenWriteError}
use Rattle.tv_base.specs.declared.open_errors.OpenWriteError.TheVariants as write
use Rattle.tv_device.specs.View.{View, Told}
use Rattle.tv_device.specs.declared.directory.Directory.{Ghosts}
use Rattle.tv_managed.specs.Collecting.{FailsAtMost, TakesNoLock, meta_lock_name}
use Rattle.tv_managed.specs.Crashes.{LeavesSafely}
use Rattle.tv_managed.specs.Managed.{MakesFile}
use Rattle.tv_formats.specs.Collections.{collectable, done_of, failed_of, held, without}
use Rattle.tv_formats.specs.Files.{Rose, Same}
use Rattle.tv_formats.specs.Framing.{is_intact}
use Rattle.tv_formats.specs.Listing.{IsListFile, Listing}
use Rattle.tv_formats.specs.Names.{byte_cmp, has, meta_name, at}
use Rattle.tv_store.specs.Bodies.{RefusesAt}
use Rattle.tv_store.specs.Kept.{FilesState, names_below}
use Rattle.tv_store.specs.ReadCauses.{ApplyCause, reading_facts}
use Rattle.tv_index.specs.Crashes.{SavesStates, giving}
use Rattle.tv_index.specs.Saving.{FrameNotes}
use Rattle.tv_store.specs.StoreCauses.{IsBusy, LockingCause, MakesNoFile}

-- Whether a file is there, isn't open and wasn't left, by what its name reads, what was written to it where
-- it is open, and whether it was left.
pub record Asked (read written : Option (List ℕ)) (left found : Bool) : Type 0 where
  pub yes : found ≡ true → IsSome read × (written ≡ None) × (left ≡ false)
  pub no : found ≡ false → (read ≡ None) ⊎ IsSome written ⊎ (left ≡ true)

-- Whether the checksum of a file is that of its body, by what its name reads, what was written to it where it
-- is open, and whether it was left; nothing where it isn't sealed or has no footer.
abbrev pub intact_in : (read written : Option (List ℕ)) → (left : Bool) → Option Bool
intact_in read (Some body) left = None
intact_in read None true = None
intact_in read None false = option_and_then is_intact read

-- what an attempt to make a file gives: its writer, or nothing where its name is taken
abbrev pub unless_taken : {W : Type 0} → Result W OpenWriteError → Result (Option W) TantivyError
unless_taken (Ok writer) = Ok (Some writer)
unless_taken (Err (write.FileAlreadyExists path)) = Ok None
unless_taken (Err (write.Leaving path)) = Ok None
unless_taken (Err (write.IoError fault path)) = Err (errors.OpenWriteError (write.IoError fault path))
unless_taken (Err write.Memory) = Err errors.Memory

-- An empty file was made that wasn't there; it is on the list, and open.
pub record OpensFile {O W C : Type 0} (g : Ghosts O W C) (old new : FilesState O)
    (name : List ℕ) : Type 0 where
  pub names : new.managed ≡ insert_key byte_cmp old.managed name
  pub open_files : new.open_files ≡ insert_entry byte_cmp old.open_files name []
  pub left : new.left ≡ old.left
  pub makes : g.told.content → MakesFile (g.view old.outside).reads (g.view new.outside).reads name
  pub list : g.told.content → Listing (g.view old.outside).reads old.managed
      → Listing (g.view new.outside).reads new.managed

-- The file was there, or an unfinished collection holds its name, and nothing changed.
pub record FindsFile {O W C : Type 0} (g : Ghosts O W C) (old new : FilesState O)
    (name : List ℕ) : Type 0 where
  pub open_files : new.open_files ≡ old.open_files
  pub left : new.left ≡ old.left
  pub there : g.told.content
      → IsSome ((g.view old.outside).reads name) ⊎ (has (held old.collections) name ≡ true)
  pub same : g.told.content → Same (g.view old.outside).reads (g.view new.outside).reads
  pub names : g.told.content → new.managed ≡ old.managed

-- A file isn't read where the device refused that, where memory was wanted, where its bytes are refused, or
-- where it isn't there.
pub record ReadBodyFaults {A O W C : Type 0} (g : Ghosts O W C) (old new : O) (name : List ℕ)
    (result : Result A TantivyError) : Type 0 where
  pub quiet : OnOk result ((g.view new).faults ≡ (g.view old).faults)
  pub cause : IfErr result (ApplyCause (reading_facts (Rose (g.view old).faults (g.view new).faults)
      ((g.view new).faults ≡ (g.view old).faults)
      (λ error. g.told.content → RefusesAt (g.view old).reads name error)
      (λ path. (path ≡ name) × (g.told.content → (g.view old).reads path ≡ None))))
  pub file : IfErr result MakesNoFile
  pub lock : IfErr result TakesNoLock

-- What trying these names gave: each is told as done or as failed, in their order.
pub record TriesNames {O W C : Type 0} (g : Ghosts O W C) (names : List (List ℕ))
    (old new : FilesState O) (deleted failed : List (List ℕ)) : Type 0 where
  pub outcomes : List Bool
  pub each : length outcomes ≡ length names
  pub deleted_is : deleted ≡ done_of names outcomes
  pub failed_is : failed ≡ failed_of names outcomes
  -- the managed names are those that were, without the deleted ones
  pub managed : new.managed ≡ without deleted old.managed
  -- a deleted name doesn't read
  pub gone : g.told.content → (n : List ℕ) → has deleted n ≡ true
      → (g.view new.outside).reads n ≡ None
  -- every other name but those of the list reads what it read
  pub others : g.told.content → (n : List ℕ) → has deleted n ≡ false → (IsListFile n → ⊥)
      → (g.view new.outside).reads n ≡ (g.view old.outside).reads n

-- The managed files were tried that aren't among these, and that no unfinished collection holds. Those that
-- were deleted are neither open nor left any more, no more deletes failed than were refused, and the
-- unfinished collections are those that were. Where none was deleted, each name reads what it read, the
-- list's too.
pub record Collects {O W C : Type 0} (g : Ghosts O W C) (living : List (List ℕ)) (old new : FilesState O)
    (deleted failed : List (List ℕ)) : Type 0 where
  pub tried :
      TriesNames g (collectable (living ++ held old.collections) old.managed) old new deleted failed
  pub counted : FailsAtMost (length failed) (g.view old.outside).refusals (g.view new.outside).refusals
  pub open_files : (n : List ℕ) → at new.open_files n ≡ cond (has deleted n) None (at old.open_files n)
  pub left : (n : List ℕ) → has new.left n ≡ (not (has deleted n) && has old.left n)
  pub collections : new.collections ≡ old.collections
  pub same : g.told.content → deleted ≡ []
      → Same (g.view old.outside).reads (g.view new.outside).reads

-- A collection fails where the meta lock isn't given, where its number is spent, where the device refused a
-- call other than a delete, or where memory was wanted. Else the lock was free, and its number isn't spent.
pub record GcFaults {A O W C : Type 0} (g : Ghosts O W C) (spent : Type 0) (old new : O)
    (result : Result A TantivyError) : Type 0 where
  pub quiet : OnOk result ((g.view new).faults ≡ (g.view old).faults)
  pub free : g.told.locks → OnOk result ((g.view old).locks meta_lock_name ≡ false)
  pub fits : OnOk result (spent → ⊥)
  pub cause : IfErr result (LockingCause (IsBusy g.told.locks ((g.view old).locks meta_lock_name ≡ true)
      (Rose (g.view old).faults (g.view new).faults)) (Rose (g.view old).faults (g.view new).faults)
      ((g.view new).faults ≡ (g.view old).faults) spent)

-- After an error `meta.json` has this text, or what it had; after want of memory what it had.
pub record LeavesText {A O W C : Type 0} (g : Ghosts O W C) (old new : O) (text : List ℕ)
    (result : Result A TantivyError) : Type 0 where
  pub either : g.told.content → OnErr result
      (((g.view new).reads meta_name ≡ Some text)
      ⊎ ((g.view new).reads meta_name ≡ (g.view old).reads meta_name))
  pub memory : g.told.content → IfErr result
      (λ error. error ≡ errors.Memory → (g.view new).reads meta_name ≡ (g.view old).reads meta_name)

-- What a crash may leave of a save: at each moment what it might leave before, or each name as it stood, but
-- that `meta.json` may have the new text; at Ok that text alone. Track is kept of the files.
abbrev pub SavesSafely : {A O W C : Type 0} → Ghosts O W C → (old new : FilesState O) → (text : List ℕ)
    → Result A TantivyError → Type 0
SavesSafely g old new text result =
    LeavesSafely g
    (SavesStates (g.disk old.outside) (g.disk new.outside)
    (names_below old).1 (giving meta_name text) errors.Memory result)
    (names_below old) (names_below new)

-- The settings and the schema stay, whether the meta lock is kept for a reload, and the unfinished
-- collections; no file was opened, written, closed or left, and no lock was taken or freed; a notice of a
-- commit may stand.
pub record KeepsOpenFiles {O W : Type 0} (told : Told) (view : O → View W)
    (old new : FilesState O) : Type 0 where
  pub form : new.form ≡ old.form
  pub locked : new.locked ≡ old.locked
  pub collections : new.collections ≡ old.collections
  pub open_files : new.open_files ≡ old.open_files
  pub left : new.left ≡ old.left
  pub below : FrameNotes told (view old.outside) (view new.outside)

-- The open ones of these files are left, beside those that were, and no other file is.
pub record LeavesFiles {O : Type 0} (names : List (List ℕ)) (old new : FilesState O) : Type 0 where
  pub open_files : (n : List ℕ) → at new.open_files n ≡ cond (has names n) None (at old.open_files n)
  pub left : (n : List ℕ)
      → has new.left n ≡ (has old.left n || (has names n && is_some (at old.open_files n)))
