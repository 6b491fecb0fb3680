-- What the calls of a managed directory do to what it reads.
use Rattle.std.specs.Prelude.{◌≡◌, ◌≢◌, ◌⊎◌, ℕ, Bool, true, false, List, [], Option, Some, None, IsSome, if◌then◌else◌, string_bytes, Result, IfErr, OnOk, OnErr}
use Rattle.std.specs.BTreeSet.{insert_key}
use Rattle.tv_formats.specs.Names.{byte_cmp, has, is_undotted, list_name}
use Rattle.tv_formats.specs.Collections.{held}
use Rattle.tv_formats.specs.Listing.{IsListed, IsListFile, Listing, Lists, list_text}
use Rattle.tv_formats.specs.Files.{Reads, Same, Sets, MaySet, KeepsOthers, Rose}
use Rattle.tv_formats.specs.Footer.{sealed}
use Rattle.tv_base.specs.Causes.{IoCause, IsDevice}
use Rattle.tv_base.specs.declared.io.IoError.{IoError}
use Rattle.tv_base.specs.declared.open_errors.OpenWriteError.{OpenWriteError}
use Rattle.tv_base.specs.declared.open_errors.OpenWriteError.TheVariants as write
use Rattle.tv_device.specs.Calls.{IoFaults}
use Rattle.tv_device.specs.View.{Kept, OnlyReads}
use Rattle.tv_device.specs.declared.directory.Directory.{Ghosts}
use Rattle.tv_managed.specs.Frames.{KeepsNames}
use Rattle.tv_managed.specs.Names.{ManagedNames, done_names}
use Rattle.tv_managed.specs.Reading.{ReadsBody}
use Rattle.tv_managed.specs.Writers.{IsSummed}
use Rattle.tv_managed.specs.declared.writer.ManagedWriter.{ManagedWriter}

-- the managed names after a name was registered; a dotted one isn't managed
abbrev pub registered : List (List ℕ) → List ℕ → List (List ℕ)
registered names name = if is_undotted name then insert_key byte_cmp names name else names

-- what is kept in memory after a name was registered; a dotted one isn't managed
abbrev pub registering : ManagedNames → List ℕ → ManagedNames
registering names name = record names { managed = registered names.managed name }

-- what the list on the device stands for has each managed name that no unfinished collection has done
abbrev pub Covers : Option (List ℕ) → ManagedNames → Type 0
Covers read names =
    (listed : List (List ℕ)) × Lists read listed
    × ((n : List ℕ) → has names.managed n ≡ true
    → has (done_names names.collections) n ≡ false → has listed n ≡ true)

-- names other than this one and the list's read what they read
abbrev pub KeepsOtherFiles : Reads → Reads → List ℕ → Type 0
KeepsOtherFiles old new name = (n : List ℕ) → n ≢ name → (IsListFile n → ⊥) → new n ≡ old n

-- a file was made that wasn't there, and no other file was changed
pub record MakesFile (old new : Reads) (name : List ℕ) : Type 0 where
  pub absent : old name ≡ None
  pub empty : new name ≡ Some []
  pub others : KeepsOtherFiles old new name

-- each undotted name that reads now and didn't before is on the list that reads
abbrev pub ListsNew : Reads → Reads → Type 0
ListsNew old new = (n : List ℕ) → is_undotted n ≡ true → IsSome (new n) → old n ≡ None → IsListed new n

-- each undotted name that reads now and didn't before is one of these names
abbrev pub ManagesNew : Reads → Reads → List (List ℕ) → Type 0
ManagesNew old new names =
    (n : List ℕ) → is_undotted n ≡ true → IsSome (new n) → old n ≡ None → has names n ≡ true

-- The list of these names was saved. Where the device refused a call, it was saved, or it reads as before;
-- where memory was wanted, it reads as before. Nothing else was changed.
pub record SavesNames {A D W C : Type 0} (g : Ghosts D W C) (old new : D) (names : List (List ℕ))
    (result : Result A IoError) : Type 0 where
  pub ok : g.told.content
      → OnOk result (Sets (g.view old).reads (g.view new).reads list_name (Some (list_text names)))
  pub err : g.told.content → MaySet (g.view old).reads (g.view new).reads list_name (Some (list_text names))
  pub memory : g.told.content
      → IfErr result (IoCause (Unit {0}) ((g.view new).reads list_name ≡ (g.view old).reads list_name))
  pub faults : IoFaults (g.view old) (g.view new) result
  pub frame : Kept g.told (g.view old) (g.view new)

-- What a step that saves the list may change, whatever it answers: the list, which then has the managed
-- names. These stay. It fails where the device refused a call, or where memory was wanted.
pub record OnlySaves {A D W C : Type 0} (g : Ghosts D W C) (old new : D × ManagedNames)
    (result : Result A IoError) : Type 0 where
  pub either : g.told.content → Listing (g.view new.0).reads new.1.managed
      ⊎ ((g.view new.0).reads list_name ≡ (g.view old.0).reads list_name)
  pub others : g.told.content → KeepsOthers (g.view old.0).reads (g.view new.0).reads list_name
  pub faults : IoFaults (g.view old.0) (g.view new.0) result
  pub frame : KeepsNames (Kept g.told) g.view old new

-- the name has a dot in front, or is managed
abbrev pub NeedsNoListing : ManagedNames → List ℕ → Type 0
NeedsNoListing names name = is_undotted name ≡ true → has names.managed name ≡ true

-- The list on the device goes on having each managed name that no unfinished collection has done. Where it
-- listed the managed names, it does so at Ok.
pub record SavesList {A E D W C : Type 0} (g : Ghosts D W C) (old new : D × ManagedNames)
    (result : Result A E) : Type 0 where
  pub list : g.told.content → Listing (g.view old.0).reads old.1.managed
      → OnOk result (Listing (g.view new.0).reads new.1.managed)
  pub covers : g.told.content → Covers ((g.view old.0).reads list_name) old.1
      → Covers ((g.view new.0).reads list_name) new.1

-- where the name has a dot in front, or was managed, the list reads what it read
abbrev pub SavesNew : {D W C : Type 0} → Ghosts D W C → (old new : D × ManagedNames)
    → (name : List ℕ) → Type 0
SavesNew g old new name =
    g.told.content → NeedsNoListing old.1 name
    → (g.view new.0).reads list_name ≡ (g.view old.0).reads list_name

-- A step that lists a name: at Ok the name is managed, and, unless an unfinished collection has done it, on
-- the list, if it has no dot in front; after an error all names are as they were. Nothing but the list and
-- these names was changed.
pub record HasListed {A E D W C : Type 0} (g : Ghosts D W C) (old new : D × ManagedNames) (name : List ℕ)
    (result : Result A E) : Type 0 where
  pub saves : SavesList g old new result
  pub on_list : g.told.content → Covers ((g.view old.0).reads list_name) old.1
      → has (done_names old.1.collections) name ≡ false → is_undotted name ≡ true
      → OnOk result (IsListed (g.view new.0).reads name)
  pub names : OnOk result (new.1 ≡ registering old.1 name)
  pub kept : OnErr result (new.1 ≡ old.1)
  pub unsaved : SavesNew g old new name
  pub others : g.told.content → KeepsOthers (g.view old.0).reads (g.view new.0).reads list_name
  pub frame : Kept g.told (g.view old.0) (g.view new.0)

-- What a call that makes a file of this name, or gives it its bytes, does to the names and to the list. A
-- name without a dot in front is managed afterwards; after an error the managed names are as they were, or
-- there is this one more; the collections stay. The list has each undotted file that is made, and so have the
-- managed names. Where the name has a dot in front, or was managed, the list reads what it read.
pub record ManagesFile {A E D W C : Type 0} (g : Ghosts D W C) (old new : D × ManagedNames) (name : List ℕ)
    (result : Result A E) : Type 0 where
  pub ok : OnOk result (new.1 ≡ registering old.1 name)
  pub err : OnErr result ((new.1 ≡ old.1) ⊎ (new.1 ≡ registering old.1 name))
  pub saves : SavesList g old new result
  pub unsaved : SavesNew g old new name
  pub listed : g.told.content → Covers ((g.view old.0).reads list_name) old.1
      → ListsNew (g.view old.0).reads (g.view new.0).reads
  pub managed : g.told.content → ManagesNew (g.view old.0).reads (g.view new.0).reads new.1.managed

-- Why no file of this name is made: `there` where there is one, `held` where an unfinished collection has the
-- name, `refused` where the device refused a call, `quiet` where memory was wanted; the error names the file.
abbrev pub CreateCause : (name : List ℕ) (there held refused quiet : Type 0) → OpenWriteError → Type 0
CreateCause name there held refused quiet (write.FileAlreadyExists path) = (string_bytes path ≡ name) × there
CreateCause name there held refused quiet (write.Leaving path) = (string_bytes path ≡ name) × held
CreateCause name there held refused quiet (write.IoError fault path) =
    (string_bytes path ≡ name) × IsDevice fault × refused
CreateCause name there held refused quiet write.Memory = quiet

-- whether the error says that the name is taken: by a file, or by an unfinished collection
abbrev pub is_taken : OpenWriteError → Bool
is_taken (write.FileAlreadyExists path) = true
is_taken (write.Leaving path) = true
is_taken other = false

-- A file isn't made where it is there; where it isn't, and an unfinished collection has the name; where the
-- device refused a call; or where memory was wanted. At Ok no unfinished collection has the name.
pub record CreateFaults {A D W C : Type 0} (g : Ghosts D W C) (old new : D × ManagedNames) (name : List ℕ)
    (result : Result A OpenWriteError) : Type 0 where
  pub quiet : OnOk result ((g.view new.0).faults ≡ (g.view old.0).faults)
  pub free : OnOk result (has (held old.1.collections) name ≡ false)
  pub cause : IfErr result (CreateCause name
      ((g.told.content → IsSome ((g.view old.0).reads name))
      × ((g.view new.0).faults ≡ (g.view old.0).faults))
      ((has (held old.1.collections) name ≡ true) × (g.told.content → (g.view old.0).reads name ≡ None)
      × ((g.view new.0).faults ≡ (g.view old.0).faults))
      (Rose (g.view old.0).faults (g.view new.0).faults)
      ((g.view new.0).faults ≡ (g.view old.0).faults))

-- An empty file is made, where there was none. Where the file was there, or an unfinished collection has the
-- name, nothing changed. After a refusal of the device the name reads what it read or an empty file, after
-- another error what it read. No other file but the list was changed.
pub record Creates {A D W C : Type 0} (g : Ghosts D W C) (old new : D × ManagedNames) (name : List ℕ)
    (result : Result A OpenWriteError) : Type 0 where
  pub ok : g.told.content → OnOk result (MakesFile (g.view old.0).reads (g.view new.0).reads name)
  pub there : g.told.content → IsSome ((g.view old.0).reads name)
      → Same (g.view old.0).reads (g.view new.0).reads × (new.1 ≡ old.1)
  pub held : has (held old.1.collections) name ≡ true → KeepsNames (OnlyReads g.told) g.view old new
  pub err : g.told.content → IfErr result
      (CreateCause name (Unit {0}) (Unit {0})
      (((g.view new.0).reads name ≡ Some []) ⊎ ((g.view new.0).reads name ≡ (g.view old.0).reads name))
      ((g.view new.0).reads name ≡ (g.view old.0).reads name))
  pub others : g.told.content → KeepsOtherFiles (g.view old.0).reads (g.view new.0).reads name

-- The name is given these bytes. Where the device refused a call, it may have been; where memory was wanted,
-- the name reads what it read. No other file but the list was changed.
pub record GivesFile {A D W C : Type 0} (g : Ghosts D W C) (old new : D) (name bytes : List ℕ)
    (result : Result A IoError) : Type 0 where
  pub ok : g.told.content → OnOk result ((g.view new).reads name ≡ Some bytes)
  pub err : g.told.content → IfErr result
      (IoCause (((g.view new).reads name ≡ Some bytes) ⊎ ((g.view new).reads name ≡ (g.view old).reads name))
      ((g.view new).reads name ≡ (g.view old).reads name))
  pub others : g.told.content → KeepsOtherFiles (g.view old).reads (g.view new).reads name

-- The writer's file is sealed: where the writer's checksum is that of what was written, it reads this, with a
-- footer, and so its body is read back. After an error the file is still there. Where its name was deleted
-- since, nothing changed. No other file was changed.
pub record SealsBody {A D W C : Type 0} (g : Ghosts D W C) (old new : D) (w : ManagedWriter D W C)
    (result : Result A IoError) : Type 0 where
  pub ok : g.told.content → (g.view old).lives w.writer ≡ true → IsSummed g.state_of w
      → OnOk result (Sets (g.view old).reads (g.view new).reads (g.state_of w.writer).name
      (Some (sealed (g.state_of w.writer).written)))
  pub body : g.told.content → (g.view old).lives w.writer ≡ true → IsSummed g.state_of w
      → OnOk result (ReadsBody ((g.view new).reads (g.state_of w.writer).name) (g.state_of w.writer).written)
  pub others : g.told.content → KeepsOthers (g.view old).reads (g.view new).reads (g.state_of w.writer).name
  pub there : g.told.content → (g.view old).lives w.writer ≡ true
      → IsSome ((g.view old).reads (g.state_of w.writer).name)
      → IsSome ((g.view new).reads (g.state_of w.writer).name)
  pub gone : g.told.content → (g.view old).lives w.writer ≡ false → Same (g.view old).reads (g.view new).reads
