-- Files that are written to another directory.
use Rattle.std.specs.Prelude.{◌≡◌, ◌∷◌, ◌++◌, ℕ, List, None, Some, IsSome, Result, IfErr, OnOk, map, string_bytes}
use Rattle.tv_base.specs.Causes.{IsDevice}
use Rattle.tv_base.specs.declared.error.TantivyError.{TantivyError}
use Rattle.tv_base.specs.declared.error.TantivyError.TheVariants as error
use Rattle.tv_base.specs.declared.open_errors.OpenWriteError.{OpenWriteError}
use Rattle.tv_base.specs.declared.open_errors.OpenWriteError.TheVariants as write
use Rattle.tv_formats.specs.Names.{at}
use Rattle.tv_formats.specs.Files.{Reads, Same, Sets, KeepsOthers, Rose}
use Rattle.tv_device.specs.StoredFiles.{bytes_of}
use Rattle.tv_device.specs.View.{View, Told}
use Rattle.tv_device.specs.declared.files.StoredFile.{StoredFile}

-- names in their order, with what they read
abbrev pub contents : List (List ℕ × StoredFile) → List (List ℕ × List ℕ)
contents files = map (λ file. (file.0, bytes_of file.1.content)) files

-- one of these files has this name
abbrev pub IsAmong : List (List ℕ × List ℕ) → List ℕ → Type 0
IsAmong files n = IsSome (at files n)

-- none of these files was there, each is there now, and every other name reads what it read
pub record Persists (files : List (List ℕ × List ℕ)) (old new : Reads) : Type 0 where
  pub absent : (n : List ℕ) → IsSome (at files n) → old n ≡ None
  pub written : (n bytes : List ℕ) → at files n ≡ Some bytes → new n ≡ Some bytes
  pub others : (n : List ℕ) → at files n ≡ None → new n ≡ old n

-- the name was there already
pub record WasThere (new tried : Reads) (name : List ℕ) : Type 0 where
  pub there : IsSome (tried name)
  pub same : Same tried new

-- the name may read anything
abbrev pub MayReadAnything : Reads → Reads → List ℕ → Type 0
MayReadAnything new tried name = KeepsOthers tried new name

-- What is true of each answer for a file of this name, which the errors name: `there` where it is there
-- already, `refused` where the device refused a call, `quiet` where memory was wanted.
abbrev pub of_open_write : (name : List ℕ) (there refused : Type 0) → OpenWriteError → Type 0
of_open_write name there refused (write.FileAlreadyExists path) = (string_bytes path ≡ name) × there
of_open_write name there refused (write.IoError fault path) =
    (string_bytes path ≡ name) × IsDevice fault × refused
of_open_write name there refused (write.Leaving path) = ⊥
of_open_write name there refused write.Memory = ⊥

-- Why a file isn't persisted: the destination has its name, or it refused a call, or memory was wanted.
abbrev pub PersistCause : (name : List ℕ) (there refused quiet : Type 0) → TantivyError → Type 0
PersistCause name there refused quiet (error.OpenWriteError e) = of_open_write name there refused e
PersistCause name there refused quiet (error.IoError fault) = IsDevice fault × refused
PersistCause name there refused quiet error.Memory = quiet
PersistCause name there refused quiet e = ⊥

-- the file that couldn't be written, of which is said what was read before it was tried
pub record Refuses {W : Type 0} (told : Told) (old new : View W) (tried : Reads) (name : List ℕ)
    (error : TantivyError) : Type 0 where
  pub cause :
      PersistCause name (new.faults ≡ old.faults) (Rose old.faults new.faults) (new.faults ≡ old.faults) error
  pub left : told.content → PersistCause name (WasThere new.reads tried name)
      (MayReadAnything new.reads tried name) (MayReadAnything new.reads tried name) error

-- one file is written: its name wasn't there
pub record PersistsFile {A W : Type 0} (told : Told) (old new : View W) (name bytes : List ℕ)
    (result : Result A TantivyError) : Type 0 where
  pub absent : told.content → OnOk result (old.reads name ≡ None)
  pub ok : told.content → OnOk result (Sets old.reads new.reads name (Some bytes))

-- why one file isn't written to the destination
pub record FileFaults {A W : Type 0} (told : Told) (old new : View W) (name : List ℕ)
    (result : Result A TantivyError) : Type 0 where
  pub quiet : OnOk result (new.faults ≡ old.faults)
  pub cause : IfErr result (Refuses told old new old.reads name)

-- those before one of the files are written, and it stopped there
pub record StopsAt {W : Type 0} (told : Told) (old new : View W) (files : List (List ℕ × List ℕ))
    (error : TantivyError) : Type 0 where
  pub before : List (List ℕ × List ℕ)
  pub name : List ℕ
  pub bytes : List ℕ
  pub rest : List (List ℕ × List ℕ)
  pub split : files ≡ before ++ (name, bytes) ∷ rest
  pub tried : Reads
  pub persisted : told.content → Persists before old.reads tried
  pub refused : Refuses told old new tried name error

-- At Ok the count of faults stands still. At an error it stopped at one of the files.
pub record PersistFaults {A W : Type 0} (told : Told) (old new : View W) (files : List (List ℕ × List ℕ))
    (result : Result A TantivyError) : Type 0 where
  pub quiet : OnOk result (new.faults ≡ old.faults)
  pub cause : IfErr result (StopsAt told old new files)
