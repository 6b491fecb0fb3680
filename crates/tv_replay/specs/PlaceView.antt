-- What is said of a place, what its calls do and keep, and why they fail.
use Rattle.std.specs.Prelude.{ℕ, ◌≡◌, List, [], ◌∷◌, ◌++◌, Option, Some, None, Result, IfOk, IfErr, OnOk, OnErr}
use Rattle.tv_formats.specs.Files.{Rose}
use Rattle.tv_base.specs.Causes.{IsDevice, IoCause}
use Rattle.tv_base.specs.Streams.{SourceView}
use Rattle.tv_base.specs.declared.io.IoFault.{IoFault}
use Rattle.tv_base.specs.declared.io.IoError.{IoError}
use Rattle.tv_base.specs.declared.open_errors.OpenDirectoryError.{OpenDirectoryError}
use Rattle.tv_base.specs.declared.open_errors.OpenDirectoryError.TheVariants as directory

-- what a place tells: its schemas, scripts and folders, and what was said
pub record PlaceTold : Type 1 where
  pub content : Type 0
  pub said : Type 0

-- what is said of a place whose folders hold directories of a type O
pub record PlaceView (O : Type 0) : Type 0 where
  -- the schema of each path, where there is one
  pub schemas : List ℕ → Option (List ℕ)
  -- what the source of each path has left, where there is such a script
  pub scripts : List ℕ → Option (List ℕ)
  -- what each folder holds, while it isn't lent
  pub kept : List ℕ → Option O
  -- the folder whose directory is lent
  pub lent : Option (List ℕ)
  -- what was said so far
  pub said : List ℕ
  -- how many calls were refused
  pub faults : ℕ

-- What every call keeps: the schemas and the scripts.
pub record KeepsTexts {O : Type 0} (told : PlaceTold) (old new : PlaceView O) : Type 0 where
  pub schemas : told.content → (path : List ℕ) → new.schemas path ≡ old.schemas path
  pub scripts : told.content → (path : List ℕ) → new.scripts path ≡ old.scripts path

-- The schemas and the scripts stay, and nothing was said; a directory may have been lent or given back.
pub record OnlyLends {O : Type 0} (told : PlaceTold) (old new : PlaceView O) : Type 0 where
  pub texts : KeepsTexts told old new
  pub said : new.said ≡ old.said

-- What a call keeps that may say something: the schemas, the scripts, what each folder holds, and which one
-- is lent.
pub record KeepsFolders {O : Type 0} (told : PlaceTold) (old new : PlaceView O) : Type 0 where
  pub texts : KeepsTexts told old new
  pub folders : told.content → (folder : List ℕ) → new.kept folder ≡ old.kept folder
  pub lent : new.lent ≡ old.lent

-- The schemas, the scripts, what each folder holds and which one is lent stay, and nothing was said.
pub record PlaceKept {O : Type 0} (told : PlaceTold) (old new : PlaceView O) : Type 0 where
  pub folders : KeepsFolders told old new
  pub said : new.said ≡ old.said

-- A call fails where the place refused it, and the count rose; or where memory was wanted, and then, as at
-- Ok, the count stands still.
pub record PlaceFaults {A O : Type 0} (old new : PlaceView O) (result : Result A IoError) : Type 0 where
  pub quiet : OnOk result (new.faults ≡ old.faults)
  pub cause : IfErr result (IoCause (Rose old.faults new.faults) (new.faults ≡ old.faults))

-- why a folder isn't lent; one that isn't there counts as a fault
abbrev pub LendCause : (refused quiet : Type 0) → OpenDirectoryError → Type 0
LendCause refused quiet (directory.DoesNotExist path) = refused
LendCause refused quiet (directory.NotADirectory path) = refused
LendCause refused quiet (directory.FailedToCreateTempDir fault) = ⊥
LendCause refused quiet (directory.IoError fault path) = IsDevice fault × refused
LendCause refused quiet directory.Memory = quiet

-- A call that lends a folder fails for one of these causes; at Ok, and where memory was wanted, the count
-- stands still.
pub record LendFaults {A O : Type 0} (old new : PlaceView O)
    (result : Result A OpenDirectoryError) : Type 0 where
  pub quiet : OnOk result (new.faults ≡ old.faults)
  pub cause : IfErr result (LendCause (Rose old.faults new.faults) (new.faults ≡ old.faults))

-- The directory of the folder is lent; where it isn't, nothing is.
pub record Lends {O : Type 0} (told : PlaceTold) (old new : PlaceView O) (folder : List ℕ)
    (result : Result O OpenDirectoryError) : Type 0 where
  pub given : told.content → IfOk result (λ outside. old.kept folder ≡ Some outside)
  pub lent : OnOk result (new.lent ≡ Some folder)
  pub free : OnErr result (new.lent ≡ None)
  pub folders : told.content → OnErr result ((f : List ℕ) → new.kept f ≡ old.kept f)

-- The folder that was lent holds this directory, and none is lent.
pub record TakesBack {O : Type 0} (told : PlaceTold) (old new : PlaceView O) (outside : O) : Type 0 where
  pub kept : told.content → (folder : List ℕ) → old.lent ≡ Some folder → new.kept folder ≡ Some outside
  pub free : new.lent ≡ None

-- The count of faults rose where a read of the script was refused; else it stands still.
pub record ScriptEnds {O : Type 0} (old new : PlaceView O) (script : SourceView) : Type 0 where
  pub quiet : script.faults ≡ 0 → new.faults ≡ old.faults
  pub cause : (script.faults ≡ 0 → ⊥) → Rose old.faults new.faults

-- what is said of a line that was refused: a first part of it, without its line feed
abbrev pub SaysPart : List ℕ → List ℕ → List ℕ → Type 0
SaysPart before now line = (part : List ℕ) × (rest : List ℕ) × (line ≡ part ++ rest) × (now ≡ before ++ part)

-- The line was said, with a line feed; where it was refused, a part of it may have been.
pub record Says {A O : Type 0} (told : PlaceTold) (old new : PlaceView O) (line : List ℕ)
    (result : Result A IoFault) : Type 0 where
  pub ok : told.said → OnOk result (new.said ≡ old.said ++ line ++ 10 ∷ [])
  pub err : told.said → OnErr result (SaysPart old.said new.said line)

-- A line isn't said only where the place refused it, and the count rose. A refusal that was counted before is
-- counted still.
pub record SayFaults {A O : Type 0} (old new : PlaceView O) (result : Result A IoFault) : Type 0 where
  pub quiet : OnOk result (new.faults ≡ old.faults)
  pub cause : IfErr result (λ fault. IsDevice fault × Rose old.faults new.faults)
  pub counted : (before : ℕ) → Rose before old.faults → Rose before new.faults
