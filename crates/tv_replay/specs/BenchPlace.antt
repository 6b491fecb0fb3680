-- A place in memory.
use Rattle.std.specs.Prelude.{ℕ, ◌≡◌, Bool, true, false, if◌then◌else◌, List, [], Option, Some, None, IsSome, string_bytes}
use Rattle.tv_base.specs.Causes.{IoCause}
use Rattle.tv_base.specs.Texts.{counted}
use Rattle.tv_base.specs.declared.io.IoError.{IoError}
use Rattle.tv_base.specs.declared.open_errors.OpenDirectoryError.{OpenDirectoryError}
use Rattle.tv_base.specs.declared.open_errors.OpenDirectoryError.TheVariants as directory
use Rattle.tv_formats.specs.Names.{is}

-- the schemas and the scripts under their paths, the one folder that is there, or None where every folder is,
-- the directory while it isn't lent, the folder for which it is, what was said and how much can be, and how
-- many calls were refused
pub record PlaceState (B : Type 0) : Type 0 where
  pub schemas : List (List ℕ × List ℕ)
  pub scripts : List (List ℕ × List ℕ)
  pub folder : Option (List ℕ)
  pub bench : Option B
  pub lent : Option (List ℕ)
  pub said : List ℕ
  pub room : ℕ
  pub faults : ℕ

-- a new place: every folder is there, nothing is lent, nothing was said, and no call was refused
abbrev pub new_place : {B : Type 0} (schemas scripts : List (List ℕ × List ℕ)) (bench : B) (room : ℕ)
    → PlaceState B
new_place schemas scripts bench room =
    record {
      schemas = schemas;
      scripts = scripts;
      folder = None;
      bench = Some bench;
      lent = None;
      said = [];
      room = room;
      faults = 0;
    }

-- whether a folder of this path is there
abbrev pub is_there : Option (List ℕ) → List ℕ → Bool
is_there None path = true
is_there (Some folder) path = is folder path

-- what the folder of a path holds: the directory, where that folder is there and the directory isn't lent
abbrev pub kept_in : {B : Type 0} → PlaceState B → List ℕ → Option B
kept_in place path = if is_there place.folder path then place.bench else None

-- after a refused call
abbrev pub bench_refused : {B : Type 0} → PlaceState B → PlaceState B
bench_refused place = record place { faults = counted place.faults }

-- why a schema or a script isn't given: there is none, and the call is refused; or memory was wanted for one
-- that is there, and nothing changed
abbrev pub TextCause : {B : Type 0} (there : Option (List ℕ)) (old new : PlaceState B) → IoError → Type 0
TextCause there old new = IoCause ((there ≡ None) × (new ≡ bench_refused old)) (IsSome there × (new ≡ old))

-- why a folder isn't lent: it isn't there, and the call is refused; or memory was wanted, and nothing changed
abbrev pub FolderCause : {B : Type 0} (path : List ℕ) (old new : PlaceState B) → OpenDirectoryError → Type 0
FolderCause path old new (directory.DoesNotExist text) =
    (string_bytes text ≡ path) × (is_there old.folder path ≡ false) × (new ≡ bench_refused old)
FolderCause path old new directory.Memory = new ≡ old
FolderCause path old new other = ⊥
