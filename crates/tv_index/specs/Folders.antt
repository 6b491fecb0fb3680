-- Indexes in folders of plain files.
use Rattle.std.specs.Prelude.{◌≡◌, ◌⊎◌, ℕ, false, List, [], Option, Some, None, IsSome}
use Rattle.std.specs.Option.{IsSomeAnd}
use Rattle.tv_base.specs.Causes.{IsDevice}
use Rattle.tv_base.specs.Errors.{of_open_directory}
use Rattle.tv_base.specs.declared.error.TantivyError.{TantivyError}
use Rattle.tv_base.specs.declared.error.TantivyError.TheVariants as errors
use Rattle.tv_base.specs.declared.open_errors.OpenDirectoryError.{OpenDirectoryError}
use Rattle.tv_device.specs.View.{OnlyReads}
use Rattle.tv_device.specs.declared.directory.Directory.{Ghosts}
use Rattle.tv_files.specs.Folders.{OpenFolderCause}
use Rattle.tv_formats.specs.Files.{Rose}
use Rattle.tv_formats.specs.Names.{meta_name}
use Rattle.tv_index.specs.Building.{Builder, IsUnpassed}
use Rattle.tv_index.specs.Indexes.{CreatesIndex, IndexState, NotCreated, NotStanding, OpensStanding}
use Rattle.tv_index.specs.NewForms.{form_with}

-- the folder of this path isn't opened, for its cause
abbrev pub IsNoFolder : (path : List ℕ) → TantivyError → Type 0
IsNoFolder path error =
    (why : OpenDirectoryError) × OpenFolderCause path why × (error ≡ of_open_directory why)

-- a directory that was just opened: nobody watches it, no notice stands, and no call was refused
pub record IsJustOpened {D W C : Type 0} (g : Ghosts D W C) (directory : D) : Type 0 where
  pub watched : (g.view directory).watched ≡ record { registered = []; notice = false }
  pub faults : (g.view directory).faults ≡ 0
  pub refusals : (g.view directory).refusals ≡ 0

-- a directory that was just opened was refused so
abbrev pub IsRefused : {D W C : Type 0} → Ghosts D W C
    → (why : (before now : D) → TantivyError → Type 0) → TantivyError → Type 0
IsRefused {D} g why error = (before : D) × IsJustOpened g before × ((now : D) × why before now error)

-- Why there is no index in a folder: it isn't opened, or the directory that was opened in it was refused.
abbrev pub RefusedIn : {D W C : Type 0} → Ghosts D W C → (path : List ℕ)
    → (why : (before now : D) → TantivyError → Type 0) → TantivyError → Type 0
RefusedIn g path why error = IsNoFolder path error ⊎ IsRefused g why error

-- the index that stands in a directory that was just opened is open
abbrev pub IsOpenIn : {D W C : Type 0} → Ghosts D W C → IndexState D → Type 0
IsOpenIn {D} g index = (before : D) × IsJustOpened g before × OpensStanding g before index

-- the index in a folder isn't open, for the folder's cause or that of the directory
abbrev pub NotOpenIn : {D W C : Type 0} → Ghosts D W C → (path : List ℕ) → TantivyError → Type 0
NotOpenIn g path error = RefusedIn g path (NotStanding g) error

-- Why a directory is refused in which an index stands, which is `stands`; the device may refuse to say so,
-- and memory may be wanted.
abbrev pub StandsCause : (stands refused quiet : Type 0) → TantivyError → Type 0
StandsCause stands refused quiet errors.IndexAlreadyExists = stands
StandsCause stands refused quiet (errors.IoError fault) = IsDevice fault × refused
StandsCause stands refused quiet errors.Memory = quiet
StandsCause stands refused quiet other = ⊥

-- A directory is refused where `meta.json` reads, or where that isn't known. Nothing was changed.
pub record HasIndex {D W C : Type 0} (g : Ghosts D W C) (before now : D) (error : TantivyError) : Type 0 where
  pub cause : StandsCause ((g.told.content → IsSome ((g.view before).reads meta_name))
      × ((g.view now).faults ≡ (g.view before).faults)) (Rose (g.view before).faults (g.view now).faults)
      ((g.view now).faults ≡ (g.view before).faults) error
  pub frame : OnlyReads g.told (g.view before) (g.view now)

-- None stands there: `meta.json` doesn't read. Nothing was changed.
pub record HasNoIndex {D W C : Type 0} (g : Ghosts D W C) (before now : D) : Type 0 where
  pub absent : g.told.content → (g.view before).reads meta_name ≡ None
  pub quiet : (g.view now).faults ≡ (g.view before).faults
  pub frame : OnlyReads g.told (g.view before) (g.view now)

-- no schema was passed, and nothing was changed
pub record IsUnsaid {D W C : Type 0} (g : Ghosts D W C) (before now : D) (error : TantivyError) : Type 0 where
  pub cause : IsUnpassed error
  pub quiet : (g.view now).faults ≡ (g.view before).faults
  pub frame : OnlyReads g.told (g.view before) (g.view now)

-- an index isn't made of what a builder has: no schema was passed, or the directory refused it
abbrev pub UnmadeCause : {D W C : Type 0} → Ghosts D W C → Builder → (schema : Option (List ℕ))
    → (before now : D) → TantivyError → Type 0
UnmadeCause g builder None before now error = IsUnsaid g before now error
UnmadeCause g builder (Some schema) before now error =
    NotCreated g before (form_with builder.settings schema) now error

-- No index stands in the directory, and none is made of what a builder has.
pub record IsUnmade {D W C : Type 0} (g : Ghosts D W C) (builder : Builder) (before now : D)
    (error : TantivyError) : Type 0 where
  pub absent : g.told.content → (g.view before).reads meta_name ≡ None
  pub cause : UnmadeCause g builder builder.schema before now error

-- Why no index is made in a directory: one stands there, or that isn't known; or none does, and none is made.
abbrev pub NotMade : {D W C : Type 0} → Ghosts D W C → Builder → (before now : D) → TantivyError → Type 0
NotMade g builder before now error = HasIndex g before now error ⊎ IsUnmade g builder before now error

-- why no index is made in a folder: it wasn't opened; one stands there, or that isn't known; or none does,
-- and none is made
abbrev pub NotMadeIn : {D W C : Type 0} → Ghosts D W C → (path : List ℕ) → Builder → TantivyError → Type 0
NotMadeIn g path builder error = RefusedIn g path (NotMade g builder) error

-- A new index of what a builder has stands in a directory in which none stood.
pub record Makes {D W C : Type 0} (g : Ghosts D W C) (builder : Builder) (before : D)
    (index : IndexState D) : Type 0 where
  pub absent : g.told.content → (g.view before).reads meta_name ≡ None
  pub creates : IsSomeAnd builder.schema (λ schema. CreatesIndex g before builder.settings schema index)

-- a new index of what a builder has stands in a folder that was just opened, in which none stood
abbrev pub IsMadeOf : {D W C : Type 0} → Ghosts D W C → Builder → IndexState D → Type 0
IsMadeOf {D} g builder index = (before : D) × IsJustOpened g before × Makes g builder before index
