-- Which files of the last commit are damaged.
use Rattle.std.specs.Prelude.{◌≡◌, ◌⊎◌, ◌++◌, ◌∷◌, ℕ, Bool, true, false, List, filter, Some, None, Result, IfErr, OnOk}
use Rattle.std.specs.List.{flat_map}
use Rattle.tv_base.specs.declared.error.TantivyError.{TantivyError}
use Rattle.tv_base.specs.declared.error.TantivyError.TheVariants as errors
use Rattle.tv_base.specs.declared.open_errors.OpenReadError.{OpenReadError}
use Rattle.tv_device.specs.declared.directory.Directory.{Ghosts}
use Rattle.tv_managed.specs.Names.{ManagedNames}
use Rattle.tv_managed.specs.Reading.{NamesFile, OpenBodyCause, ReadsRefused, ReadsSuch, SomeRefused, TellsChecksum}
use Rattle.tv_formats.specs.Commits.{Commit, Settings}
use Rattle.tv_formats.specs.Files.{Reads, Rose}
use Rattle.tv_formats.specs.Segments.{segment_names}
use Rattle.tv_formats.specs.Meaning.{Means}
use Rattle.tv_formats.specs.Names.{has, meta_name}
use Rattle.tv_index.specs.Standing.{MetaCause}

-- the files that are looked at: the managed names among all that the segments of a commit have, in their
-- order
abbrev pub looked_at : Commit → (managed : List (List ℕ)) → List (List ℕ)
looked_at commit managed = filter (λ name. has (flat_map segment_names commit.segments) name) managed

-- the file ends in a footer, and this says whether the checksum in it is that of the body
abbrev pub TellsFile : Reads → Bool → List ℕ → Type 0
TellsFile reads is_right name = ReadsSuch (reads name) (λ bytes. TellsChecksum bytes is_right)

-- Each of these files ends in a footer, and these are the names of those whose checksum isn't that of their
-- body.
pub record AreDamaged (reads : Reads) (names damaged : List (List ℕ)) : Type 0 where
  pub named : (n : List ℕ) → has damaged n ≡ true → (has names n ≡ true) × TellsFile reads false n
  pub others : (n : List ℕ) → has names n ≡ true → has damaged n ≡ false → TellsFile reads true n

-- The first of these files isn't read that can't be: it isn't there, or its bytes end in no footer; or the
-- device refused the call.
pub record UnreadFile {D W C : Type 0} (g : Ghosts D W C) (old new : D) (names : List (List ℕ))
    (why : OpenReadError) : Type 0 where
  pub front : List (List ℕ)
  pub name : List ℕ
  pub rest : List (List ℕ)
  pub names_are : names ≡ front ++ name ∷ rest
  pub read : g.told.content → (n : List ℕ) → has front n ≡ true
      → (is_right : Bool) × TellsFile (g.view old).reads is_right n
  pub path : NamesFile name why
  pub cause : OpenBodyCause ((g.view new).faults ≡ (g.view old).faults)
      (λ fault. SomeRefused fault × ((g.view new).faults ≡ (g.view old).faults)) (λ other. ⊥)
      (Rose (g.view old).faults (g.view new).faults) ⊥ why
  pub err : g.told.content → OpenBodyCause ((g.view old).reads name ≡ None)
      (ReadsRefused ((g.view old).reads name)) (λ other. ⊥) (Unit {0}) ⊥ why

-- why not all of these files are read
abbrev pub UnreadCause : {D W C : Type 0} (g : Ghosts D W C) (old new : D) (names : List (List ℕ))
    → TantivyError → Type 0
UnreadCause g old new names (errors.OpenReadError why) = UnreadFile g old new names why
UnreadCause g old new names errors.Memory = (g.view new).faults ≡ (g.view old).faults
UnreadCause g old new names other = ⊥

-- a reading of some files fails where not all of them are read, and at Ok the device refused no call
pub record UnreadFaults {A D W C : Type 0} (g : Ghosts D W C) (old new : D) (names : List (List ℕ))
    (result : Result A TantivyError) : Type 0 where
  pub quiet : OnOk result ((g.view new).faults ≡ (g.view old).faults)
  pub cause : IfErr result (UnreadCause g old new names)

-- A file of the commit that `meta.json` means isn't read.
pub record UnreadCommit {D W C : Type 0} (g : Ghosts D W C) (old : D × ManagedNames) (new : D)
    (schema : List ℕ) (why : OpenReadError) : Type 0 where
  pub settings : Settings
  pub commit : Commit
  pub means : g.told.content
      → ReadsSuch ((g.view old.0).reads meta_name) (λ bytes. Means settings schema bytes commit)
  pub file : UnreadFile g old.0 new (looked_at commit old.1.managed) why

-- why `meta.json` isn't read, under this schema
abbrev pub UnreadMeta : {D W C : Type 0} (g : Ghosts D W C) (old new : D) (schema : List ℕ)
    → TantivyError → Type 0
UnreadMeta g old new schema error =
    MetaCause g.told.content (Some schema) ((g.view old).reads meta_name)
    (Rose (g.view old).faults (g.view new).faults) ((g.view new).faults ≡ (g.view old).faults) error

-- Why a validation fails: `meta.json` isn't read, or then a file of its commit.
abbrev pub ValidateCause : {D W C : Type 0} (g : Ghosts D W C) (old : D × ManagedNames) (new : D)
    (schema : List ℕ) → TantivyError → Type 0
ValidateCause g old new schema (errors.OpenReadError why) =
    UnreadMeta g old.0 new schema (errors.OpenReadError why) ⊎ UnreadCommit g old new schema why
ValidateCause g old new schema other = UnreadMeta g old.0 new schema other

-- a validation fails where `meta.json` isn't read, or a file of its commit, and at Ok the device refused no
-- call
pub record ValidateFaults {A D W C : Type 0} (g : Ghosts D W C) (old : D × ManagedNames) (new : D)
    (schema : List ℕ) (result : Result A TantivyError) : Type 0 where
  pub quiet : OnOk result ((g.view new).faults ≡ (g.view old.0).faults)
  pub cause : IfErr result (ValidateCause g old new schema)
