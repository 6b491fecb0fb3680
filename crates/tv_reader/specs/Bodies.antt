-- How the files of a segment are read, and why they aren't.
use Rattle.std.specs.Prelude.{◌≡◌, ℕ, List, [], ◌∷◌, ◌++◌, None, Result, IfErr, OnOk}
use Rattle.tv_base.specs.declared.error.TantivyError.{TantivyError}
use Rattle.tv_base.specs.declared.error.TantivyError.TheVariants as errors
use Rattle.tv_base.specs.declared.open_errors.OpenReadError.{OpenReadError}
use Rattle.tv_device.specs.declared.directory.Directory.{Ghosts}
use Rattle.tv_formats.specs.declared.segment.LiveSegment.{LiveSegment}
use Rattle.tv_formats.specs.Files.{Reads, Rose}
use Rattle.tv_formats.specs.Segments.{required_names}
use Rattle.tv_managed.specs.Reading.{HasNoBody, NamesFile, OpenBodyCause, ReadsBody, ReadsOther, ReadsRefused, ReadsSuch, SomeOther, SomeRefused}
use Rattle.tv_reader.specs.Segments.{SegmentShown}

-- the files under these names have these bodies, and good footers behind them
abbrev pub ReadBodies : Reads → (names bodies : List (List ℕ)) → Type 0
ReadBodies reads [] [] = Unit {0}
ReadBodies reads [] (body ∷ bodies) = ⊥
ReadBodies reads (name ∷ names) [] = ⊥
ReadBodies reads (name ∷ names) (body ∷ bodies) = ReadsBody (reads name) body × ReadBodies reads names bodies

-- a segment that is shown, as a commit has it
abbrev pub shown_entry : SegmentShown → List ℕ × LiveSegment
shown_entry shown = (shown.id, shown.segment)

-- the bodies of a segment that is shown are those of the files that it requires
abbrev pub IsRead : Reads → SegmentShown → Type 0
IsRead reads shown = ReadBodies reads (required_names shown.id shown.segment) shown.bodies

-- Why the body of this file isn't read: there is no such file; it ends in no good footer, for the first
-- reason that holds; or the device refused the call.
pub record UnreadFile {D W C : Type 0} (g : Ghosts D W C) (old new : D) (name : List ℕ)
    (why : OpenReadError) : Type 0 where
  pub path : NamesFile name why
  pub cause : OpenBodyCause ((g.view new).faults ≡ (g.view old).faults)
      (λ fault. SomeRefused fault × ((g.view new).faults ≡ (g.view old).faults))
      (λ other. SomeOther other × ((g.view new).faults ≡ (g.view old).faults))
      (Rose (g.view old).faults (g.view new).faults) ⊥ why
  pub err : g.told.content → OpenBodyCause ((g.view old).reads name ≡ None)
      (ReadsRefused ((g.view old).reads name)) (ReadsOther ((g.view old).reads name)) (Unit {0}) ⊥ why
  pub outside : g.told.content → OpenBodyCause (Unit {0})
      (λ fault. ReadsSuch ((g.view old).reads name) HasNoBody)
      (λ other. ReadsSuch ((g.view old).reads name) HasNoBody) (Unit {0}) ⊥ why

-- the first of these files isn't read that can't be: those before it have bodies
pub record UnreadFirst {D W C : Type 0} (g : Ghosts D W C) (old new : D) (names : List (List ℕ))
    (why : OpenReadError) : Type 0 where
  pub front : List (List ℕ)
  pub name : List ℕ
  pub rest : List (List ℕ)
  pub names_are : names ≡ front ++ name ∷ rest
  pub read : g.told.content → (bodies : List (List ℕ)) × ReadBodies (g.view old).reads front bodies
  pub unread : UnreadFile g old new name why

-- why not all of these files are read
abbrev pub UnreadCause : {D W C : Type 0} (g : Ghosts D W C) (old new : D) (names : List (List ℕ))
    → TantivyError → Type 0
UnreadCause g old new names (errors.OpenReadError why) = UnreadFirst g old new names why
UnreadCause g old new names errors.Memory = (g.view new).faults ≡ (g.view old).faults
UnreadCause g old new names other = ⊥

-- a reading of some files fails where not all of them are read, and at Ok the device refused no call
pub record UnreadFaults {A D W C : Type 0} (g : Ghosts D W C) (old new : D) (names : List (List ℕ))
    (result : Result A TantivyError) : Type 0 where
  pub quiet : OnOk result ((g.view new).faults ≡ (g.view old).faults)
  pub cause : IfErr result (UnreadCause g old new names)
