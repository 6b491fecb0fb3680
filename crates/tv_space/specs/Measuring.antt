-- How the segments of a commit are measured, and why there is no report.
use Rattle.std.specs.Prelude.{ℕ, ◌≡◌, ◌⊎◌, List, [], ◌∷◌, Some, Result, IfErr, OnOk}
use Rattle.tv_base.specs.declared.error.TantivyError.{TantivyError}
use Rattle.tv_base.specs.declared.error.TantivyError.TheVariants as errors
use Rattle.tv_base.specs.declared.open_errors.OpenReadError.{OpenReadError}
use Rattle.tv_device.specs.declared.directory.Directory.{Ghosts}
use Rattle.tv_formats.specs.Commits.{Commit, Settings}
use Rattle.tv_formats.specs.Files.{Reads, Rose}
use Rattle.tv_formats.specs.Meaning.{Means}
use Rattle.tv_formats.specs.Names.{meta_name}
use Rattle.tv_formats.specs.Segments.{all_required}
use Rattle.tv_index.specs.Opening.{HasList, HasNoList}
use Rattle.tv_index.specs.Standing.{MetaCause}
use Rattle.tv_managed.specs.Reading.{ReadsSuch}
use Rattle.tv_managed.specs.Wrapping.{ListCause}
use Rattle.tv_reader.specs.Bodies.{UnreadFirst}
use Rattle.tv_reader.specs.Segments.{SegmentShown}
use Rattle.tv_reader.specs.Spaces.{IsInvalid, IsSpaceOf}
use Rattle.tv_space.specs.ReportLines.{SegmentReport}
use Rattle.tv_space.specs.Reports.{HasBadBody, Reports}

-- a segment with its bodies is measured: its id, and what they take
pub record Measures (names : List (List ℕ)) (shown : SegmentShown) (report : SegmentReport) : Type 0 where
  pub id_is : report.id ≡ shown.id
  pub takes : IsSpaceOf names shown report.space

-- each of some segments is measured, in their order
abbrev pub AreMeasured : (names : List (List ℕ)) → List SegmentShown → List SegmentReport → Type 0
AreMeasured names [] [] = Unit {0}
AreMeasured names [] (report ∷ reports) = ⊥
AreMeasured names (shown ∷ segments) [] = ⊥
AreMeasured names (shown ∷ segments) (report ∷ reports) =
    Measures names shown report × AreMeasured names segments reports

-- the first file isn't read of those that the commit requires which `meta.json` means under this schema
pub record LacksFile {D W C : Type 0} (g : Ghosts D W C) (old new : D) (schema : List ℕ)
    (why : OpenReadError) : Type 0 where
  pub settings : Settings
  pub commit : Commit
  pub means : g.told.content → ReadsSuch ((g.view old).reads meta_name)
      (λ bytes. Means settings schema bytes commit)
  pub unread : UnreadFirst g old new (all_required commit.segments) why

-- Why no report is made though a commit stands: a file isn't read that the commit requires; or a body isn't of
-- its form, or has a field without a name, or an index above 65,535; or memory was wanted.
abbrev pub BodyCause : {D W C : Type 0} (g : Ghosts D W C) (old new : D) (schema : List ℕ) → TantivyError
    → Type 0
BodyCause g old new schema (errors.OpenReadError why) = LacksFile g old new schema why
BodyCause g old new schema (errors.IoError fault) =
    IsInvalid fault × ((g.view new).faults ≡ (g.view old).faults)
    × (g.told.content → HasBadBody (g.view old).reads schema)
BodyCause g old new schema errors.Memory = (g.view new).faults ≡ (g.view old).faults
BodyCause g old new schema other = ⊥

-- Why there is no report of an index under this schema, in this order: its `meta.json` isn't there, means no
-- commit, or one of another schema; a file isn't read that its commit requires; a body has no space. Each is
-- so, and none before it. A device may refuse a call, and memory may be wanted, at any time.
abbrev pub ReportCause : {D W C : Type 0} (g : Ghosts D W C) (old new : D) (schema : List ℕ) → TantivyError
    → Type 0
ReportCause g old new schema error =
    MetaCause g.told.content (Some schema) ((g.view old).reads meta_name)
    (Rose (g.view old).faults (g.view new).faults) ((g.view new).faults ≡ (g.view old).faults) error
    ⊎ BodyCause g old new schema error

-- there is no report for one of these causes, and at Ok the device refused no call
pub record ReportFaults {A D W C : Type 0} (g : Ghosts D W C) (old new : D) (schema : List ℕ)
    (result : Result A TantivyError) : Type 0 where
  pub quiet : OnOk result ((g.view new).faults ≡ (g.view old).faults)
  pub cause : IfErr result (ReportCause g old new schema)

-- Why a directory isn't measured under this schema: the list of managed files is none; or there is no report
-- of its index. The list is read first.
abbrev pub MeasureCause : {D W C : Type 0} (g : Ghosts D W C) (old new : D) (schema : List ℕ) → TantivyError
    → Type 0
MeasureCause g old new schema error =
    ListCause ((g.told.content → HasNoList (g.view old).reads)
    × ((g.view new).faults ≡ (g.view old).faults))
    (Rose (g.view old).faults (g.view new).faults) ((g.view new).faults ≡ (g.view old).faults) error
    ⊎ ((g.told.content → HasList (g.view old).reads) × ReportCause g old new schema error)

-- a directory isn't measured for one of these causes, and at Ok the device refused no call
pub record MeasureFaults {A D W C : Type 0} (g : Ghosts D W C) (old new : D) (schema : List ℕ)
    (result : Result A TantivyError) : Type 0 where
  pub quiet : OnOk result ((g.view new).faults ≡ (g.view old).faults)
  pub cause : IfErr result (MeasureCause g old new schema)

-- a directory holds an index under this schema, and this is the report of it
pub record MeasuresIndex (reads : Reads) (schema text : List ℕ) : Type 0 where
  pub listed : HasList reads
  pub reports : Reports reads schema text
