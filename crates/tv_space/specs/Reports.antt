-- What a space report says of an index.
use Rattle.std.specs.Prelude.{ℕ, ◌≡◌, List, [], ◌∷◌, Some, slice_get}
use Rattle.tv_formats.specs.declared.segment.LiveSegment.{LiveSegment}
use Rattle.tv_formats.specs.Commits.{Commit, Settings}
use Rattle.tv_formats.specs.Files.{Reads}
use Rattle.tv_formats.specs.Meaning.{Means}
use Rattle.tv_formats.specs.Names.{meta_name}
use Rattle.tv_formats.specs.Segments.{required_names}
use Rattle.tv_managed.specs.Reading.{ReadsSuch}
use Rattle.tv_metas.specs.Schemas.{HasNames}
use Rattle.tv_reader.specs.Bodies.{ReadBodies}
use Rattle.tv_reader.specs.Segments.{SegmentShown}
use Rattle.tv_reader.specs.Spaces.{HasNoSpace, IsSpaceOf}
use Rattle.tv_space.specs.ReportLines.{SegmentReport, report_text}

-- a segment of a commit, with the bodies of the files that it requires
abbrev pub with_bodies : List ℕ × LiveSegment → List (List ℕ) → SegmentShown
with_bodies entry bodies = record { id = entry.0; segment = entry.1; bodies = bodies }

-- The files that a segment of a commit requires read these bodies, each before a good footer; and this is true
-- of them.
pub record OfBodies (reads : Reads) (entry : List ℕ × LiveSegment) (P : SegmentShown → Type 0) : Type 0 where
  pub bodies : List (List ℕ)
  pub read : ReadBodies reads (required_names entry.0 entry.1) bodies
  pub so : P (with_bodies entry bodies)

-- a segment of a commit is reported: its id, and what its files take under these names of fields
pub record IsReported (reads : Reads) (names : List (List ℕ)) (entry : List ℕ × LiveSegment)
    (report : SegmentReport) : Type 0 where
  pub id_is : report.id ≡ entry.0
  pub takes : OfBodies reads entry (λ shown. IsSpaceOf names shown report.space)

-- each segment of a commit is reported, in their order, and nothing else
abbrev pub AreReported : Reads → (names : List (List ℕ)) → List (List ℕ × LiveSegment) → List SegmentReport
    → Type 0
AreReported reads names [] [] = Unit {0}
AreReported reads names [] (report ∷ reports) = ⊥
AreReported reads names (entry ∷ entries) [] = ⊥
AreReported reads names (entry ∷ entries) (report ∷ reports) =
    IsReported reads names entry report × AreReported reads names entries reports

-- `meta.json` means this commit under this schema, which has fields of these names
pub record HasCommitUnder (reads : Reads) (schema : List ℕ) (names : List (List ℕ)) (commit : Commit)
    : Type 0 where
  pub settings : Settings
  pub means : ReadsSuch (reads meta_name) (λ bytes. Means settings schema bytes commit)
  pub named : HasNames schema names

-- the text is a report of the commit that `meta.json` means under this schema
pub record Reports (reads : Reads) (schema text : List ℕ) : Type 0 where
  pub names : List (List ℕ)
  pub commit : Commit
  pub stands : HasCommitUnder reads schema names commit
  pub reports : List SegmentReport
  pub each : AreReported reads names commit.segments reports
  pub text_is : text ≡ report_text reports

-- There is no report of the commit that `meta.json` means under this schema: of one of its segments, whose
-- files read, it can't be told what they take.
pub record HasBadBody (reads : Reads) (schema : List ℕ) : Type 0 where
  pub names : List (List ℕ)
  pub commit : Commit
  pub stands : HasCommitUnder reads schema names commit
  pub ord : ℕ
  pub entry : List ℕ × LiveSegment
  pub among : slice_get commit.segments ord ≡ Some entry
  pub bad : OfBodies reads entry (HasNoSpace names)
