-- What a user relies on of a space report.
use Rattle.std.specs.Prelude.{ℕ, ◌≡◌, true, List, [], ◌∷◌, length}
use Rattle.tv_formats.specs.declared.segment.LiveSegment.{LiveSegment}
use Rattle.tv_formats.specs.declared.segment.SegmentComponent.{SegmentComponent}
use Rattle.tv_formats.specs.declared.segment.SegmentComponent.TheVariants as components
use Rattle.tv_formats.specs.Commits.{Commit}
use Rattle.tv_formats.specs.Files.{Reads}
use Rattle.tv_framing.specs.Composite.{Part, bodies}
use Rattle.tv_framing.specs.Fields.{FieldSpace}
use Rattle.tv_framing.specs.PerField.{UsesBytes}
use Rattle.tv_framing.specs.Segments.{SegmentSpace}
use Rattle.tv_reader.specs.Segments.{SegmentShown, component_body}
use Rattle.tv_reader.specs.Spaces.{HasFields, has_fields}
use Rattle.tv_space.specs.ReportLines.{SegmentReport, report_text}
use Rattle.tv_space.specs.Reports.{HasCommitUnder, OfBodies}

-- what the fields of a file take, none where it has none
abbrev pub fields_at : SegmentComponent → SegmentSpace → List FieldSpace
fields_at components.Postings s = s.postings
fields_at components.Positions s = s.positions
fields_at components.FastFields s = s.fast_fields
fields_at components.FieldNorms s = s.fieldnorms
fields_at components.Terms s = s.termdict
fields_at components.Store s = []
fields_at components.Delete s = []

-- whatever parts a file with fields is made of, its number is that of the bytes of all their bodies
abbrev pub CountsParts : SegmentShown → SegmentSpace → Type 0
CountsParts shown space =
    (component : SegmentComponent) (parts : List Part) → has_fields component ≡ true
    → HasFields (component_body shown component) parts
    → UsesBytes (fields_at component space) (length (bodies parts))

-- the lines of some segments of a commit count every part of their files
abbrev pub AreCounted : Reads → List (List ℕ × LiveSegment) → List SegmentReport → Type 0
AreCounted reads [] [] = Unit {0}
AreCounted reads [] (report ∷ reports) = ⊥
AreCounted reads (entry ∷ entries) [] = ⊥
AreCounted reads (entry ∷ entries) (report ∷ reports) =
    OfBodies reads entry (λ shown. CountsParts shown report.space) × AreCounted reads entries reports

-- the text has a line for each segment of the commit, which counts every part of the segment's files
pub record DropsNoPart (reads : Reads) (schema text : List ℕ) : Type 0 where
  pub names : List (List ℕ)
  pub commit : Commit
  pub stands : HasCommitUnder reads schema names commit
  pub reports : List SegmentReport
  pub each : AreCounted reads commit.segments reports
  pub text_is : text ≡ report_text reports
