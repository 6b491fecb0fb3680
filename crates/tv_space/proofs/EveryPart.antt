-- A report counts every part.
use Rattle.std.proofs.Common.{ℕ, List, [], ◌∷◌, length, sym, subst, Result, Ok, Err}
use Rattle.std.specs.Prelude.{IfOk}
use Rattle.tv_base.specs.declared.error.TantivyError.{TantivyError}
use Rattle.tv_formats.specs.declared.segment.LiveSegment.{LiveSegment}
use Rattle.tv_formats.specs.declared.segment.SegmentComponent.TheVariants as components
use Rattle.tv_formats.specs.Files.{Reads}
use Rattle.tv_framing.specs.Composite.{Part, bodies}
use Rattle.tv_framing.specs.Fields.{FieldSpace}
use Rattle.tv_framing.specs.PerField.{UsesBytes}
use Rattle.tv_framing.specs.Segments.{SegmentSpace}
use Rattle.tv_reader.specs.Segments.{SegmentShown}
use Rattle.tv_reader.specs.Spaces.{HasFields, IsSpaceOf, UsesFields}
use Rattle.tv_space.specs.Laws.{AreCounted, CountsParts, DropsNoPart}
use Rattle.tv_space.specs.ReportLines.{SegmentReport}
use Rattle.tv_space.specs.Reports.{AreReported, Reports}

-- the parts of a file are the only ones
all_parts : (names : List (List ℕ)) (body : List ℕ) (usage : List FieldSpace) (parts : List Part) → UsesFields names body usage → HasFields body parts → UsesBytes usage (length (bodies parts))
all_parts names body usage parts uses has = subst (λ (l : List Part). UsesBytes usage (length (bodies l))) (sym (uses.only parts has)) uses.total

counts : (names : List (List ℕ)) (shown : SegmentShown) (space : SegmentSpace) → IsSpaceOf names shown space → CountsParts shown space
counts names shown space h components.Postings parts kind has = all_parts names _ space.postings parts h.postings has
counts names shown space h components.Positions parts kind has = all_parts names _ space.positions parts h.positions has
counts names shown space h components.FastFields parts kind has = all_parts names _ space.fast_fields parts h.fast_fields has
counts names shown space h components.FieldNorms parts kind has = all_parts names _ space.fieldnorms parts h.fieldnorms has
counts names shown space h components.Terms parts kind has = all_parts names _ space.termdict parts h.termdict has
counts names shown space h components.Store parts kind has = absurd cc
counts names shown space h components.Delete parts kind has = absurd cc

counted : (reads : Reads) (names : List (List ℕ)) (entries : List (List ℕ × LiveSegment)) (reports : List SegmentReport) → AreReported reads names entries reports → AreCounted reads entries reports
counted reads names [] [] h = tt
counted reads names [] (r ∷ reports) h = absurd h
counted reads names (e ∷ entries) [] h = absurd h
counted reads names (e ∷ entries) (r ∷ reports) h =
    let takes = h.0.takes in
    (record { bodies = takes.bodies; read = takes.read; so = counts names _ r.space takes.so }, counted reads names entries reports h.1)

pub drops_none : {A : Type 0} (text : A → List ℕ) (reads : Reads) (schema : List ℕ) (result : Result A TantivyError) → IfOk result (λ a. Reports reads schema (text a)) → IfOk result (λ a. DropsNoPart reads schema (text a))
drops_none text reads schema (Ok a) h = record { names = h.names; commit = h.commit; stands = h.stands; reports = h.reports; each = counted reads h.names h.commit.segments h.reports h.each; text_is = h.text_is }
drops_none text reads schema (Err e) h = tt
