-- What several segments take, one segment further; and what is reported of a commit.
use Rattle.std.proofs.Common.{◌≡◌, ℕ, zero, suc, ◌+◌, ◌<◌, List, [], ◌∷◌, ◌++◌, length, map, take, get_or, refl, Some, Result, Ok, Err, sym, ap, subst, ◌∙◌}
use Rattle.std.specs.List.{AllByRecursion}
use Rattle.std.specs.Prelude.{IfErr, IsErrAnd, slice_get}
use Rattle.std.proofs.lemmas.List.{take_more}
use Rattle.std.proofs.lemmas.Option.{slice_get_read}
use Rattle.tv_base.specs.declared.io.IoError.{IoError}
use Rattle.tv_base.specs.declared.io.IoError.TheVariants as io
use Rattle.tv_formats.specs.declared.segment.LiveSegment.{LiveSegment}
use Rattle.tv_formats.specs.Files.{Reads}
use Rattle.tv_reader.specs.Bodies.{IsRead, shown_entry}
use Rattle.tv_framing.specs.Faults.{OfFault}
use Rattle.tv_reader.specs.Searchers.{OfSegment}
use Rattle.tv_reader.specs.Segments.{SegmentShown}
use Rattle.tv_reader.specs.Spaces.{HasNoSpace}
use Rattle.tv_space.specs.Measuring.{AreMeasured, Measures}
use Rattle.tv_space.specs.ReportLines.{SegmentReport}
use Rattle.tv_space.specs.Reports.{AreReported}

measured_push : (names : List (List ℕ)) (segments : List SegmentShown) (reports : List SegmentReport) (shown : SegmentShown) (report : SegmentReport) → AreMeasured names segments reports → Measures names shown report → AreMeasured names (segments ++ shown ∷ []) (reports ++ report ∷ [])
measured_push names [] [] shown report h here = (here, tt)
measured_push names [] (s ∷ reports) shown report h here = absurd h
measured_push names (x ∷ segments) [] shown report h here = absurd h
measured_push names (x ∷ segments) (s ∷ reports) shown report h here = (h.0, measured_push names segments reports shown report h.1 here)

pub measured_more : (names : List (List ℕ)) (segments : List SegmentShown) (i : ℕ) (shown : SegmentShown) (reports new : List SegmentReport) (report : SegmentReport) → i < length segments → shown ≡ get_or segments i shown
    → AreMeasured names (take i segments) reports → Measures names shown report → new ≡ reports ++ report ∷ [] → AreMeasured names (take (i + 1) segments) new
measured_more names segments i shown reports new report lt item h here is =
    let front : take i segments ++ shown ∷ [] ≡ take (i + 1) segments = sym (take_more segments i shown lt ∙ ap (λ (s : SegmentShown). take i segments ++ s ∷ []) (sym item)) in
    subst (λ (l : List SegmentShown). AreMeasured names l new) front
    (subst (AreMeasured names (take i segments ++ shown ∷ [])) (sym is) (measured_push names (take i segments) reports shown report h here))

reported : (reads : Reads) (names : List (List ℕ)) (segments : List SegmentShown) (reports : List SegmentReport) → AllByRecursion (IsRead reads) segments → AreMeasured names segments reports → AreReported reads names (map shown_entry segments) reports
reported reads names [] [] read h = tt
reported reads names [] (r ∷ reports) read h = absurd h
reported reads names (s ∷ segments) [] read h = absurd h
reported reads names (s ∷ segments) (r ∷ reports) read h =
    (record { id_is = h.0.id_is; takes = record { bodies = s.bodies; read = read.0; so = h.0.takes } }, reported reads names segments reports read.1 h.1)

-- segments that are shown as the commit has them, whose files were read, are reported where they were measured
pub all_reported : (reads : Reads) (names : List (List ℕ)) (segments : List SegmentShown) (entries : List (List ℕ × LiveSegment)) (reports : List SegmentReport) → map shown_entry segments ≡ entries → AllByRecursion (IsRead reads) segments → AreMeasured names segments reports → AreReported reads names entries reports
all_reported reads names segments entries reports are read h =
    subst (λ (es : List (List ℕ × LiveSegment)). AreReported reads names es reports) are (reported reads names segments reports read h)

-- a segment of those that were read
pub read_at : (reads : Reads) (segments : List SegmentShown) (i : ℕ) (shown : SegmentShown) → slice_get segments i ≡ Some shown → AllByRecursion (IsRead reads) segments → IsRead reads shown
read_at reads [] i shown at read = absurd cc
read_at reads (s ∷ segments) zero shown at read = let same : s ≡ shown = cc in subst (IsRead reads) same read.0
read_at reads (s ∷ segments) (suc i) shown at read = read_at reads segments i shown at read.1

-- and it stands there as the commit has it
pub entry_at : (segments : List SegmentShown) (i : ℕ) (shown : SegmentShown) → slice_get segments i ≡ Some shown → slice_get (map shown_entry segments) i ≡ Some (shown_entry shown)
entry_at [] i shown at = absurd cc
entry_at (s ∷ segments) zero shown at = let same : s ≡ shown = cc in rw same refl
entry_at (s ∷ segments) (suc i) shown at = entry_at segments i shown at

-- where it can't be told what a segment takes, one of the segments has no space
pub bad_at : {A : Type 0} (names : List (List ℕ)) (segments : List SegmentShown) (i : ℕ) (shown : SegmentShown) (result : Result A IoError) (why : IoError) → IsErrAnd result (λ e. e ≡ why) → i < length segments → shown ≡ get_or segments i shown
    → OfFault (λ _. HasNoSpace names shown) why → IfErr result (OfFault (λ _. (ord : ℕ) × OfSegment segments ord (HasNoSpace names)))
bad_at names segments i shown (Ok a) why h within at bad = absurd h
bad_at names segments i shown (Err e) why h within at bad = subst (OfFault (λ _. (ord : ℕ) × OfSegment segments ord (HasNoSpace names))) (sym h) (so why bad) where
  so : (e : IoError) → OfFault (λ _. HasNoSpace names shown) e → OfFault (λ _. (ord : ℕ) × OfSegment segments ord (HasNoSpace names)) e
  so (io.Fault fault) bad = (i, (shown, slice_get_read segments (length segments) i shown refl within at, bad))
  so io.Memory bad = tt
