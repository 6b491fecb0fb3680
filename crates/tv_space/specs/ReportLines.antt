-- How a space report is printed.
use Rattle.std.specs.Prelude.{ℕ, List, [], ◌∷◌, ◌++◌, codes, sum_by}
use Rattle.std.specs.Fmt.{decimal}
use Rattle.std.specs.List.{flat_map}
use Rattle.hex.specs.Hex.{encode_lower}
use Rattle.tv_framing.specs.PerField.{fields_sum}
use Rattle.tv_framing.specs.Segments.{SegmentSpace, segment_sum}
use Rattle.tv_framing.specs.Usage.{capped, store_sum}

-- a segment's id, and what its files take
pub record SegmentReport : Type 0 where
  pub id : List ℕ
  pub space : SegmentSpace

-- The numbers of a segment's line: how many documents are living; what the files of terms, postings,
-- positions, fast fields, field norms, documents and deletes take; and what all seven take together. Sums stay
-- at the largest number of 64 bits.
abbrev pub segment_numbers : SegmentSpace → List ℕ
segment_numbers s =
    s.num_docs ∷ capped (fields_sum s.termdict) ∷ capped (fields_sum s.postings)
    ∷ capped (fields_sum s.positions) ∷ capped (fields_sum s.fast_fields) ∷ capped (fields_sum s.fieldnorms)
    ∷ capped (store_sum s.store) ∷ s.deletes.0 ∷ capped (segment_sum s) ∷ []

-- numbers, each behind a space
abbrev pub numbers_text : List ℕ → List ℕ
numbers_text numbers = flat_map (λ n. codes " " ++ decimal n) numbers

-- the line of a segment
abbrev pub segment_line : SegmentReport → List ℕ
segment_line report = codes "segment " ++ encode_lower report.id ++ numbers_text (segment_numbers report.space)

-- what all segments take together
abbrev pub total_of : List SegmentReport → ℕ
total_of reports = capped (sum_by (λ report. segment_sum report.space) reports)

-- the last line
abbrev pub total_line : List SegmentReport → List ℕ
total_line reports = codes "total " ++ decimal (total_of reports)

-- the lines of the segments, each with its line feed
abbrev pub segment_lines : List SegmentReport → List ℕ
segment_lines reports = flat_map (λ report. segment_line report ++ 10 ∷ []) reports

-- the whole report: the lines of the segments, and behind them the last one, without a line feed
abbrev pub report_text : List SegmentReport → List ℕ
report_text reports = segment_lines reports ++ total_line reports
