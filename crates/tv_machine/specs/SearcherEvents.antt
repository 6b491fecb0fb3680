-- The events of searchers.
use Rattle.std.specs.Prelude.{ℕ, ◌+◌, List, [], ◌∷◌, map, codes, Option, Some, None}
use Rattle.std.specs.List.{slice_get}
use Rattle.std.specs.Fmt.{decimal}
use Rattle.std.specs.Map.{remove_entry}
use Rattle.std.specs.BTreeMap.{is_at, insert_entry}
use Rattle.std.specs.Ordering.{nat_cmp}
use Rattle.tv_formats.specs.declared.segment.SegmentComponent.{SegmentComponent}
use Rattle.tv_formats.specs.declared.segment.SegmentComponent.TheVariants.{Postings, Positions, FastFields, FieldNorms, Terms, Store, Delete}
use Rattle.tv_formats.specs.Segments.{extension}
use Rattle.tv_machine.specs.State.{Catalog, StepResult, Snapshot, Reader, reader_at, searcher_at}
use Rattle.tv_events.specs.AnswerLines.{line, payload_word, segment_word, bytes_word}
use Rattle.tv_machine.specs.Lines.{given}

-- the searcher that gets this number shows what the reader shows
abbrev pub searcher_line : ℕ → Reader → List ℕ
searcher_line number reader =
    line (codes "searcher") (decimal number ∷ decimal reader.shown.generation
    ∷ decimal reader.shown.commit.opstamp ∷ [])

-- a new searcher, which shows this
abbrev pub with_searcher : Catalog → Snapshot → Catalog
with_searcher c shown = record c {
  reading = record c.reading {
    searchers = insert_entry nat_cmp c.reading.searchers c.reading.next_searcher shown;
    next_searcher = c.reading.next_searcher + 1;
  };
}

-- a new searcher, which shows for life what a reader shows now
abbrev pub searcher_step : Catalog → ℕ → StepResult Catalog
searcher_step c number =
    given c (reader_at c number) (codes "unknown-reader")
    (λ reader. (searcher_line c.reading.next_searcher reader, with_searcher c reader.shown))

-- the commit that the searcher of this number shows
abbrev pub show_line : ℕ → Snapshot → List ℕ
show_line number shown =
    line (codes "show") (decimal number ∷ decimal shown.commit.opstamp ∷ payload_word shown.commit.payload
    ∷ map segment_word shown.commit.segments)

-- the commit that a searcher shows
abbrev pub show_step : Catalog → ℕ → StepResult Catalog
show_step c number =
    given c (searcher_at c number) (codes "unknown-searcher") (λ shown. (show_line number shown, c))

-- the place of a component in their order
abbrev pub place_of : SegmentComponent → ℕ
place_of Postings = 0
place_of Positions = 1
place_of FastFields = 2
place_of FieldNorms = 3
place_of Terms = 4
place_of Store = 5
place_of Delete = 6

-- the body of a component of the segment at a place, where there is such a segment and it requires the
-- component
abbrev pub body_among : Option (List (List ℕ)) → SegmentComponent → Option (List ℕ)
body_among None component = None
body_among (Some bodies) component = slice_get bodies (place_of component)

-- the body of a component of a segment that a snapshot shows
abbrev pub body_at : Snapshot → ℕ → SegmentComponent → Option (List ℕ)
body_at shown ord component = body_among (slice_get shown.bodies ord) component

-- a body that the searcher of this number shows
abbrev pub bytes_line : ℕ → ℕ → SegmentComponent → List ℕ → List ℕ
bytes_line number ord component body =
    line (codes "bytes") (decimal number ∷ decimal ord ∷ extension component ∷ bytes_word body ∷ [])

-- the body of a file that a searcher shows
abbrev pub bytes_step : Catalog → ℕ → ℕ → SegmentComponent → StepResult Catalog
bytes_step c number ord component =
    given c (searcher_at c number) (codes "unknown-searcher") (λ shown.
    given c (body_at shown ord component) (codes "unknown-file")
    (λ body. (bytes_line number ord component body, c)))

-- the catalog without this searcher
abbrev pub without_searcher : Catalog → ℕ → Catalog
without_searcher c number = record c {
  reading = record c.reading { searchers = remove_entry (is_at (nat_cmp number)) c.reading.searchers };
}

-- a searcher ends
abbrev pub release_searcher_step : Catalog → ℕ → StepResult Catalog
release_searcher_step c number =
    given c (searcher_at c number) (codes "unknown-searcher")
    (λ shown. (codes "released", without_searcher c number))
