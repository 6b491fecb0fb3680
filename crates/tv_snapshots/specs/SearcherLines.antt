-- What is told of the bodies that searchers show.
use Rattle.std.specs.Prelude.{ℕ, List, Option, Some, None}
use Rattle.std.specs.Option.{option_map}
use Rattle.tv_formats.specs.declared.segment.SegmentComponent.{SegmentComponent}
use Rattle.tv_machine.specs.State.{Snapshot}
use Rattle.tv_machine.specs.SearcherEvents.{body_at, bytes_line}
use Rattle.tv_snapshots.specs.declared.readers.BodyAnswer.{BodyAnswer}
use Rattle.tv_snapshots.specs.declared.readers.BodyAnswer.TheVariants.{NoSearcher, NoFile, Line}

-- what is told of a body: that there is no such searcher, that it shows no such file, or its line
abbrev pub body_told : Option (List ℕ) → BodyAnswer
body_told None = NoFile
body_told (Some text) = Line text

-- what is told of a body that a searcher shows: that there is no such searcher, that it shows no such file,
-- or its line
abbrev pub bytes_told : ℕ → ℕ → SegmentComponent → Option Snapshot → BodyAnswer
bytes_told number ord component None = NoSearcher
bytes_told number ord component (Some shown) =
    body_told (option_map (bytes_line number ord component) (body_at shown ord component))
