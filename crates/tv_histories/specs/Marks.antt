-- What there is to an event.
use Rattle.std.specs.Prelude.{ℕ, List, [], Option, Some, None}
use Rattle.tv_events.specs.declared.event.Event.{Event}
use Rattle.tv_events.specs.declared.event.Event.TheVariants as events
use Rattle.tv_formats.specs.declared.segment.SegmentComponent.{SegmentComponent}
use Rattle.tv_histories.specs.declared.marks.Marks.{Marks}

-- of this kind, with nothing else
abbrev pub kind : ℕ → Marks
kind n = record { kind = n; id = None; component = None; policy = None; number = 0; ord = 0 }

-- with a number
abbrev pub numbered : ℕ → ℕ → Marks
numbered n number = record (kind n) { number = number }

-- with a segment and a number
abbrev pub of_segment : ℕ → List ℕ → ℕ → Marks
of_segment n id number = record (kind n) { id = Some id; number = number }

-- with a file of a segment
abbrev pub of_file : ℕ → List ℕ → SegmentComponent → Marks
of_file n id component = record (kind n) { id = Some id; component = Some component }

-- a commit, without a payload or with one
abbrev pub of_payload : Option (List ℕ) → Marks
of_payload None = numbered 6 0
of_payload (Some text) = numbered 6 1

-- the marks of an event: of which kind it is, and what it names
abbrev pub marks_of : Event → Marks
marks_of (events.Segment id) = of_segment 0 id 0
marks_of (events.Open id component) = of_file 1 id component
marks_of (events.Write id component bytes) = of_file 2 id component
marks_of (events.Seal id component) = of_file 3 id component
marks_of (events.Docs id n) = of_segment 4 id n
marks_of (events.Deletes id n) = of_segment 5 id n
marks_of (events.Commit payload ids) = of_payload payload
marks_of events.Gc = kind 7
marks_of events.GcBegin = kind 8
marks_of (events.GcStep number) = numbered 9 number
marks_of (events.GcEnd number) = numbered 10 number
marks_of (events.Reader policy) = record (kind 11) { policy = Some policy }
marks_of (events.Reload number) = numbered 12 number
marks_of (events.ReloadLock number) = numbered 13 number
marks_of (events.ReloadOpen number) = numbered 14 number
marks_of (events.ReloadPublish number) = numbered 15 number
marks_of events.Deliver = kind 16
marks_of (events.Searcher number) = numbered 17 number
marks_of (events.Show number) = numbered 18 number
marks_of (events.Bytes number ord component) =
    record (numbered 19 number) { component = Some component; ord = ord }
marks_of (events.ReleaseSegment id) = of_segment 20 id 0
marks_of (events.ReleaseReader number) = numbered 21 number
marks_of (events.ReleaseSearcher number) = numbered 22 number
marks_of events.Managed = kind 23
marks_of events.Validate = kind 24
marks_of events.Reopen = kind 25

-- the bytes of a payload, none where there is none
abbrev pub payload_bytes : Option (List ℕ) → List ℕ
payload_bytes None = []
payload_bytes (Some text) = text

-- the bytes of an event: those that it writes, or those of its payload
abbrev pub bytes_of : Event → List ℕ
bytes_of (events.Write id component bytes) = bytes
bytes_of (events.Commit payload ids) = payload_bytes payload
bytes_of other = []

-- the ids that an event lists
abbrev pub ids_of : Event → List (List ℕ)
ids_of (events.Commit payload ids) = ids
ids_of other = []
