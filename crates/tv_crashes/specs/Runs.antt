-- Runs of the machine whose lines are told, and what a crash at each of their moments leaves.
use Rattle.std.specs.Prelude.{ℕ, ◌≡◌, ◌+◌, ◌<◌, ◌≤◌, List, [], ◌∷◌, ◌++◌, length, take}
use Rattle.tv_formats.specs.Commits.{IndexForm}
use Rattle.tv_formats.specs.Disk.{Disk, Elapses, MayLeave, SamePossible, Throughout, Within, possible_now}
use Rattle.tv_formats.specs.Files.{Heard, Reads}
use Rattle.tv_machine.specs.Lines.{opening_line}
use Rattle.tv_machine.specs.Machine.{Turn, after, answers, report, step}
use Rattle.tv_machine.specs.State.{State}
use Rattle.tv_crashes.specs.Stored.{IsFromStart, IsSafe, ShowsEither, Stored, stored_of}
use Rattle.tv_crashes.specs.Told.{AreFirst, count_told_by, whole_lines, with_feeds}

-- what is stored once so many events of a run are done
abbrev pub stored_at : IndexForm → State → List Turn → (events : ℕ) → Stored
stored_at form s turns k = stored_of form (after s (take k turns))

-- what is seen of a directory here: its disk, and what it heard
pub record Seen : Type 1 where
  pub disk : Disk
  pub heard : Heard

-- ---- runs

-- A run of which perhaps not every line was told: the whole lines that were told are the first of its
-- answers, none was told before it began, and all of them were by its end. At each moment at which so many
-- of them have been told, what that many events leave is stored, or what one event more leaves.
pub record RunsSafely (form : IndexForm) (old new : Seen) (s : State) (turns : List Turn) : Type 0 where
  pub lines : Heard
  pub heard : new.heard ≡ old.heard ++ lines
  pub said : AreFirst (whole_lines lines) (with_feeds (answers s turns))
  pub none_before : (x : ℕ) → x < old.disk.moment → count_told_by x lines ≡ 0
  pub all : (x : ℕ) → new.disk.moment ≤ x → count_told_by x lines ≡ length (whole_lines lines)
  pub later : old.disk.moment ≤ new.disk.moment
  -- what a crash before the run might leave stays as it was
  pub past : (x : ℕ) → x ≤ old.disk.moment → SamePossible (old.disk.possible x) (new.disk.possible x)
  pub each : (x : ℕ) → old.disk.moment ≤ x → x ≤ new.disk.moment
      → IsSafe (stored_at form s turns (count_told_by x lines))
      (stored_at form s turns (count_told_by x lines + 1)) (new.disk.possible x)

-- a run all of whose answers have been told by its end
pub record RunsWhole (form : IndexForm) (old new : Seen) (s : State) (turns : List Turn) : Type 0 where
  pub runs : RunsSafely form old new s turns
  pub whole : whole_lines runs.lines ≡ with_feeds (answers s turns)

-- The whole lines that were told are the first of the run's answers. A crash at a moment at which so many of
-- them have been told leaves an image that shows whole what that many events leave, or what one event more
-- leaves, and that lists each of its undotted files.
pub record Survives (form : IndexForm) (old new : Seen) (s : State) (turns : List Turn) : Type 0 where
  pub lines : Heard
  pub heard : new.heard ≡ old.heard ++ lines
  pub said : AreFirst (whole_lines lines) (with_feeds (answers s turns))
  pub each : (x k : ℕ) → old.disk.moment ≤ x → x ≤ new.disk.moment → count_told_by x lines ≡ k
      → (image : Reads) → MayLeave new.disk x image
      → ShowsEither image (stored_at form s turns k) (stored_at form s turns (k + 1))

-- ---- one event

-- At each moment of an event what the state before it stores is stored, or what the state after it does.
abbrev pub DoesSafely : IndexForm → (old new : Seen) → State → Turn → Type 0
DoesSafely form old new s turn =
    Throughout (IsSafe (stored_of form s) (stored_of form (step s turn.0 turn.1).1)) old.disk new.disk

-- An event was done, and no line was told yet: what the state after it stores is stored.
pub record HasDone (form : IndexForm) (old new : Seen) (s : State) (turn : Turn) : Type 0 where
  pub does : DoesSafely form old new s turn
  pub heard : new.heard ≡ old.heard
  pub done : IsSafe (stored_of form (step s turn.0 turn.1).1) (stored_of form (step s turn.0 turn.1).1)
      (possible_now new.disk)

-- a line is told, at a moment between these, and a crash leaves nothing that it might not leave before
pub record OnlyTellsLine (old new : Seen) (line : List ℕ) : Type 0 where
  pub moment : ℕ
  pub later : old.disk.moment ≤ moment
  pub sooner : moment ≤ new.disk.moment
  pub heard : new.heard ≡ old.heard ++ (moment, line ++ 10 ∷ []) ∷ []
  pub within : Within (possible_now old.disk) (possible_now new.disk)
  pub time : Elapses old.disk new.disk

-- no whole line is told
pub record HearsNoLine (old new : Seen) : Type 0 where
  pub pieces : Heard
  pub heard : new.heard ≡ old.heard ++ pieces
  pub none : whole_lines pieces ≡ []

-- ---- an opening, and a replay

-- An opening that told its line. Before that a crash leaves the commit of the start, or that of a new index,
-- and from then on what this state stores.
pub record OpensWhole (form : IndexForm) (old new : Seen) (s : State) : Type 0 where
  pub lines : Heard
  pub heard : new.heard ≡ old.heard ++ lines
  pub whole : whole_lines lines ≡ with_feeds (opening_line s ∷ [])
  pub all : (x : ℕ) → new.disk.moment ≤ x → count_told_by x lines ≡ 1
  pub later : old.disk.moment ≤ new.disk.moment
  pub before : (x : ℕ) → old.disk.moment ≤ x → x ≤ new.disk.moment → count_told_by x lines ≡ 0
      → (image : Reads) → MayLeave new.disk x image → IsFromStart form.schema old.disk image
  pub now : (x : ℕ) → old.disk.moment ≤ x → x ≤ new.disk.moment → count_told_by x lines ≡ 1
      → IsSafe (stored_of form s) (stored_of form s) (new.disk.possible x)

-- An opening that told no whole line: at each moment a crash leaves the commit of the start, or that of a new
-- index.
pub record OpensUntold (schema : List ℕ) (old new : Seen) : Type 0 where
  pub silent : HearsNoLine old new
  pub before : (x : ℕ) → old.disk.moment ≤ x → x ≤ new.disk.moment
      → (image : Reads) → MayLeave new.disk x image → IsFromStart schema old.disk image

-- An opening, and then a run: the whole lines that were told are the first of the report. Before the opening
-- line a crash leaves the commit of the start, or that of a new index. At a moment at which that line and so
-- many answers have been told, it leaves an image that shows whole what that many events leave, or what one
-- event more leaves, and that lists each of its undotted files.
pub record ReplaySurvives (form : IndexForm) (old new : Seen) (s : State) (turns : List Turn) : Type 0 where
  pub lines : Heard
  pub heard : new.heard ≡ old.heard ++ lines
  pub said : AreFirst (whole_lines lines) (with_feeds (report s turns))
  pub opening : (x : ℕ) → old.disk.moment ≤ x → x ≤ new.disk.moment → count_told_by x lines ≡ 0
      → (image : Reads) → MayLeave new.disk x image → IsFromStart form.schema old.disk image
  pub each : (x k : ℕ) → old.disk.moment ≤ x → x ≤ new.disk.moment → count_told_by x lines ≡ k + 1
      → (image : Reads) → MayLeave new.disk x image
      → ShowsEither image (stored_at form s turns k) (stored_at form s turns (k + 1))
