-- Commits whose files can be read.
use Rattle.std.specs.Prelude.{ℕ, ◌≡◌, true, not, ◌||◌, List, [], ◌∷◌, Option, Some, None, IfSome, option_and_then, if◌then◌else◌}
use Rattle.std.specs.List.{AllByRecursion, list_all}
use Rattle.tv_events.specs.declared.event.Event.{Event}
use Rattle.tv_events.specs.declared.event.Event.TheVariants as events
use Rattle.tv_formats.specs.Names.{has}
use Rattle.tv_formats.specs.Footer.{IsGood}
use Rattle.tv_formats.specs.Commits.{Commit}
use Rattle.tv_machine.specs.Living.{kept_commits, is_busy, unread_by}
use Rattle.tv_formats.specs.Segments.{all_required}
use Rattle.tv_machine.specs.State.{State, SealedFile, file_at, reader_at}
use Rattle.tv_machine.specs.Lines.{is_refused}
use Rattle.tv_machine.specs.ReaderEvents.{reload_refusals}
use Rattle.tv_machine.specs.ReloadEvents.{deliver_refusals}
use Rattle.tv_machine.specs.Machine.{Turn, step}

-- a file is sealed, and has a body and a footer
abbrev pub IsGoodFile : State → List ℕ → Type 0
IsGoodFile s name = (bytes : List ℕ) × (file_at s name ≡ Some (SealedFile bytes)) × IsGood bytes

-- each of these files is sealed, and has a body and a footer
pub record AreGoodFiles (s : State) (names : List (List ℕ)) : Type 0 where
  pub each : (n : List ℕ) → has names n ≡ true → IsGoodFile s n

-- the files that each kept commit requires can be read
abbrev pub CanRead : State → Type 0
CanRead s = AllByRecursion (λ commit. AreGoodFiles s (all_required commit.segments)) (kept_commits s.catalog)

-- The commit whose files an event reads, where it reads some and isn't refused: the current one for a new
-- reader, for a reload, and where notices are served and a reader has one; and the one that a reload has
-- noted.
abbrev pub read_by : State → Event → Option Commit
read_by s (events.Reader policy) = if is_busy s.catalog then None else Some s.catalog.commit
read_by s (events.Reload number) = option_and_then
    (λ reader. if is_refused (reload_refusals s.catalog reader) then None else Some s.catalog.commit)
    (reader_at s.catalog number)
read_by s (events.ReloadOpen number) =
    option_and_then (λ reader. unread_by reader.reload) (reader_at s.catalog number)
read_by s events.Deliver =
    if is_refused (deliver_refusals s.catalog) || list_all (λ e. not e.1.has_notice) s.catalog.reading.readers
    then None else Some s.catalog.commit
read_by s other = None

-- an event that reads a commit's files can do so
abbrev pub ReadsGood : State → Event → Type 0
ReadsGood s event = IfSome (read_by s event) (λ commit. AreGoodFiles s (all_required commit.segments))

-- each event of a run that reads a commit's files can do so
abbrev pub AllReadGood : State → List Turn → Type 0
AllReadGood s [] = Unit {0}
AllReadGood s (turn ∷ turns) = ReadsGood s turn.0 × AllReadGood (step s turn.0 turn.1).1 turns
