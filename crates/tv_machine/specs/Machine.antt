-- The machine: one step, and a run of steps.
use Rattle.std.specs.Prelude.{ℕ, ◌≡◌, ◌+◌, Bool, true, false, not, List, [], ◌∷◌, map, filter, length, Option, Some, None, if◌then◌else◌}
use Rattle.std.specs.List.{list_all}
use Rattle.tv_events.specs.declared.event.Event.{Event}
use Rattle.tv_events.specs.declared.event.Event.TheVariants as events
use Rattle.tv_machine.specs.State.{Catalog, State, StepResult, on_catalog}
use Rattle.tv_machine.specs.Living.{holds_lock}
use Rattle.tv_machine.specs.Lines.{opening_line}
use Rattle.tv_machine.specs.SegmentEvents.{segment_step, docs_step}
use Rattle.tv_machine.specs.FileEvents.{open_step, write_step, seal_step}
use Rattle.tv_machine.specs.CommitEvents.{commit_step}
use Rattle.tv_machine.specs.CollectionEvents.{gc_step, gc_begin_step, gc_step_step, gc_end_step, release_segment_step}
use Rattle.tv_machine.specs.DeleteEvents.{deletes_step}
use Rattle.tv_machine.specs.ReopenEvents.{reopen_step}
use Rattle.tv_machine.specs.ReaderEvents.{bodies_in, reader_step, reload_step, release_reader_step}
use Rattle.tv_machine.specs.ReloadEvents.{reload_lock_step, reload_open_step, reload_publish_step, deliver_step}
use Rattle.tv_machine.specs.SearcherEvents.{searcher_step, show_step, bytes_step, release_searcher_step}
use Rattle.tv_machine.specs.ReportEvents.{managed_step, validate_step}

-- The step of an event that needs the catalog and the managed names alone, and changes at most the catalog.
-- None of any other event; none of `reload-lock`, which asks for the meta lock first; and none of the end of a
-- reader whose reload holds that lock, which gives it back.
abbrev pub catalog_step : Catalog → (managed : List (List ℕ)) → Event → Option (StepResult Catalog)
catalog_step c managed (events.Segment id) = Some (segment_step c managed id)
catalog_step c managed (events.Docs id n) = Some (docs_step c id n)
catalog_step c managed (events.ReloadPublish number) = Some (reload_publish_step c number)
catalog_step c managed (events.Searcher number) = Some (searcher_step c number)
catalog_step c managed (events.Show number) = Some (show_step c number)
catalog_step c managed (events.Bytes number ord component) = Some (bytes_step c number ord component)
catalog_step c managed (events.ReleaseReader number) =
    if holds_lock c number then None else Some (release_reader_step c number)
catalog_step c managed (events.ReleaseSearcher number) = Some (release_searcher_step c number)
catalog_step c managed events.Managed = Some (managed_step c managed)
catalog_step c managed other = None

-- What an event tells, and the state after it. The outcomes say which of the deletes of files that it asks
-- for are refused; only collections ask for some.
abbrev pub step : State → Event → List Bool → StepResult State
step s (events.Segment id) outcomes = on_catalog s (segment_step s.catalog s.managed id)
step s (events.Open id component) outcomes = open_step s id component
step s (events.Write id component bytes) outcomes = write_step s id component bytes
step s (events.Seal id component) outcomes = seal_step s id component
step s (events.Docs id n) outcomes = on_catalog s (docs_step s.catalog id n)
step s (events.Deletes id n) outcomes = deletes_step s id n
step s (events.Commit payload ids) outcomes = commit_step s payload ids
step s events.Gc outcomes = gc_step s outcomes
step s events.GcBegin outcomes = gc_begin_step s
step s (events.GcStep number) outcomes = gc_step_step s number outcomes
step s (events.GcEnd number) outcomes = gc_end_step s number
step s (events.Reader policy) outcomes =
    on_catalog s (reader_step s.catalog policy (bodies_in s s.catalog.commit))
step s (events.Reload number) outcomes =
    on_catalog s (reload_step s.catalog number (bodies_in s s.catalog.commit))
step s (events.ReloadLock number) outcomes = on_catalog s (reload_lock_step s.catalog number)
step s (events.ReloadOpen number) outcomes = on_catalog s (reload_open_step s.catalog number (bodies_in s))
step s (events.ReloadPublish number) outcomes = on_catalog s (reload_publish_step s.catalog number)
step s events.Deliver outcomes = on_catalog s (deliver_step s.catalog (bodies_in s s.catalog.commit))
step s (events.Searcher number) outcomes = on_catalog s (searcher_step s.catalog number)
step s (events.Show number) outcomes = on_catalog s (show_step s.catalog number)
step s (events.Bytes number ord component) outcomes = on_catalog s (bytes_step s.catalog number ord component)
step s (events.ReleaseSegment id) outcomes = release_segment_step s id
step s (events.ReleaseReader number) outcomes = on_catalog s (release_reader_step s.catalog number)
step s (events.ReleaseSearcher number) outcomes = on_catalog s (release_searcher_step s.catalog number)
step s events.Managed outcomes = on_catalog s (managed_step s.catalog s.managed)
step s events.Validate outcomes = validate_step s
step s events.Reopen outcomes = reopen_step s

-- an event of a run, with the outcomes of its deletes of files
abbrev pub Turn : Type 0
Turn = Event × List Bool

-- what a run tells, line by line
abbrev pub answers : State → List Turn → List (List ℕ)
answers s [] = []
answers s (turn ∷ turns) = (step s turn.0 turn.1).0 ∷ answers (step s turn.0 turn.1).1 turns

-- the state after a run
abbrev pub after : State → List Turn → State
after s [] = s
after s (turn ∷ turns) = after (step s turn.0 turn.1).1 turns

-- all that is told: the opening line, and then the answers
abbrev pub report : State → List Turn → List (List ℕ)
report s turns = opening_line s ∷ answers s turns

-- the index isn't opened again
abbrev pub isnt_reopening : Event → Bool
isnt_reopening events.Reopen = false
isnt_reopening other = true

-- nor in any of these turns
abbrev pub NeverReopens : List Turn → Type 0
NeverReopens turns = list_all (λ turn. isnt_reopening turn.0) turns ≡ true

-- the events of a run
abbrev pub events_of : List Turn → List Event
events_of turns = map (λ turn. turn.0) turns

-- how many deletes of a turn were refused
abbrev pub refused_in : List Bool → ℕ
refused_in outcomes = length (filter not outcomes)

-- how many deletes of a run were refused
abbrev pub all_refused : List Turn → ℕ
all_refused [] = 0
all_refused (turn ∷ turns) = refused_in turn.1 + all_refused turns
