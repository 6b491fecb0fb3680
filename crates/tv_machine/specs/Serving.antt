-- What a run's readers and searchers show.
use Rattle.std.specs.Prelude.{ℕ, ◌≡◌, ◌≢◌, ◌≤◌, ◌<◌, ◌⊎◌, Bool, List, [], ◌∷◌, ◌++◌, Some, true, false}
use Rattle.std.specs.List.{AllByRecursion}
use Rattle.tv_events.specs.declared.event.Event.{Event}
use Rattle.tv_events.specs.declared.event.Event.TheVariants as events
use Rattle.tv_formats.specs.Names.{has}
use Rattle.tv_formats.specs.Segments.{all_required}
use Rattle.tv_formats.specs.Footer.{HasBody}
use Rattle.tv_formats.specs.Commits.{Commit}
use Rattle.tv_machine.specs.Living.{is_busy, is_locked, kept_commits}
use Rattle.tv_machine.specs.State.{State, SealedFile, Snapshot, Reader, file_at, reader_at, searcher_at, no_readers}
use Rattle.tv_machine.specs.ReaderEvents.{bodies_in, body_in}
use Rattle.tv_machine.specs.Machine.{Turn, NeverReopens, after}
use Rattle.tv_machine.specs.Index.{next_after}

-- after each of these turns, which begin in this state, the meta lock is held for a reload
abbrev pub IsBusyAfterEach : State → List Turn → Type 0
IsBusyAfterEach s turns = (front rest : List Turn) → turns ≡ front ++ rest → front ≢ []
    → is_busy (after s front).catalog ≡ true

-- A snapshot shows the commit of a state that the run came to, with the bodies that its files had in that
-- state, or in a later one: then the meta lock was held for some reload after each turn from the one state up
-- to the other.
pub record Shows (s : State) (turns : List Turn) (shown : Snapshot) : Type 0 where
  -- the turns up to the state whose commit it shows, those from there to the state in which the files were
  -- read, and those after it
  pub noting : List Turn
  pub reading : List Turn
  pub rest : List Turn
  pub parts : turns ≡ noting ++ reading ++ rest
  pub commit : shown.commit ≡ (after s noting).catalog.commit
  pub bodies : shown.bodies ≡ bodies_in (after s (noting ++ reading)) shown.commit
  pub locked : IsBusyAfterEach (after s noting) reading

-- A snapshot shows the commit of a state that the run came to, with the bodies that its files had there.
pub record ShowsState (s : State) (turns : List Turn) (shown : Snapshot) : Type 0 where
  pub front : List Turn
  pub rest : List Turn
  pub parts : turns ≡ front ++ rest
  pub commit : shown.commit ≡ (after s front).catalog.commit
  pub bodies : shown.bodies ≡ bodies_in (after s front) shown.commit

-- so does each searcher of a run
abbrev pub ServesStates : State → List Turn → Type 0
ServesStates s turns = (front rest : List Turn) (n : ℕ) (shown : Snapshot) → turns ≡ front ++ rest
    → searcher_at (after s front).catalog n ≡ Some shown → ShowsState s front shown

-- each file that a commit requires is sealed, and what is shown of it is the body before its footer
abbrev pub ShowsAsSealed : State → Commit → Type 0
ShowsAsSealed s commit = (n : List ℕ) → has (all_required commit.segments) n ≡ true
    → (bytes : List ℕ) × (body : List ℕ) × (file_at s n ≡ Some (SealedFile bytes)) × HasBody bytes body
    × (body_in (file_at s n) ≡ body)

-- a state as it is when an index was just opened: nobody reads, and the next commit gets the number after the
-- current one
pub record IsJustOpened (s : State) : Type 0 where
  pub reading : s.catalog.reading ≡ no_readers
  pub next : s.catalog.next ≡ next_after s.catalog.commit.opstamp

-- the event ends the reader of this number, or reads the files for its reload
abbrev pub FreesLock : ℕ → Event → Type 0
FreesLock n event = (event ≡ events.ReleaseReader n) ⊎ (event ≡ events.ReloadOpen n)

-- what the readers and searchers of a run show
pub record Serves (s : State) (turns : List Turn) : Type 0 where
  -- a searcher shows one commit of the run
  pub one_commit : (front rest : List Turn) (n : ℕ) (shown : Snapshot) → turns ≡ front ++ rest
      → searcher_at (after s front).catalog n ≡ Some shown → Shows s front shown
  -- the same for life, which ends where the index is opened again
  pub for_life : (front middle rest : List Turn) (n : ℕ) (first later : Snapshot)
      → turns ≡ front ++ middle ++ rest → NeverReopens middle
      → searcher_at (after s front).catalog n ≡ Some first
      → searcher_at (after s (front ++ middle)).catalog n ≡ Some later → later ≡ first
  -- nor does a reader go back until then
  pub never_back : (front middle rest : List Turn) (n : ℕ) (first later : Reader)
      → turns ≡ front ++ middle ++ rest → NeverReopens middle
      → reader_at (after s front).catalog n ≡ Some first
      → reader_at (after s (front ++ middle)).catalog n ≡ Some later
      → first.shown.commit.opstamp ≤ later.shown.commit.opstamp
  -- what it shows next has a higher number
  pub counts_up : (front middle rest : List Turn) (n : ℕ) (first later : Reader)
      → turns ≡ front ++ middle ++ rest → NeverReopens middle
      → reader_at (after s front).catalog n ≡ Some first
      → reader_at (after s (front ++ middle)).catalog n ≡ Some later
      → (later.shown ≡ first.shown) ⊎ (first.shown.generation < later.shown.generation)
  -- the meta lock is free once the reader ends whose reload holds it, or the files of this reload are read
  pub frees : (front rest : List Turn) (n : ℕ) (turn : Turn) (reader : Reader)
      → turns ≡ front ++ turn ∷ rest → FreesLock n turn.0
      → reader_at (after s front).catalog n ≡ Some reader → is_locked reader ≡ true
      → is_busy (after s (front ++ turn ∷ [])).catalog ≡ false
  -- a new searcher shows what its reader shows
  pub as_reader : (front rest : List Turn) (n : ℕ) (outcomes : List Bool) (reader : Reader)
      → turns ≡ front ++ (events.Searcher n, outcomes) ∷ rest
      → reader_at (after s front).catalog n ≡ Some reader
      → searcher_at (after s (front ++ (events.Searcher n, outcomes) ∷ [])).catalog
      (after s front).catalog.reading.next_searcher ≡ Some reader.shown

-- In each state of a run each file that a kept commit requires is sealed, and what is shown of it is the body
-- before its footer.
abbrev pub ServesAsSealed : State → List Turn → Type 0
ServesAsSealed s turns = (front rest : List Turn) → turns ≡ front ++ rest
    → AllByRecursion (ShowsAsSealed (after s front)) (kept_commits (after s front).catalog)
