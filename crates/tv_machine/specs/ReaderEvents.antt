-- The events of readers.
use Rattle.std.specs.Prelude.{ℕ, ◌+◌, Bool, false, List, [], ◌∷◌, map, codes, Option, Some, None, is_some}
use Rattle.std.specs.Fmt.{decimal}
use Rattle.std.specs.Map.{remove_entry}
use Rattle.std.specs.BTreeMap.{is_at, insert_entry}
use Rattle.std.specs.Ordering.{nat_cmp}
use Rattle.tv_events.specs.declared.reload_policy.ReloadPolicy.{ReloadPolicy}
use Rattle.tv_formats.specs.Footer.{body_of}
use Rattle.tv_formats.specs.Segments.{required_names}
use Rattle.tv_formats.specs.Commits.{Commit}
use Rattle.tv_machine.specs.State.{Catalog, State, StepResult, FileState, SealedFile, Open, Left, Snapshot, Reader, file_at, reader_at}
use Rattle.tv_machine.specs.Living.{is_busy}
use Rattle.tv_events.specs.AnswerLines.{line}
use Rattle.tv_machine.specs.Lines.{unless, given}

-- the body of a sealed file
abbrev pub body_in : Option FileState → List ℕ
body_in (Some (SealedFile bytes)) = body_of bytes
body_in (Some (Open body)) = []
body_in (Some Left) = []
body_in None = []

-- the bodies of the files that a commit's segments require
abbrev pub bodies_in : State → Commit → List (List (List ℕ))
bodies_in s commit =
    map (λ e. map (λ name. body_in (file_at s name)) (required_names e.0 e.1)) commit.segments

-- the current commit, shown under this number
abbrev pub snapshot_in : State → ℕ → Snapshot
snapshot_in s generation =
    record { generation = generation; commit = s.catalog.commit; bodies = bodies_in s s.catalog.commit }

-- a reader that shows this as its first snapshot
abbrev pub new_reader : ReloadPolicy → Snapshot → Reader
new_reader policy shown =
    record { policy = policy; next = 1; shown = shown; has_notice = false; reload = None }

-- a new reader, which shows this
abbrev pub with_new_reader : Catalog → ReloadPolicy → Snapshot → Catalog
with_new_reader c policy shown = record c {
  reading = record c.reading {
    readers = insert_entry nat_cmp c.reading.readers c.reading.next_reader (new_reader policy shown);
    next_reader = c.reading.next_reader + 1;
  };
}

-- a new reader is told and shows the current commit, with these bodies
abbrev pub reader_added : Catalog → ReloadPolicy → (bodies : List (List (List ℕ))) → StepResult Catalog
reader_added c policy bodies = (
  line (codes "reader") (decimal c.reading.next_reader ∷ decimal 0 ∷ decimal c.commit.opstamp ∷ []),
  with_new_reader c policy (record { generation = 0; commit = c.commit; bodies = bodies }),
)

-- a new reader shows the current commit, with the bodies of its files
abbrev pub reader_step : Catalog → ReloadPolicy → (bodies : List (List (List ℕ))) → StepResult Catalog
reader_step c policy bodies =
    unless c ((is_busy c, codes "lock-busy" ∷ []) ∷ []) (reader_added c policy bodies)

-- this reader shows this from now on
abbrev pub with_reloaded : Catalog → ℕ → Reader → Snapshot → Catalog
with_reloaded c number reader shown = record c {
  reading = record c.reading {
    readers = insert_entry nat_cmp c.reading.readers number
        (record reader { next = reader.next + 1; shown = shown });
  };
}

-- a reader shows the current commit under its next number, with these bodies
abbrev pub reloaded : Catalog → ℕ → (bodies : List (List (List ℕ))) → Reader → StepResult Catalog
reloaded c number bodies reader = (
  line (codes "published") (decimal number ∷ decimal reader.next ∷ decimal c.commit.opstamp ∷ []),
  with_reloaded c number reader (record { generation = reader.next; commit = c.commit; bodies = bodies }),
)

-- why a reader may not begin a reload: another one of its own isn't finished, or the meta lock is held
abbrev pub reload_refusals : Catalog → Reader → List (Bool × List (List ℕ))
reload_refusals c reader =
    (is_some reader.reload, codes "reload-unfinished" ∷ []) ∷ (is_busy c, codes "lock-busy" ∷ []) ∷ []

-- a reader shows the current commit, with the bodies of its files
abbrev pub reload_step : Catalog → ℕ → (bodies : List (List (List ℕ))) → StepResult Catalog
reload_step c number bodies = given c (reader_at c number) (codes "unknown-reader") (λ reader.
    unless c (reload_refusals c reader) (reloaded c number bodies reader))

-- the catalog without this reader
abbrev pub without_reader : Catalog → ℕ → Catalog
without_reader c number = record c {
  reading = record c.reading { readers = remove_entry (is_at (nat_cmp number)) c.reading.readers };
}

-- a reader ends, and with it its reload, where one isn't finished
abbrev pub release_reader_step : Catalog → ℕ → StepResult Catalog
release_reader_step c number =
    given c (reader_at c number) (codes "unknown-reader")
    (λ reader. (codes "released", without_reader c number))
