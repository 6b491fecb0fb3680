-- The events of a reload in steps, the one that serves notices, and what a commit tells the readers.
use Rattle.std.specs.Prelude.{ℕ, ◌+◌, Bool, true, false, ◌||◌, List, [], ◌∷◌, map, filter, codes, Option, Some, None, is_some, if◌then◌else◌}
use Rattle.std.specs.Fmt.{decimal}
use Rattle.std.specs.List.{list_any}
use Rattle.std.specs.BTreeMap.{insert_entry}
use Rattle.std.specs.Ordering.{nat_cmp}
use Rattle.tv_formats.specs.Commits.{Commit}
use Rattle.tv_events.specs.declared.reload_policy.ReloadPolicy.{ReloadPolicy}
use Rattle.tv_events.specs.declared.reload_policy.ReloadPolicy.TheVariants.{Manual, OnCommitWithDelay}
use Rattle.tv_machine.specs.State.{Catalog, StepResult, Snapshot, Reader, Readers, Reload, Locked, Read, reader_at}
use Rattle.tv_machine.specs.Living.{is_busy, unread_by}
use Rattle.tv_events.specs.AnswerLines.{line}
use Rattle.tv_machine.specs.Lines.{unless, given}
use Rattle.tv_machine.specs.ReaderEvents.{reload_refusals, with_reloaded}

-- ---- a reload in steps

-- the reader of this number is this one from now on
abbrev pub with_reader : Catalog → ℕ → Reader → Catalog
with_reader c number reader =
    record c { reading = record c.reading { readers = insert_entry nat_cmp c.reading.readers number reader } }

-- a reader notes the current commit, and holds the meta lock from now on
abbrev pub commit_noted : Catalog → ℕ → Reader → StepResult Catalog
commit_noted c number reader = (
  line (codes "locked") (decimal number ∷ decimal c.commit.opstamp ∷ []),
  with_reader c number (record reader { reload = Some (Locked c.commit) }),
)

-- a reader notes the current commit, and holds the meta lock
abbrev pub reload_lock_step : Catalog → ℕ → StepResult Catalog
reload_lock_step c number = given c (reader_at c number) (codes "unknown-reader") (λ reader.
    unless c (reload_refusals c reader) (commit_noted c number reader))

-- a reader has the bodies of the commit that it has noted, and the meta lock is free from now on
abbrev pub files_read : Catalog → ℕ → Reader → Commit → (bodies : List (List (List ℕ))) → StepResult Catalog
files_read c number reader noted bodies = (
  line (codes "read") (decimal number ∷ []),
  with_reader c number (record reader { reload = Some (Read noted bodies) }),
)

-- the files of the commit that a reader has noted are read; this function gives the bodies of a commit's
-- files
abbrev pub reload_open_step : Catalog → ℕ → (Commit → List (List (List ℕ))) → StepResult Catalog
reload_open_step c number bodies_of = given c (reader_at c number) (codes "unknown-reader") (λ reader.
    given c (unread_by reader.reload) (codes "no-reload") (λ noted.
    files_read c number reader noted (bodies_of noted)))

-- the commit that a reload has noted, with the bodies of its files and under this number, once they are read
abbrev pub snapshot_read : (generation : ℕ) → Option Reload → Option Snapshot
snapshot_read generation None = None
snapshot_read generation (Some (Locked commit)) = None
snapshot_read generation (Some (Read commit bodies)) =
    Some (record { generation = generation; commit = commit; bodies = bodies })

-- a reader shows this, which was read for it, and its reload is finished
abbrev pub published : Catalog → ℕ → Reader → Snapshot → StepResult Catalog
published c number reader shown = (
  line (codes "published") (decimal number ∷ decimal shown.generation ∷ decimal shown.commit.opstamp ∷ []),
  with_reloaded c number (record reader { reload = None }) shown,
)

-- a reader shows the commit that it has noted, under its next number
abbrev pub reload_publish_step : Catalog → ℕ → StepResult Catalog
reload_publish_step c number = given c (reader_at c number) (codes "unknown-reader") (λ reader.
    given c (snapshot_read reader.next reader.reload) (codes "no-reload") (published c number reader))

-- ---- notices

-- whether a reader with this policy gets a notice of each commit
abbrev pub follows_commits : ReloadPolicy → Bool
follows_commits Manual = false
follows_commits OnCommitWithDelay = true

-- a reader after a commit: it has a notice where its policy asks for one, or where it had one
abbrev pub told_of_commit : Reader → Reader
told_of_commit reader = record reader { has_notice = follows_commits reader.policy || reader.has_notice }

-- the readers after a commit
abbrev pub with_notices : Readers → Readers
with_notices reading = record reading { readers = map (λ e. (e.0, told_of_commit e.1)) reading.readers }

-- the readers with a notice, with their numbers
abbrev pub with_notice : Catalog → List (ℕ × Reader)
with_notice c = filter (λ e. e.1.has_notice) c.reading.readers

-- a reader shows this commit with these bodies under its next number, and its notice ends, where it has one
abbrev pub served : Commit → (bodies : List (List (List ℕ))) → Reader → Reader
served commit bodies reader =
    if reader.has_notice then record reader {
      next = reader.next + 1;
      shown = record { generation = reader.next; commit = commit; bodies = bodies };
      has_notice = false;
    } else reader

-- each reader with a notice shows the current commit with these bodies, and these notices end
abbrev pub with_served : Catalog → (bodies : List (List (List ℕ))) → Catalog
with_served c bodies = record c {
  reading = record c.reading {
    readers = map (λ e. (e.0, served c.commit bodies e.1)) c.reading.readers;
  };
}

-- why notices aren't served: the meta lock is held, or a reader with a notice has a reload that isn't
-- finished
abbrev pub deliver_refusals : Catalog → List (Bool × List (List ℕ))
deliver_refusals c =
    (is_busy c, codes "lock-busy" ∷ [])
    ∷ (list_any (λ e. is_some e.1.reload) (with_notice c), codes "reload-unfinished" ∷ [])
    ∷ []

-- each reader with a notice shows the current commit, with the bodies of its files
abbrev pub deliver_step : Catalog → (bodies : List (List (List ℕ))) → StepResult Catalog
deliver_step c bodies =
    unless c (deliver_refusals c)
    (line (codes "delivered") (map (λ e. decimal e.0) (with_notice c)), with_served c bodies)
