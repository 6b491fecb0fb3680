-- What actions on the files do, in the machine's words. Nobody has to believe these: what `plan` promises
-- ties them to the event's step.
use Rattle.std.specs.Prelude.{ℕ, ◌≡◌, ◌≢◌, ◌⊎◌, ◌+◌, ◌++◌, ◌≤◌, Bool, not, true, List, [], ◌∷◌, find, length, codes, map, string_bytes, Option, Some, None, is_some, if◌then◌else◌, false}
use Rattle.std.specs.List.{AllByRecursion}
use Rattle.std.specs.Option.{IsSomeAnd}
use Rattle.tv_formats.specs.Collections.{Collection, Collections, collectable, collection_at, done_of, failed_of, held, no_collections, with_begun}
use Rattle.tv_formats.specs.Commits.{Commit}
use Rattle.tv_formats.specs.Names.{has}
use Rattle.tv_machine.specs.CollectionEvents.{collected_line, ended, having_deleted, is_done as was_done, with_left, without_files, without_live}
use Rattle.tv_machine.specs.CommitEvents.{is_sealed}
use Rattle.tv_machine.specs.DeleteEvents.{with_deletes}
use Rattle.tv_machine.specs.FileEvents.{opened, sealed_as, written_to, wrote}
use Rattle.tv_machine.specs.Index.{IsFileOf, as_opened}
use Rattle.tv_events.specs.AnswerLines.{line}
use Rattle.tv_machine.specs.ReaderEvents.{bodies_in, snapshot_in, with_new_reader, with_reloaded, without_reader}
use Rattle.tv_machine.specs.ReloadEvents.{served, with_notices, with_reader}
use Rattle.tv_machine.specs.ReopenEvents.{all_left}
use Rattle.tv_machine.specs.ReportEvents.{damaged_files, first_unreadable}
use Rattle.tv_machine.specs.Living.{living, unread_by}
use Rattle.tv_events.specs.declared.reload_policy.ReloadPolicy.{ReloadPolicy}
use Rattle.tv_machine.specs.State.{Catalog, Locked, Read, Reader, Readers, Reload, Snapshot, State, StepResult, file_at, reader_at}
use Rattle.tv_catalog.specs.Effects.{collection_after}
use Rattle.tv_catalog.specs.Exhausted.{SomePassesEnd}
use Rattle.tv_catalog.specs.declared.action.Action.{Action}
use Rattle.tv_catalog.specs.declared.action.Action.TheVariants as actions
use Rattle.tv_catalog.specs.declared.action.Change.{Change}
use Rattle.tv_catalog.specs.declared.action.Change.TheVariants as changes
use Rattle.tv_catalog.specs.declared.action.Reply.{Reply}
use Rattle.tv_catalog.specs.declared.action.Reply.TheVariants as replies

-- ---- what comes of an action

-- the first of these files that isn't sealed
abbrev pub first_open : State → List (List ℕ) → Option (List ℕ)
first_open s names = find (λ name. not (is_sealed (file_at s name))) names

-- a commit is saved, unless one of its files isn't sealed
abbrev pub unless_open : Commit → Option (List ℕ) → Reply
unless_open commit None = replies.Saved commit
unless_open commit (Some name) = replies.Unsealed name

-- the names that a collection takes that spares these
abbrev pub taken_beside : (living : List (List ℕ)) → State → List (List ℕ)
taken_beside living s = collectable (living ++ held s.collections) s.managed

-- the first of these names was tried
abbrev pub tried_of : List (List ℕ) → List Bool → Reply
tried_of [] deletes = replies.Done
tried_of (name ∷ names) deletes = replies.Tried (record { name = name; is_done = was_done deletes })

-- the first name that a collection has left was tried, where it is unfinished
abbrev pub tried_in : Option Collection → List Bool → Reply
tried_in None deletes = replies.Done
tried_in (Some c) deletes = tried_of c.untried deletes

-- some files are damaged, unless one of them can't be read
abbrev pub unless_unread : Option (List ℕ) → (damaged : List (List ℕ)) → Reply
unless_unread None damaged = replies.Damaged damaged
unless_unread (Some name) damaged = replies.Unreadable name

-- what comes of an action that is performed in this state, with these outcomes of its deletes
abbrev pub reply_in : State → Action → List Bool → Reply
reply_in s (actions.Make name) deletes =
    if is_some (file_at s name) then replies.Taken else replies.Done
reply_in s (actions.Save commit text required) deletes =
    unless_open commit (first_open s required.items)
reply_in s (actions.Collect living) deletes = replies.Collected (record {
  deleted = done_of (taken_beside (map string_bytes living.keys) s) deletes;
  failed = failed_of (taken_beside (map string_bytes living.keys) s) deletes;
})
reply_in s (actions.Try number) deletes = tried_in (collection_at s.collections number) deletes
reply_in s (actions.Validate names) deletes =
    unless_unread (first_unreadable s names.items) (damaged_files s names.items)
reply_in s (actions.Load generation) deletes = replies.Loaded (snapshot_in s generation)
reply_in s (actions.Read commit) deletes =
    replies.Loaded (record { generation = 0; commit = commit; bodies = bodies_in s commit })
reply_in s other deletes = replies.Done

-- ---- what stands after it

-- the state of this step, of a file that is open with this body; else the state that was
abbrev pub of_body : State → Option (List ℕ) → (List ℕ → StepResult State) → State
of_body s None told = s
of_body s (Some body) told = (told body).1

-- the state after a collection tried the first of these names, where there is one
abbrev pub after_one : State → ℕ → Collection → List (List ℕ) → Bool → State
after_one s number c [] is_done = s
after_one s number c (name ∷ names) is_done = (having_deleted s number c name names is_done).1

-- the state after a collection tried its next name, where it is unfinished
abbrev pub after_tried : State → ℕ → Option Collection → Bool → State
after_tried s number None is_done = s
after_tried s number (Some c) is_done = after_one s number c c.untried is_done

-- the state after the end of a collection, where it is unfinished
abbrev pub after_end : State → ℕ → Option Collection → State
after_end s number None = s
after_end s number (Some c) = (ended s number c).1

-- this commit is the current one, which took the next number, and the readers that follow commits are told
abbrev pub with_commit : Catalog → Commit → Catalog
with_commit c commit =
    record c { next = c.next + 1; commit = commit; reading = with_notices c.reading }

-- the state after an action of which this came
abbrev pub after : State → Action → Reply → State
after s (actions.Make name) replies.Done = (opened s name).1
after s (actions.Append name bytes) replies.Done =
    of_body s (written_to (file_at s name)) (wrote s name bytes.now)
after s (actions.Seal name) replies.Done =
    of_body s (written_to (file_at s name)) (sealed_as s name)
after s (actions.Leave names) replies.Done = record s { files = with_left names.items s.files }
after s (actions.Save commit text required) (replies.Saved saved) =
    record s { catalog = with_commit s.catalog saved }
after s (actions.Collect living) (replies.Collected names) = without_files s names.deleted
after s (actions.Begin living) replies.Done = record s {
  collections = with_begun s.collections (taken_beside (map string_bytes living.keys) s);
}
after s (actions.Try number) (replies.Tried tried) =
    after_tried s number (collection_at s.collections number) tried.is_done
after s (actions.End number) replies.Done = after_end s number (collection_at s.collections number)
after s actions.Reopen replies.Done =
    record s { files = all_left s.files; collections = no_collections }
after s other reply = s

-- what was loaded
abbrev pub loaded_by : Reply → Option Snapshot
loaded_by (replies.Loaded shown) = Some shown
loaded_by other = None

-- there is a new reader, which shows what was loaded
abbrev pub with_added : Catalog → ReloadPolicy → Option Snapshot → Catalog
with_added c policy None = c
with_added c policy (Some shown) = with_new_reader c policy shown

-- the reader of this number shows what was loaded
abbrev pub with_published : Catalog → ℕ → Option Reader → Option Snapshot → Catalog
with_published c number (Some reader) (Some shown) = with_reloaded c number reader shown
with_published c number other loaded = c

-- the reload of this number's reader stands so from now on
abbrev pub with_reload : Catalog → ℕ → Option Reader → Reload → Catalog
with_reload c number None reload = c
with_reload c number (Some reader) reload =
    with_reader c number (record reader { reload = Some reload })

-- what was loaded is what the reload of this number's reader has read
abbrev pub with_kept : Catalog → ℕ → Option Snapshot → Catalog
with_kept c number None = c
with_kept c number (Some shown) =
    with_reload c number (reader_at c number) (Read shown.commit shown.bodies)

-- each of these readers with a notice shows this under its next number, and these notices end
abbrev pub all_served : Readers → Snapshot → Readers
all_served reading shown = record reading {
  readers = map (λ e. (e.0, served shown.commit shown.bodies e.1)) reading.readers;
}

-- the readers with a notice show what was loaded
abbrev pub with_delivered : Catalog → Option Snapshot → Catalog
with_delivered c None = c
with_delivered c (Some shown) = record c { reading = all_served c.reading shown }

-- what is known beside the files after a change, where this was loaded
abbrev pub catalog_after : Catalog → Change → Option Snapshot → Catalog
catalog_after c changes.Nothing loaded = c
catalog_after c (changes.Deletes id segment n) loaded = with_deletes c id segment n
catalog_after c (changes.Release id) loaded = without_live c id
catalog_after c (changes.Reopen segments) loaded = as_opened c
catalog_after c (changes.AddReader policy) loaded = with_added c policy loaded
catalog_after c (changes.Publish number) loaded = with_published c number (reader_at c number) loaded
catalog_after c (changes.Note number commit) loaded =
    with_reload c number (reader_at c number) (Locked commit)
catalog_after c (changes.Keep number) loaded = with_kept c number loaded
catalog_after c changes.Deliver loaded = with_delivered c loaded
catalog_after c (changes.EndReader number) loaded = without_reader c number

-- the state after a change, behind an action of which this came
abbrev pub changed : State → Change → Reply → State
changed s change reply = record s { catalog = catalog_after s.catalog change (loaded_by reply) }

-- and what is known after an action of which this came, with this change: a commit that was saved is the
-- current one
abbrev pub settled : Catalog → Change → Reply → Catalog
settled c change (replies.Saved commit) = with_commit c commit
settled c change other = catalog_after c change (loaded_by other)

-- ---- the line

-- the line that is told of it, where this is the one of an action that is done
abbrev pub line_of : List ℕ → Reply → List ℕ
line_of told replies.Done = told
line_of told replies.Taken = line (codes "refused") (codes "exists" ∷ [])
line_of told (replies.Unsealed name) = line (codes "refused") (codes "unsealed" ∷ name ∷ [])
line_of told (replies.Saved commit) = told
line_of told (replies.Loaded shown) = told
line_of told (replies.Collected names) = collected_line names.deleted names.failed
line_of told (replies.Tried tried) =
    line told ((if tried.is_done then codes "done" else codes "failed") ∷ tried.name ∷ [])
line_of told (replies.Damaged names) = line told names
line_of told (replies.Unreadable name) = line (codes "refused") (codes "unreadable" ∷ name ∷ [])

-- an action's step of the machine with a change, whose line this is where it is done
abbrev pub step_by : State → Action → Change → List ℕ → List Bool → StepResult State
step_by s action change told deletes =
    let reply = reply_in s action deletes in
    (line_of told reply, changed (after s action reply) change reply)

-- ---- what may be said whatever the files are

-- what may come of an action
abbrev pub MayGive : Collections → (managed : List (List ℕ)) → Action → Reply → Type 0
MayGive collections managed (actions.Make name) reply = (reply ≡ replies.Done) ⊎ (reply ≡ replies.Taken)
MayGive collections managed (actions.Save commit text required) reply =
    (reply ≡ replies.Saved commit)
    ⊎ ((name : List ℕ) × (has required.items name ≡ true) × (reply ≡ replies.Unsealed name))
MayGive collections managed (actions.Collect living) reply = (deletes : List Bool)
    × (reply ≡ replies.Collected (record {
      deleted = done_of (collectable (map string_bytes living.keys ++ held collections) managed) deletes;
      failed = failed_of (collectable (map string_bytes living.keys ++ held collections) managed) deletes;
    }))
MayGive collections managed (actions.Try number) reply = (deletes : List Bool)
    × (reply ≡ tried_in (collection_at collections number) deletes)
MayGive collections managed (actions.Validate names) reply =
    ((damaged : List (List ℕ)) × (length (line [] damaged) ≤ length (line [] names.items))
    × (reply ≡ replies.Damaged damaged))
    ⊎ ((name : List ℕ) × (has names.items name ≡ true) × (reply ≡ replies.Unreadable name))
MayGive collections managed (actions.Load generation) reply =
    (shown : Snapshot) × (reply ≡ replies.Loaded shown)
MayGive collections managed (actions.Read commit) reply =
    (shown : Snapshot) × (reply ≡ replies.Loaded shown)
MayGive collections managed other reply = reply ≡ replies.Done

-- an action after which each name reads what it read, whatever comes of it
abbrev pub OnlyKeeps : Action → Type 0
OnlyKeeps actions.Nothing = Unit {0}
OnlyKeeps (actions.Leave names) = Unit {0}
OnlyKeeps (actions.Begin living) = Unit {0}
OnlyKeeps (actions.Validate names) = Unit {0}
OnlyKeeps (actions.Load generation) = Unit {0}
OnlyKeeps actions.Lock = Unit {0}
OnlyKeeps (actions.Read commit) = Unit {0}
OnlyKeeps actions.Unlock = Unit {0}
OnlyKeeps actions.Reopen = Unit {0}
OnlyKeeps other = ⊥

-- an action that saves no commit
abbrev pub SavesNoCommit : Action → Type 0
SavesNoCommit (actions.Save commit text required) = ⊥
SavesNoCommit other = Unit {0}

-- an action that tries to delete files
abbrev pub TriesDeletes : Action → Type 0
TriesDeletes (actions.Collect living) = Unit {0}
TriesDeletes (actions.Try number) = Unit {0}
TriesDeletes other = ⊥

-- how many bytes an action adds to a file
abbrev pub added_by : Action → ℕ
added_by (actions.Append name bytes) = length bytes.now
added_by other = 0

-- how many numbers of collections an action gives that aren't given back
abbrev pub given_by : Action → ℕ
given_by (actions.Begin living) = 1
given_by other = 0

-- how many numbers of readers, or of the snapshots of one reader, a change takes
abbrev pub numbers_by : Change → ℕ
numbers_by (changes.AddReader policy) = 1
numbers_by (changes.Publish number) = 1
numbers_by changes.Deliver = 1
numbers_by other = 0

-- every action but one that adds no bytes to a file
abbrev pub AppendsSome : Action → Type 0
AppendsSome (actions.Append name bytes) = bytes.now ≢ []
AppendsSome other = Unit {0}

-- an action that takes the meta lock
abbrev pub LocksMeta : Action → Type 0
LocksMeta (actions.Collect living) = Unit {0}
LocksMeta (actions.Begin living) = Unit {0}
LocksMeta (actions.Load generation) = Unit {0}
LocksMeta actions.Lock = Unit {0}
LocksMeta other = ⊥

-- whether the meta lock is kept for a reload after an action that is done, where this says whether it was
abbrev pub keeps_lock : Action → (was_kept : Bool) → Bool
keeps_lock actions.Lock was_kept = true
keeps_lock (actions.Read commit) was_kept = false
keeps_lock actions.Unlock was_kept = false
keeps_lock actions.Reopen was_kept = false
keeps_lock other was_kept = was_kept

-- what an action may spend: the last number of a collection
abbrev pub SpentBy : Collections → Action → Type 0
SpentBy collections (actions.Collect living) = SomePassesEnd (collection_after collections)
SpentBy collections (actions.Begin living) = SomePassesEnd (collection_after collections)
SpentBy collections other = ⊥

-- a reader's reload has noted this commit, whose files are still to be read
abbrev pub IsNoted : Catalog → Commit → Type 0
IsNoted c commit =
    (number : ℕ) × IsSomeAnd (reader_at c number) (λ reader. unread_by reader.reload ≡ Some commit)

-- these names are those that are living
abbrev pub AreLiving : State → (names : List (List ℕ)) → Type 0
AreLiving s names = (n : List ℕ) → has names n ≡ has (living s.catalog) n

-- what a state has to give for an action: the name of a file that is made is that of a living one; what a
-- collection spares is what is living; what is validated is files of segments; and the commit whose files are
-- read is one that a reload has noted
abbrev pub Suits : State → Action → Type 0
Suits s (actions.Make name) = has (living s.catalog) name ≡ true
Suits s (actions.Collect names) = AreLiving s (map string_bytes names.keys)
Suits s (actions.Begin names) = AreLiving s (map string_bytes names.keys)
Suits s (actions.Validate names) = AllByRecursion IsFileOf names.items
Suits s (actions.Read commit) = IsNoted s.catalog commit
Suits s other = Unit {0}
