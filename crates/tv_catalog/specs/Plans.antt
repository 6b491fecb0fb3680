-- What planning an event promises, by what is known without asking the device.
use Rattle.std.specs.Prelude.{ℕ, ◌≡◌, ◌≤◌, ◌<◌, ◌+◌, ◌⊎◌, ◌^◌, Bool, false, true, List, length, map, string_bytes, Some, None, IsSome, vec_capacity}
use Rattle.std.specs.List.{AllByRecursion}
use Rattle.tv_base.specs.declared.error.TantivyError.{TantivyError}
use Rattle.tv_base.specs.declared.error.TantivyError.TheVariants as errors
use Rattle.tv_formats.specs.Collections.{collection_at}
use Rattle.tv_formats.specs.Commits.{Commit, IsSegment}
use Rattle.tv_formats.specs.Files.{has_no_feed}
use Rattle.tv_formats.specs.Names.{at, has, is_plain, meta_name}
use Rattle.tv_formats.specs.Segments.{all_required}
use Rattle.tv_machine.specs.CommitEvents.{last_stamp}
use Rattle.tv_machine.specs.FileEvents.{written_to}
use Rattle.tv_machine.specs.Index.{IsFileOf}
use Rattle.tv_machine.specs.Machine.{step}
use Rattle.tv_machine.specs.Living.{is_busy}
use Rattle.tv_machine.specs.Readable.{read_by}
use Rattle.tv_machine.specs.State.{Catalog, Reader, State, file_at, live_at, reader_at}
use Rattle.tv_events.specs.declared.event.Event.{Event}
use Rattle.tv_events.specs.declared.event.Event.TheVariants as events
use Rattle.tv_catalog.specs.Actions.{AppendsSome, MayGive, OnlyKeeps, SavesNoCommit, SpentBy, Suits, LocksMeta, added_by, after, catalog_after, changed, given_by, keeps_lock, line_of, loaded_by, step_by, numbers_by}
use Rattle.tv_catalog.specs.Effects.{WritesByStep, LoadsCommit, ReadsFiles, TakesMetaLock, written_by}
use Rattle.tv_catalog.specs.Kept.{HasUntried, KeptState}
use Rattle.tv_catalog.specs.Committing.{PrintsNext}
use Rattle.tv_catalog.specs.Exhausted.{IsExhausted}
use Rattle.tv_snapshots.specs.Reloads.{CanServe}
use Rattle.tv_catalog.specs.declared.action.Action.{Action}
use Rattle.tv_catalog.specs.declared.action.Action.TheVariants as actions
use Rattle.tv_catalog.specs.declared.action.Change.{Change}
use Rattle.tv_catalog.specs.declared.action.Change.TheVariants as changes
use Rattle.tv_catalog.specs.declared.action.Reply.{Reply}
use Rattle.tv_catalog.specs.declared.plan.Planned.{Planned}

-- what is known of a state without asking the device
pub record InMemory (kept : KeptState) (s : State) : Type 0 where
  pub catalog : kept.catalog ≡ s.catalog
  pub managed : kept.managed ≡ s.managed
  pub collections : kept.collections ≡ s.collections
  pub segments : AllByRecursion IsSegment s.catalog.live
  pub committed : AllByRecursion IsSegment s.catalog.commit.segments
  pub written : (n : List ℕ) → IsFileOf n → at kept.open_files n ≡ written_to (file_at s n)

-- a name is that of a segment's file
pub record IsSegmentFile (name : List ℕ) : Type 0 where
  pub plain : is_plain name ≡ true
  pub file : IsFileOf name

-- a file is open, and this many bytes more fit into it
abbrev pub TakesMore : List (List ℕ × List ℕ) → List ℕ → ℕ → Type 0
TakesMore open_files name more =
    IsSome (at open_files name)
    × ((body : List ℕ) → at open_files name ≡ Some body → length body + more < 2 ^ 64)

-- What a save wants: this text is the commit's, which is sound and has the next number; these are the files
-- that it requires; and live segments require them.
pub record SavesNext (kept : KeptState) (commit : Commit) (text : List ℕ) (required : List (List ℕ))
    : Type 0 where
  pub prints : PrintsNext kept commit text
  pub next : kept.catalog.next < last_stamp
  pub files : required ≡ all_required commit.segments
  pub each : AllByRecursion IsFileOf required
  pub live : (n : List ℕ) → has (all_required commit.segments) n ≡ true
      → has (all_required kept.catalog.live) n ≡ true

-- What an action wants that is performed: the name of a file that is made, written or sealed is one of a
-- segment's; a file that is written or sealed is open; a save is one of the next commit; a collection
-- spares `meta.json`; one that tries a name has one; and one that ends is unfinished. The meta lock is kept for
-- no reload where it is taken for one, and for one where it is given back.
abbrev pub CanPerform : KeptState → Action → Type 0
CanPerform kept (actions.Make name) = IsSegmentFile name
CanPerform kept (actions.Append name bytes) =
    IsSegmentFile name × TakesMore kept.open_files name (length bytes.now)
CanPerform kept (actions.Seal name) = IsSegmentFile name × IsSome (at kept.open_files name)
CanPerform kept (actions.Save commit text required) = SavesNext kept commit text.items required.items
CanPerform kept (actions.Collect living) = has (map string_bytes living.keys) meta_name ≡ true
CanPerform kept (actions.Begin living) = has (map string_bytes living.keys) meta_name ≡ true
CanPerform kept (actions.Try number) = HasUntried kept.collections number
CanPerform kept (actions.End number) = IsSome (collection_at kept.collections number)
CanPerform kept actions.Lock = is_busy kept.catalog ≡ false
CanPerform kept (actions.Read commit) = is_busy kept.catalog ≡ true
CanPerform kept actions.Unlock = is_busy kept.catalog ≡ true
CanPerform kept other = Unit {0}

-- a change that a catalog allows
abbrev pub CanChange : Catalog → Change → Type 0
CanChange c changes.Nothing = Unit {0}
CanChange c (changes.Deletes id segment n) =
    (c.next < last_stamp) × (n ≤ segment.max_doc) × (live_at c id ≡ Some segment)
CanChange c (changes.Release id) = Unit {0}
CanChange c (changes.Reopen segments) = segments.entries ≡ c.commit.segments
CanChange c (changes.AddReader policy) = c.reading.next_reader < last_stamp
CanChange c (changes.Publish number) =
    (reader : Reader) × (reader_at c number ≡ Some reader) × (reader.next < last_stamp)
CanChange c (changes.Note number commit) = (is_busy c ≡ false) × IsSome (reader_at c number)
CanChange c (changes.Keep number) = IsSome (reader_at c number)
CanChange c changes.Deliver = CanServe c.reading.readers
CanChange c (changes.EndReader number) = Unit {0}

-- a change that takes no memory: each by which a reload begins or ends that holds the meta lock
abbrev pub TakesNoMemory : Change → Type 0
TakesNoMemory (changes.Note number commit) = Unit {0}
TakesNoMemory (changes.Keep number) = Unit {0}
TakesNoMemory (changes.EndReader number) = Unit {0}
TakesNoMemory (changes.Reopen segments) = Unit {0}
TakesNoMemory other = ⊥

-- an action loads a commit where the event does, which is the current one, or reads the files of one where the
-- event does; by any other action the event reads no commit's files
abbrev pub LoadsFor : KeptState → Event → Action → Type 0
LoadsFor kept event (actions.Load generation) =
    LoadsCommit kept.catalog event
    × ((s : State) → InMemory kept s → read_by s event ≡ Some s.catalog.commit)
LoadsFor kept event (actions.Read commit) =
    ReadsFiles kept.catalog event
    × ((s : State) → InMemory kept s → read_by s event ≡ Some commit)
LoadsFor kept event other = (s : State) → InMemory kept s → read_by s event ≡ None

-- an action beside which an event may change what is known: one that leaves what is read, and not of a
-- commit
abbrev pub ChangesBeside : Event → Action → Type 0
ChangesBeside (events.Commit payload ids) action = ⊥
ChangesBeside other action = OnlyKeeps action

-- an action that saves no commit, but for an event that commits
abbrev pub SavesOnlyAt : Event → Action → Type 0
SavesOnlyAt (events.Commit payload ids) action = Unit {0}
SavesOnlyAt other action = SavesNoCommit action

-- An event is planned: from each state that is kept in memory, performing the action and making the change
-- is the event's step, and the state suits the action; the action can be performed, and the change made,
-- which goes with actions alone that leave what is read, and with no commit; there is room for each line
-- that may be told of it; it adds no more bytes and takes no more numbers than the event does, and it adds
-- none to an open file only where the event does so; it takes the lock and loads a commit as the event does,
-- and saves one only for an event that commits; the action keeps the lock for a reload exactly where one waits
-- for its files afterwards, and one that takes or gives it back goes with a change that takes no memory; and no
-- number and no length passes 64 bits but what the action may spend.
pub record Plans (kept : KeptState) (event : Event) (planned : Planned) : Type 0 where
  pub steps : (s : State) → InMemory kept s → (deletes : List Bool)
      → step s event deletes ≡ step_by s planned.action planned.change planned.line.items deletes
  pub suits : (s : State) → InMemory kept s → Suits s planned.action
  pub ready : CanPerform kept planned.action
  pub change : CanChange kept.catalog planned.change
  pub segments : (s : State) → InMemory kept s → (reply : Reply)
      → AllByRecursion IsSegment (changed (after s planned.action reply) planned.change reply).catalog.live
  pub beside : (planned.change ≡ changes.Nothing) ⊎ ChangesBeside event planned.action
  pub feed : has_no_feed planned.line.items ≡ true
  pub room : (reply : Reply) → MayGive kept.collections kept.managed planned.action reply
      → length (line_of planned.line.items reply) ≤ vec_capacity planned.line
  pub adds : added_by planned.action ≤ written_by event
  pub numbers : given_by planned.action + numbers_by planned.change ≤ written_by event
  pub changes : WritesByStep kept event → AppendsSome planned.action
  pub locks : LocksMeta planned.action → TakesMetaLock kept.catalog event
  pub unlocked : TakesMetaLock kept.catalog event → LocksMeta planned.action
  pub loads : LoadsFor kept event planned.action
  pub keeps : (reply : Reply) → MayGive kept.collections kept.managed planned.action reply
      → is_busy (catalog_after kept.catalog planned.change (loaded_by reply))
      ≡ keeps_lock planned.action (is_busy kept.catalog)
  pub sure : (keeps_lock planned.action (is_busy kept.catalog) ≡ is_busy kept.catalog)
      ⊎ TakesNoMemory planned.change
  pub saves : SavesOnlyAt event planned.action
  pub fits : IsExhausted kept event → SpentBy kept.collections planned.action
  pub spends : SpentBy kept.collections planned.action → IsExhausted kept event

-- planning fails for want of memory, or where a number or a length would pass 64 bits
abbrev pub PlanCause : KeptState → Event → TantivyError → Type 0
PlanCause kept event errors.Memory = Unit {0}
PlanCause kept event errors.Exhausted = IsExhausted kept event
PlanCause kept event other = ⊥
