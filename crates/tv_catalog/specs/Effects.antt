-- What an event does beside its step: what it reads, which lock it takes, which numbers it gives,
-- and how many bytes it adds.
use Rattle.std.specs.Prelude.{ℕ, ◌≡◌, ◌+◌, ◌++◌, false, true, List, [], ◌∷◌, length, map, Option, Some, None, option_map, option_and_then, if◌then◌else◌, ◌≢◌, ◌⊎◌}
use Rattle.std.specs.List.{list_any}
use Rattle.std.specs.Option.{IsSomeAnd}
use Rattle.tv_formats.specs.Collections.{Collections}
use Rattle.tv_formats.specs.Names.{at}
use Rattle.tv_formats.specs.Segments.{name_of}
use Rattle.tv_machine.specs.Lines.{is_refused}
use Rattle.tv_machine.specs.Living.{is_busy, is_locked}
use Rattle.tv_machine.specs.ReaderEvents.{reload_refusals}
use Rattle.tv_machine.specs.ReloadEvents.{deliver_refusals, snapshot_read, with_notice}
use Rattle.tv_machine.specs.State.{Catalog, Reader, live_at, reader_at}
use Rattle.tv_events.specs.declared.event.Event.{Event}
use Rattle.tv_events.specs.declared.event.Event.TheVariants as events
use Rattle.tv_catalog.specs.Kept.{KeptState}

-- a reader that is there may begin a reload: none of its own is unfinished, and none waits for its files
abbrev pub MayReload : Catalog → ℕ → Type 0
MayReload c number =
    IsSomeAnd (reader_at c number) (λ reader. is_refused (reload_refusals c reader) ≡ false)

-- a reader has a notice, and notices may be served
abbrev pub MayDeliver : Catalog → Type 0
MayDeliver c =
    (is_refused (deliver_refusals c) ≡ false) × (list_any (λ e. e.1.has_notice) c.reading.readers ≡ true)

-- an event that loads `meta.json`, and reads the files of its commit: where nothing refuses it, a new reader, a
-- reload at once, and one that serves notices, where there are some
abbrev pub LoadsCommit : Catalog → Event → Type 0
LoadsCommit c (events.Reader policy) = is_busy c ≡ false
LoadsCommit c (events.Reload number) = MayReload c number
LoadsCommit c events.Deliver = MayDeliver c
LoadsCommit c other = ⊥

-- an event that reads the files of a commit: one that loads it, and a step of a reload that has noted it
abbrev pub ReadsFiles : Catalog → Event → Type 0
ReadsFiles c (events.ReloadOpen number) =
    IsSomeAnd (reader_at c number) (λ reader. is_locked reader ≡ true)
ReadsFiles c other = LoadsCommit c other

-- an event that takes the meta lock: where nothing refuses it, one that begins a collection, a new reader, a
-- reload, and one that serves notices, where there are some
abbrev pub TakesMetaLock : Catalog → Event → Type 0
TakesMetaLock c events.Gc = is_busy c ≡ false
TakesMetaLock c events.GcBegin = is_busy c ≡ false
TakesMetaLock c (events.Reader policy) = is_busy c ≡ false
TakesMetaLock c (events.Reload number) = MayReload c number
TakesMetaLock c (events.ReloadLock number) = MayReload c number
TakesMetaLock c events.Deliver = MayDeliver c
TakesMetaLock c other = ⊥

-- the number after that which this function gives, where there is something that has it
abbrev pub after_each : {X : Type 0} → (X → ℕ) → Option X → List ℕ
after_each number None = []
after_each number (Some x) = (number x + 1) ∷ []

-- the number after that of a new searcher; none where its reader isn't there
abbrev pub searcher_after : Catalog → ℕ → List ℕ
searcher_after c number = after_each (λ reader. c.reading.next_searcher) (reader_at c number)

-- the number after that of the next collection
abbrev pub collection_after : Collections → List ℕ
collection_after collections = (collections.next + 1) ∷ []

-- the number after that of the snapshot which a reader shows next, of what was read for it
abbrev pub published_after : Catalog → ℕ → List ℕ
published_after c number = after_each (λ shown. shown.generation)
    (option_and_then (λ reader. snapshot_read reader.next reader.reload) (reader_at c number))

-- the number after that of the snapshot which a reader shows next, where it may begin a reload
abbrev pub reload_after : Catalog → Option Reader → List ℕ
reload_after c None = []
reload_after c (Some reader) =
    if is_refused (reload_refusals c reader) then [] else (reader.next + 1) ∷ []

-- the numbers after those of the snapshots which readers with a notice show next, where notices may be served
abbrev pub delivered_after : Catalog → List ℕ
delivered_after c =
    if is_refused (deliver_refusals c) then [] else map (λ e. e.1.next + 1) (with_notice c)

-- these numbers, but none while a reload waits for its files
abbrev pub unless_busy : Catalog → List ℕ → List ℕ
unless_busy c numbers = if is_busy c then [] else numbers

-- The numbers after those that an event gives: to a new reader, to the next snapshot of a reader, to a new
-- searcher, to a collection, of which `gc` gives its own back.
abbrev pub numbers_after : KeptState → Event → List ℕ
numbers_after kept (events.Reader policy) =
    unless_busy kept.catalog ((kept.catalog.reading.next_reader + 1) ∷ [])
numbers_after kept (events.Reload number) =
    reload_after kept.catalog (reader_at kept.catalog number)
numbers_after kept (events.ReloadPublish number) = published_after kept.catalog number
numbers_after kept events.Deliver = delivered_after kept.catalog
numbers_after kept (events.Searcher number) = searcher_after kept.catalog number
numbers_after kept events.Gc = unless_busy kept.catalog (collection_after kept.collections)
numbers_after kept events.GcBegin = unless_busy kept.catalog (collection_after kept.collections)
numbers_after kept other = []

-- how long the open file is after an event that writes to it
abbrev pub length_after : KeptState → Event → Option ℕ
length_after kept (events.Write id component bytes) =
    option_and_then (λ segment. option_map (λ body. length (body ++ bytes))
    (at kept.open_files (name_of id segment.deletes component))) (live_at kept.catalog id)
length_after kept other = None

-- how many bytes an event adds to a file, or how many numbers of readers, searchers, collections, and
-- snapshots of one reader it takes
abbrev pub written_by : Event → ℕ
written_by (events.Write id component bytes) = length bytes
written_by (events.Reader policy) = 1
written_by (events.Reload number) = 1
written_by (events.ReloadPublish number) = 1
written_by events.Deliver = 1
written_by (events.Searcher number) = 1
written_by events.GcBegin = 1
written_by other = 0

-- every event but a `write` of no bytes to an open file
abbrev pub WritesByStep : KeptState → Event → Type 0
WritesByStep kept (events.Write id component bytes) =
    (bytes ≢ []) ⊎ (length_after kept (events.Write id component bytes) ≡ None)
WritesByStep kept other = Unit {0}
