-- Reading the words of a line.
use Rattle.std.specs.Prelude.{ℕ, ◌^◌, Bool, true, false, List, [], ◌∷◌, codes, Option, Some, None, if◌then◌else◌}
use Rattle.std.specs.Str.{is_utf8}
use Rattle.tv_events.specs.declared.event.Event.{Event}
use Rattle.tv_events.specs.declared.event.Event.TheVariants as events
use Rattle.tv_events.specs.Script.{WordKind, Word, Id, Component, Bytes, SmallNumber, Number, Payload, Policy, WordValue}
use Rattle.tv_formats.specs.Ids.{are_distinct}
use Rattle.tv_formats.specs.Framing.{◌>>=◌}
use Rattle.tv_formats.specs.Names.{is}
use Rattle.tv_script.specs.Fields.{id_at, number_at, component_at, bytes_at, payload_at, policy_at}

-- a word that is a text
abbrev pub text_in : List ℕ → Option (List ℕ)
text_in word = if is_utf8 word then Some word else None

-- what a word stands for that is read as one of this kind; none where it isn't one
abbrev pub value_at : (kind : WordKind) → List ℕ → Option (WordValue kind)
value_at (Word text) word = if is word text then Some tt else None
value_at Id word = id_at word
value_at Component word = component_at word
value_at Bytes word = bytes_at word
value_at SmallNumber word = number_at (2 ^ 32) word
value_at Number word = number_at (2 ^ 64) word
value_at Payload word = payload_at word
value_at Policy word = policy_at word

-- a function from what words of these kinds stand for to an event
abbrev pub Makes : List WordKind → Type 0
Makes [] = Event
Makes (kind ∷ kinds) = WordValue kind → Makes kinds

-- there are as many words as kinds
abbrev pub are_as_many : List WordKind → List (List ℕ) → Bool
are_as_many [] [] = true
are_as_many [] (word ∷ words) = false
are_as_many (kind ∷ kinds) [] = false
are_as_many (kind ∷ kinds) (word ∷ words) = are_as_many kinds words

-- the event that the first words make, one word for each kind; none where there are fewer words
abbrev pub event_of : (kinds : List WordKind) → Makes kinds → List (List ℕ) → Option Event
event_of [] event words = Some event
event_of (kind ∷ kinds) make [] = None
event_of (kind ∷ kinds) make (word ∷ words) = do
  value ← value_at kind word
  event_of kinds (make value) words

-- the event that these words make, one word for each kind; none where there are more or fewer words
abbrev pub read : (kinds : List WordKind) → Makes kinds → List (List ℕ) → Option Event
read kinds make words = if are_as_many kinds words then event_of kinds make words else None

-- the ids that the words spell, where each of them spells one
abbrev pub ids_in : List (List ℕ) → Option (List (List ℕ))
ids_in [] = Some []
ids_in (word ∷ words) = do
  id ← id_at word
  ids ← ids_in words
  Some (id ∷ ids)

-- a commit of some ids with this payload, where none of them stands twice
abbrev pub commit_event : Option (List ℕ) → List (List ℕ) → Option Event
commit_event payload ids = if are_distinct ids then Some (events.Commit payload ids) else None

-- the words after `commit`: a payload and ids, none of them twice
abbrev pub commit_in : List (List ℕ) → Option Event
commit_in [] = None
commit_in (word ∷ words) = do
  payload ← payload_at word
  ids ← ids_in words
  commit_event payload ids

-- the release of such a thing, by the words after its kind
abbrev pub released_by : List ℕ → List (List ℕ) → Option Event
released_by kind words =
    if is kind (codes "segment") then read (Id ∷ []) events.ReleaseSegment words
    else if is kind (codes "reader") then read (Number ∷ []) events.ReleaseReader words
    else if is kind (codes "searcher") then read (Number ∷ []) events.ReleaseSearcher words
    else None

-- the release that the words after `release` stand for
abbrev pub release_in : List (List ℕ) → Option Event
release_in [] = None
release_in (kind ∷ words) = released_by kind words

-- the event of a keyword and of the words after it, where it is about what readers show
abbrev pub reload_event_by : List ℕ → List (List ℕ) → Option Event
reload_event_by keyword words =
    if is keyword (codes "reload") then read (Number ∷ []) events.Reload words
    else if is keyword (codes "reload-lock") then read (Number ∷ []) events.ReloadLock words
    else if is keyword (codes "reload-open") then read (Number ∷ []) events.ReloadOpen words
    else if is keyword (codes "reload-publish") then read (Number ∷ []) events.ReloadPublish words
    else if is keyword (codes "deliver") then read [] events.Deliver words
    else None

-- the event of a keyword and of the words after it: one about a reader or a searcher, or a release
abbrev pub reader_event_by : List ℕ → List (List ℕ) → Option Event
reader_event_by keyword words =
    if is keyword (codes "reader") then read (Policy ∷ []) events.Reader words
    else if is keyword (codes "searcher") then read (Number ∷ []) events.Searcher words
    else if is keyword (codes "show") then read (Number ∷ []) events.Show words
    else if is keyword (codes "bytes") then
    read (Number ∷ SmallNumber ∷ Component ∷ []) events.Bytes words
    else if is keyword (codes "release") then release_in words
    else reload_event_by keyword words

-- the event of a keyword and of the words after it, where it is about a collection, the whole index, a
-- reader or a searcher, or is a release
abbrev pub index_event_by : List ℕ → List (List ℕ) → Option Event
index_event_by keyword words =
    if is keyword (codes "gc") then read [] events.Gc words
    else if is keyword (codes "gc-begin") then read [] events.GcBegin words
    else if is keyword (codes "gc-step") then read (Number ∷ []) events.GcStep words
    else if is keyword (codes "gc-end") then read (Number ∷ []) events.GcEnd words
    else if is keyword (codes "managed") then read [] events.Managed words
    else if is keyword (codes "validate") then read [] events.Validate words
    else if is keyword (codes "reopen") then read [] events.Reopen words
    else reader_event_by keyword words

-- the event of a keyword and of the words after it, any but one about a segment, a write and a commit
abbrev pub file_event_by : List ℕ → List (List ℕ) → Option Event
file_event_by keyword words =
    if is keyword (codes "open") then read (Id ∷ Component ∷ []) events.Open words
    else if is keyword (codes "seal") then read (Id ∷ Component ∷ []) events.Seal words
    else index_event_by keyword words

-- the event of a keyword and of the words after it, any but a write and a commit
abbrev pub segment_event_by : List ℕ → List (List ℕ) → Option Event
segment_event_by keyword words =
    if is keyword (codes "segment") then read (Id ∷ []) events.Segment words
    else if is keyword (codes "docs") then read (Id ∷ SmallNumber ∷ []) events.Docs words
    else if is keyword (codes "deletes") then read (Id ∷ SmallNumber ∷ []) events.Deletes words
    else file_event_by keyword words

-- the event of a keyword and of the words after it
abbrev pub event_by : List ℕ → List (List ℕ) → Option Event
event_by keyword words =
    if is keyword (codes "write") then read (Id ∷ Component ∷ Bytes ∷ []) events.Write words
    else if is keyword (codes "commit") then commit_in words
    else segment_event_by keyword words

-- the event that these words stand for
abbrev pub event_in : List (List ℕ) → Option Event
event_in [] = None
event_in (word ∷ words) = do
  keyword ← text_in word
  event_by keyword words
