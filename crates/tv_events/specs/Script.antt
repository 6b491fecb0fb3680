-- The lines of a script, and the events that they are.
use Rattle.std.specs.Prelude.{ℕ, ◌≡◌, ◌<◌, ◌≤◌, ◌^◌, ◌==◌, true, List, [], ◌∷◌, length, map, codes, Option, Some, None, Ok, IfSome, IsUtf8, if◌then◌else◌}
use Rattle.std.specs.Fmt.{decimal}
use Rattle.std.specs.List.{join_with_byte, onto_first, AllByRecursion}
use Rattle.hex.specs.Hex.{encode_lower, decode_of}
use Rattle.tv_events.specs.declared.event.Event.{Event}
use Rattle.tv_events.specs.declared.event.Event.TheVariants as events
use Rattle.tv_events.specs.declared.reload_policy.ReloadPolicy.TheVariants.{Manual, OnCommitWithDelay}
use Rattle.tv_formats.specs.Ids.{IsId, are_distinct}
use Rattle.tv_formats.specs.Segments.{extension}
use Rattle.tv_formats.specs.declared.segment.SegmentComponent.{SegmentComponent}
use Rattle.tv_events.specs.declared.reload_policy.ReloadPolicy.{ReloadPolicy}

-- the most bytes that a line has, its line feed left out
abbrev pub line_limit : ℕ
line_limit = 1048576

-- each line ends in a line feed, which the last one may lack
abbrev pub lines_of : List ℕ → List (List ℕ)
lines_of [] = []
lines_of (b ∷ bytes) = if b == 10 then [] ∷ lines_of bytes else onto_first b (lines_of bytes)

-- the kinds of words that a line has
pub data WordKind : Type 0 where
  -- this word itself
  Word : List ℕ → WordKind
  -- an id
  Id : WordKind
  -- a component
  Component : WordKind
  -- some bytes
  Bytes : WordKind
  -- a number of 32 bits
  SmallNumber : WordKind
  -- a number of 64 bits
  Number : WordKind
  -- a payload, or none
  Payload : WordKind
  -- when a reader reloads
  Policy : WordKind

-- what a word of this kind stands for
abbrev pub WordValue : WordKind → Type 0
WordValue (Word text) = Unit {0}
WordValue Id = List ℕ
WordValue Component = SegmentComponent
WordValue Bytes = List ℕ
WordValue SmallNumber = ℕ
WordValue Number = ℕ
WordValue Payload = Option (List ℕ)
WordValue Policy = ReloadPolicy

-- a word of a line: its kind, and what it stands for
abbrev pub LineWord : Type 0
LineWord = (kind : WordKind) × WordValue kind

-- a word that stands for itself
abbrev pub word : List ℕ → LineWord
word text = (Word text, tt)

-- the words of the event's line
abbrev pub line_of : Event → List LineWord
line_of (events.Segment id) = word (codes "segment") ∷ (Id, id) ∷ []
line_of (events.Open id component) = word (codes "open") ∷ (Id, id) ∷ (Component, component) ∷ []
line_of (events.Write id component bytes) =
    word (codes "write") ∷ (Id, id) ∷ (Component, component) ∷ (Bytes, bytes) ∷ []
line_of (events.Seal id component) = word (codes "seal") ∷ (Id, id) ∷ (Component, component) ∷ []
line_of (events.Docs id n) = word (codes "docs") ∷ (Id, id) ∷ (SmallNumber, n) ∷ []
line_of (events.Deletes id n) = word (codes "deletes") ∷ (Id, id) ∷ (SmallNumber, n) ∷ []
line_of (events.Commit payload ids) = word (codes "commit") ∷ (Payload, payload) ∷ map (λ id. (Id, id)) ids
line_of events.Gc = word (codes "gc") ∷ []
line_of events.GcBegin = word (codes "gc-begin") ∷ []
line_of (events.GcStep number) = word (codes "gc-step") ∷ (Number, number) ∷ []
line_of (events.GcEnd number) = word (codes "gc-end") ∷ (Number, number) ∷ []
line_of (events.Reader policy) = word (codes "reader") ∷ (Policy, policy) ∷ []
line_of (events.Reload number) = word (codes "reload") ∷ (Number, number) ∷ []
line_of (events.ReloadLock number) = word (codes "reload-lock") ∷ (Number, number) ∷ []
line_of (events.ReloadOpen number) = word (codes "reload-open") ∷ (Number, number) ∷ []
line_of (events.ReloadPublish number) = word (codes "reload-publish") ∷ (Number, number) ∷ []
line_of events.Deliver = word (codes "deliver") ∷ []
line_of (events.Searcher number) = word (codes "searcher") ∷ (Number, number) ∷ []
line_of (events.Show number) = word (codes "show") ∷ (Number, number) ∷ []
line_of (events.Bytes number ord component) =
    word (codes "bytes") ∷ (Number, number) ∷ (SmallNumber, ord) ∷ (Component, component) ∷ []
line_of (events.ReleaseSegment id) = word (codes "release") ∷ word (codes "segment") ∷ (Id, id) ∷ []
line_of (events.ReleaseReader number) = word (codes "release") ∷ word (codes "reader") ∷ (Number, number) ∷ []
line_of (events.ReleaseSearcher number) =
    word (codes "release") ∷ word (codes "searcher") ∷ (Number, number) ∷ []
line_of events.Managed = word (codes "managed") ∷ []
line_of events.Validate = word (codes "validate") ∷ []
line_of events.Reopen = word (codes "reopen") ∷ []

-- what a word stands for is within its range
abbrev pub IsWithin : (kind : WordKind) → WordValue kind → Type 0
IsWithin (Word text) value = Unit {0}
IsWithin Id id = IsId id
IsWithin Component component = Unit {0}
IsWithin Bytes bytes = 0 < length bytes
IsWithin SmallNumber number = number < 2 ^ 32
IsWithin Number number = number < 2 ^ 64
IsWithin Payload payload = IfSome payload IsUtf8
IsWithin Policy policy = Unit {0}

-- a commit names no segment twice
abbrev pub NamesEachOnce : Event → Type 0
NamesEachOnce (events.Commit payload ids) = are_distinct ids ≡ true
NamesEachOnce other = Unit {0}

-- what the words of the event's line stand for is within its range, and no id stands twice in the line
abbrev pub Fits : Event → Type 0
Fits event =
    AllByRecursion (λ spelled. IsWithin spelled.0 spelled.1) (line_of event) × NamesEachOnce event

-- the word spells a payload: `-` where there is none, else `+` and the digits of its bytes, of either case
abbrev pub SpellsPayload : Option (List ℕ) → List ℕ → Type 0
SpellsPayload None word = word ≡ codes "-"
SpellsPayload (Some text) word = (digits : List ℕ) × (decode_of digits ≡ Ok text) × (word ≡ 43 ∷ digits)

-- the word for when a reader reloads
abbrev pub policy_word : ReloadPolicy → List ℕ
policy_word Manual = codes "manual"
policy_word OnCommitWithDelay = codes "on-commit"

-- the word spells this; bytes may be spelled with digits of either case
abbrev pub Spells : (kind : WordKind) → WordValue kind → List ℕ → Type 0
Spells (Word text) value word = word ≡ text
Spells Id id word = word ≡ encode_lower id
Spells Component component word = word ≡ extension component
Spells Bytes bytes word = decode_of word ≡ Ok bytes
Spells SmallNumber number word = word ≡ decimal number
Spells Number number word = word ≡ decimal number
Spells Payload payload word = SpellsPayload payload word
Spells Policy policy word = word ≡ policy_word policy

-- each word spells what stands at its place
abbrev pub AllSpell : List LineWord → List (List ℕ) → Type 0
AllSpell [] [] = Unit {0}
AllSpell (first ∷ line) (word ∷ words) = Spells first.0 first.1 word × AllSpell line words
AllSpell [] (word ∷ words) = ⊥
AllSpell (first ∷ line) [] = ⊥

-- the text is a line of the event: its words, one space apart
pub record IsLine (text : List ℕ) (event : Event) : Type 0 where
  pub short : length text ≤ line_limit
  pub fits : Fits event
  pub words : List (List ℕ)
  pub spell : AllSpell (line_of event) words
  pub joined : text ≡ join_with_byte 32 words

-- each text is the line of the event at its place
abbrev pub AreLines : List (List ℕ) → List Event → Type 0
AreLines [] [] = Unit {0}
AreLines (text ∷ texts) (event ∷ events) = IsLine text event × AreLines texts events
AreLines [] (event ∷ events) = ⊥
AreLines (text ∷ texts) [] = ⊥
