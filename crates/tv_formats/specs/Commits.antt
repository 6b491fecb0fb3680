-- Commits, and what `meta.json` says.
use Rattle.std.specs.Prelude.{ℕ, ◌≤◌, ◌<◌, ◌^◌, Bool, true, false, if◌then◌else◌, List, [], ◌++◌, map, codes, Option, Some, None, IfSome}
use Rattle.std.specs.List.{flat_map, AllByRecursion}
use Rattle.std.specs.List.Sorted.{IsStrictlySortedBy}
use Rattle.std.specs.Str.{IsUtf8}
use Rattle.serde_json.specs.Data.{Data, unsigned, null, boolean, number, string, array, object, Members, no_members, member}
use Rattle.serde_json.specs.View.{items_of}
use Rattle.serde_json.specs.Written.{compact_text, members_text}
use Rattle.uuid.specs.Text.{hyphenated_text, lower}
use Rattle.tv_formats.specs.declared.segment.DeleteMeta.{DeleteMeta}
use Rattle.tv_formats.specs.declared.segment.LiveSegment.{LiveSegment}
use Rattle.tv_formats.specs.Names.{byte_cmp}
use Rattle.tv_formats.specs.Ids.{IsId}
use Rattle.tv_formats.specs.Segments.{num_deleted, delete_opstamp, all_required}

-- A commit: its number, the payload that its writer added, and its segments by id. (The machine keeps the
-- current one alone; the commits of a run are those of its states.)
pub record Commit : Type 0 where
  pub opstamp : ℕ
  pub payload : Option (List ℕ)
  pub segments : List (List ℕ × LiveSegment)

-- the commit of an index that was just made
abbrev pub first_commit : Commit
first_commit = record { opstamp = 0; payload = None; segments = [] }

-- a segment with an id, whose numbers are within their ranges: no more documents are deleted than there are
pub record IsSegment (e : List ℕ × LiveSegment) : Type 0 where
  pub id : IsId e.0
  pub max_doc : e.1.max_doc < 2 ^ 32
  pub deletes : num_deleted e.1.deletes ≤ e.1.max_doc
  pub opstamp : delete_opstamp e.1.deletes < 2 ^ 64

-- the segments stand in id order, each once, the number is one of 64 bits, and the payload is a text
pub record IsCommit (commit : Commit) : Type 0 where
  pub ordered : IsStrictlySortedBy byte_cmp (map (λ e. e.0) commit.segments)
  pub segments : AllByRecursion IsSegment commit.segments
  pub opstamp : commit.opstamp < 2 ^ 64
  pub payload : IfSome commit.payload IsUtf8

-- how the documents of an index are kept
pub record Settings : Type 0 where
  pub dedicated_thread : Bool
  pub blocksize : ℕ

-- the settings of an index for which none were chosen
abbrev pub default_settings : Settings
default_settings = record { dedicated_thread = true; blocksize = 16384 }

-- what an index keeps of how it is made: its settings, and the text of its schema
pub record IndexForm : Type 0 where
  pub settings : Settings
  pub schema : List ℕ

-- how a new index with this schema is made: with the settings for which none were chosen
abbrev pub new_form : List ℕ → IndexForm
new_form schema = record { settings = default_settings; schema = schema }

-- the settings as JSON; where documents are compressed on a thread of their own, nothing is said of threads
abbrev pub settings_tree : Settings → Data
settings_tree settings =
    let size = member (codes "docstore_blocksize") (number (unsigned settings.blocksize)) no_members in
    object (member (codes "docstore_compression") (string (codes "none"))
    (if settings.dedicated_thread then size
    else member (codes "docstore_compress_dedicated_thread") (boolean false) size))

-- the deletes of a segment as JSON
abbrev pub deletes_tree : Option DeleteMeta → Data
deletes_tree None = null
deletes_tree (Some meta) =
    object (member (codes "num_deleted_docs") (number (unsigned meta.num_deleted_docs))
    (member (codes "opstamp") (number (unsigned meta.opstamp)) no_members))

-- a segment with its id as JSON
abbrev pub segment_tree : List ℕ × LiveSegment → Data
segment_tree e =
    object (member (codes "segment_id") (string (hyphenated_text lower e.0))
    (member (codes "max_doc") (number (unsigned e.1.max_doc))
    (member (codes "deletes") (deletes_tree e.1.deletes) no_members)))

-- the segments as JSON
abbrev pub segments_tree : List (List ℕ × LiveSegment) → Data
segments_tree segments = array (items_of (map segment_tree segments))

-- the payload as a member, which is left out where there is none
abbrev pub payload_members : Option (List ℕ) → Members
payload_members None = no_members
payload_members (Some text) = member (codes "payload") (string text) no_members

-- the members behind the schema: the number and the payload of a commit
abbrev pub last_members : ℕ → Option (List ℕ) → Members
last_members opstamp payload =
    member (codes "opstamp") (number (unsigned opstamp)) (payload_members payload)

-- The printed form of a commit: a JSON object without blanks, of the settings, the segments, the schema,
-- whose text stands in it as it is, and the last members.
abbrev pub printed : Settings → List ℕ → Commit → List ℕ
printed settings schema commit =
    codes "{\"index_settings\":" ++ compact_text (settings_tree settings)
    ++ codes ",\"segments\":" ++ compact_text (segments_tree commit.segments)
    ++ codes ",\"schema\":" ++ schema
    ++ members_text true (last_members commit.opstamp commit.payload)

-- the files that these commits require: those of the first one in the order of its segments, then those
-- of the others
abbrev pub required_by : List Commit → List (List ℕ)
required_by commits = flat_map (λ commit. all_required commit.segments) commits
