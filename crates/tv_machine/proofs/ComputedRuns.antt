-- What runs tell and refuse, computed.
use Rattle.std.proofs.Common.{◌≡◌, [], ◌∷◌, refl, codes, ℕ, List, Some, None, false, ◌++◌}
use Rattle.std.specs.Fmt.{digits}
use Rattle.tv_machine.specs.Machine.{report, answers, after, Turn}
use Rattle.tv_machine.specs.Index.{first_state, as_opened, first_catalog, next_after}
use Rattle.hex.specs.Hex.{encode_with}
use Rattle.json.specs.Print.{escape_byte}
use Rattle.tv_machine.proofs.Samples.{first_script, unrefused}
use Rattle.tv_formats.proofs.Samples.{id_a, id_b, id_c}
use Rattle.tv_events.specs.declared.event.Event.TheVariants as events
use Rattle.tv_formats.specs.declared.segment.SegmentComponent.TheVariants.{Postings, Delete, Positions, FastFields, FieldNorms}
use Rattle.tv_formats.specs.declared.segment.LiveSegment.{LiveSegment}
use Rattle.tv_formats.specs.Names.{meta_name}
use Rattle.tv_formats.specs.Collections.{no_collections}
use Rattle.tv_machine.specs.State.{State, no_readers}
use Rattle.tv_events.specs.declared.reload_policy.ReloadPolicy.TheVariants.{Manual}

-- only the current commit is told
pub empty_told : report first_state [] ≡ codes "open 0 0" ∷ []
unfolding digits
empty_told = refl

pub first_told : report first_state first_script ≡
    codes "open 0 0"
    ∷ codes "segment a5c4dfcbdfe645089129e308e26d5523"
    ∷ codes "opened a5c4dfcbdfe645089129e308e26d5523.idx"
    ∷ codes "wrote a5c4dfcbdfe645089129e308e26d5523.idx 9"
    ∷ codes "sealed a5c4dfcbdfe645089129e308e26d5523.idx 9"
    ∷ codes "opened a5c4dfcbdfe645089129e308e26d5523.pos"
    ∷ codes "sealed a5c4dfcbdfe645089129e308e26d5523.pos 0"
    ∷ codes "opened a5c4dfcbdfe645089129e308e26d5523.term"
    ∷ codes "sealed a5c4dfcbdfe645089129e308e26d5523.term 0"
    ∷ codes "opened a5c4dfcbdfe645089129e308e26d5523.store"
    ∷ codes "sealed a5c4dfcbdfe645089129e308e26d5523.store 0"
    ∷ codes "opened a5c4dfcbdfe645089129e308e26d5523.fast"
    ∷ codes "sealed a5c4dfcbdfe645089129e308e26d5523.fast 0"
    ∷ codes "opened a5c4dfcbdfe645089129e308e26d5523.fieldnorm"
    ∷ codes "sealed a5c4dfcbdfe645089129e308e26d5523.fieldnorm 0"
    ∷ codes "docs a5c4dfcbdfe645089129e308e26d5523 3"
    ∷ codes "commit 1 1"
    ∷ codes "managed a5c4dfcbdfe645089129e308e26d5523.fast a5c4dfcbdfe645089129e308e26d5523.fieldnorm a5c4dfcbdfe645089129e308e26d5523.idx a5c4dfcbdfe645089129e308e26d5523.pos a5c4dfcbdfe645089129e308e26d5523.store a5c4dfcbdfe645089129e308e26d5523.term meta.json"
    ∷ []
unfolding encode_with digits
first_told = refl

-- the id of a live segment
pub live_in_use : answers first_state (unrefused (events.Segment id_b ∷ events.Segment id_b ∷ [])) ≡
    codes "segment 00000000000000000000000000000001"
    ∷ codes "refused id-in-use"
    ∷ []
unfolding encode_with digits
live_in_use = refl

-- the id of a segment of the current commit, which isn't live and has no managed file here
pub committed_in_use : answers (record first_state { catalog = record first_catalog { commit = (after first_state first_script).catalog.commit } }) (unrefused (events.Segment id_a ∷ [])) ≡ codes "refused id-in-use" ∷ []
unfolding encode_with digits
committed_in_use = refl

-- an id with which a managed name begins
pub managed_in_use : answers (record first_state { managed = codes "00000000000000000000000000000001.idx" ∷ codes "meta.json" ∷ [] }) (unrefused (events.Segment id_b ∷ [])) ≡ codes "refused id-in-use" ∷ []
unfolding encode_with digits
managed_in_use = refl

-- the number of documents is said once, and of a live segment
pub docs_refused : answers (after first_state first_script) (unrefused (events.Docs id_a 5 ∷ events.Docs id_b 1 ∷ [])) ≡
    codes "refused wrong-docs"
    ∷ codes "refused unknown-segment"
    ∷ []
unfolding encode_with digits
docs_refused = refl

-- a file of a segment that isn't live, one that isn't there, and one that is there already
pub files_refused : answers first_state (unrefused (events.Write id_b Postings (0 ∷ []) ∷ events.Segment id_b ∷ events.Write id_b Postings (0 ∷ []) ∷ events.Open id_b Postings ∷ events.Open id_b Postings ∷ [])) ≡
    codes "refused unknown-segment"
    ∷ codes "segment 00000000000000000000000000000001"
    ∷ codes "refused not-open"
    ∷ codes "opened 00000000000000000000000000000001.idx"
    ∷ codes "refused exists"
    ∷ []
unfolding encode_with digits
files_refused = refl

-- a sealed file isn't open, and is there already
pub sealed_refused : answers (after first_state first_script) (unrefused (events.Write id_a Postings (0 ∷ []) ∷ events.Seal id_a Postings ∷ events.Open id_a Postings ∷ [])) ≡
    codes "refused not-open"
    ∷ codes "refused not-open"
    ∷ codes "refused exists"
    ∷ []
unfolding encode_with digits
sealed_refused = refl

-- a delete file where no documents are deleted
pub no_deletes : answers (after first_state first_script) (unrefused (events.Open id_a Delete ∷ [])) ≡ codes "refused no-deletes" ∷ []
unfolding encode_with digits
no_deletes = refl

-- the state of an index whose commit has the last number
abbrev spent_state : State
spent_state = record {
  catalog = record {
    live = [];
    next = next_after 18446744073709551615;
    commit = record { opstamp = 18446744073709551615; payload = None; segments = [] };
    reading = no_readers;
  };
  files = [];
  managed = meta_name ∷ [];
  collections = no_collections;
}

-- nothing more is committed or deleted there, and other events go on
pub stamps_spent : report spent_state (unrefused (events.Commit None [] ∷ events.Segment id_b ∷ events.Deletes id_b 0 ∷ events.Gc ∷ [])) ≡
    codes "open 18446744073709551615 0"
    ∷ codes "refused stamps-spent"
    ∷ codes "segment 00000000000000000000000000000001"
    ∷ codes "refused stamps-spent"
    ∷ codes "gc deleted failed"
    ∷ []
unfolding encode_with digits
stamps_spent = refl

-- that the numbers are spent is told before an unknown id
pub stamps_first : answers spent_state (unrefused (events.Commit None (id_c ∷ []) ∷ [])) ≡ codes "refused stamps-spent" ∷ []
unfolding encode_with digits
stamps_first = refl

-- the first unknown id in the order of the line is told, though a later one is below it
pub unknown_told : answers first_state (unrefused (events.Commit None (id_c ∷ id_b ∷ []) ∷ [])) ≡ codes "refused unknown-segment 00000000000000000000000000000002" ∷ []
unfolding encode_with digits
unknown_told = refl

-- two segments of a document each, and some files of the one with the lower id
abbrev unsealed_script : List Turn
unsealed_script = unrefused (
    events.Segment id_a
    ∷ events.Docs id_a 1
    ∷ events.Segment id_b
    ∷ events.Docs id_b 1
    ∷ events.Commit None (id_a ∷ id_b ∷ [])
    ∷ events.Open id_b Postings
    ∷ events.Commit None (id_a ∷ id_b ∷ [])
    ∷ events.Seal id_b Postings
    ∷ events.Open id_b Positions
    ∷ events.Seal id_b Positions
    ∷ events.Open id_b FastFields
    ∷ events.Seal id_b FastFields
    ∷ events.Open id_b FieldNorms
    ∷ events.Seal id_b FieldNorms
    ∷ events.Commit None (id_a ∷ id_b ∷ [])
    ∷ [])

-- the first file that isn't sealed is told: by id, though the line has the lower id last, and then in the order of the components
pub unsealed_told : answers first_state unsealed_script ≡
    codes "segment a5c4dfcbdfe645089129e308e26d5523"
    ∷ codes "docs a5c4dfcbdfe645089129e308e26d5523 1"
    ∷ codes "segment 00000000000000000000000000000001"
    ∷ codes "docs 00000000000000000000000000000001 1"
    ∷ codes "refused unsealed 00000000000000000000000000000001.idx"
    ∷ codes "opened 00000000000000000000000000000001.idx"
    ∷ codes "refused unsealed 00000000000000000000000000000001.idx"
    ∷ codes "sealed 00000000000000000000000000000001.idx 0"
    ∷ codes "opened 00000000000000000000000000000001.pos"
    ∷ codes "sealed 00000000000000000000000000000001.pos 0"
    ∷ codes "opened 00000000000000000000000000000001.fast"
    ∷ codes "sealed 00000000000000000000000000000001.fast 0"
    ∷ codes "opened 00000000000000000000000000000001.fieldnorm"
    ∷ codes "sealed 00000000000000000000000000000001.fieldnorm 0"
    ∷ codes "refused unsealed 00000000000000000000000000000001.term"
    ∷ []
unfolding encode_with digits
unsealed_told = refl

-- a segment without documents is left out of a commit, and its files needn't be there
pub empty_left_out : answers (after first_state first_script) (unrefused (events.Segment id_b ∷ events.Commit None (id_b ∷ id_a ∷ []) ∷ events.Commit None (id_b ∷ []) ∷ [])) ≡
    codes "segment 00000000000000000000000000000001"
    ∷ codes "commit 2 1"
    ∷ codes "commit 3 0"
    ∷ []
unfolding encode_with digits
empty_left_out = refl

-- the name whose delete was refused stays managed, and the next collection takes it
pub refused_told : answers first_state (unrefused (events.Segment id_b ∷ events.Open id_b Postings ∷ events.ReleaseSegment id_b ∷ []) ++ (events.Gc, false ∷ []) ∷ unrefused (events.Managed ∷ events.Gc ∷ events.Managed ∷ [])) ≡
    codes "segment 00000000000000000000000000000001"
    ∷ codes "opened 00000000000000000000000000000001.idx"
    ∷ codes "released"
    ∷ codes "gc deleted failed 00000000000000000000000000000001.idx"
    ∷ codes "managed 00000000000000000000000000000001.idx meta.json"
    ∷ codes "gc deleted 00000000000000000000000000000001.idx failed"
    ∷ codes "managed meta.json"
    ∷ []
unfolding encode_with digits
refused_told = refl

-- a file that was left isn't sealed, and its id begins a managed name
pub left_told : answers first_state (unrefused (events.Segment id_b ∷ events.Open id_b Postings ∷ events.ReleaseSegment id_b ∷ events.Segment id_b ∷ events.Gc ∷ events.Segment id_b ∷ events.ReleaseReader 0 ∷ [])) ≡
    codes "segment 00000000000000000000000000000001"
    ∷ codes "opened 00000000000000000000000000000001.idx"
    ∷ codes "released"
    ∷ codes "refused id-in-use"
    ∷ codes "gc deleted 00000000000000000000000000000001.idx failed"
    ∷ codes "segment 00000000000000000000000000000001"
    ∷ codes "refused unknown-reader"
    ∷ []
unfolding encode_with digits
left_told = refl

-- the files of a commit are collected, and its searcher shows them still
pub snapshot_told : answers (after first_state first_script) (unrefused (
    events.Reader Manual
    ∷ events.Searcher 0
    ∷ events.Commit None []
    ∷ events.ReleaseSegment id_a
    ∷ events.Gc
    ∷ events.Bytes 0 0 Postings
    ∷ events.Bytes 0 0 Positions
    ∷ events.Bytes 0 1 Postings
    ∷ events.Show 0
    ∷ events.Reload 0
    ∷ events.Searcher 0
    ∷ events.Show 1
    ∷ events.ReleaseSearcher 0
    ∷ events.Show 0
    ∷ [])) ≡
    codes "reader 0 0 1"
    ∷ codes "searcher 0 0 1"
    ∷ codes "commit 2 0"
    ∷ codes "released"
    ∷ codes "gc deleted a5c4dfcbdfe645089129e308e26d5523.fast a5c4dfcbdfe645089129e308e26d5523.fieldnorm a5c4dfcbdfe645089129e308e26d5523.idx a5c4dfcbdfe645089129e308e26d5523.pos a5c4dfcbdfe645089129e308e26d5523.store a5c4dfcbdfe645089129e308e26d5523.term failed"
    ∷ codes "bytes 0 0 idx 313233343536373839"
    ∷ codes "bytes 0 0 pos -"
    ∷ codes "refused unknown-file"
    ∷ codes "show 0 1 - a5c4dfcbdfe645089129e308e26d5523=3"
    ∷ codes "published 0 1 2"
    ∷ codes "searcher 1 1 2"
    ∷ codes "show 1 2 -"
    ∷ codes "released"
    ∷ codes "refused unknown-searcher"
    ∷ []
unfolding encode_with digits escape_byte
snapshot_told = refl

-- a collection takes no name that another one holds, and the next one takes what was left untried
pub overlapping_told : answers first_state (unrefused (
    events.Segment id_b
    ∷ events.Open id_b Postings
    ∷ events.Segment id_c
    ∷ events.Open id_c Postings
    ∷ events.ReleaseSegment id_b
    ∷ events.GcBegin
    ∷ events.ReleaseSegment id_c
    ∷ events.GcBegin
    ∷ events.GcEnd 0
    ∷ events.GcBegin
    ∷ events.GcStep 2
    ∷ events.GcStep 2
    ∷ events.GcEnd 2
    ∷ events.GcStep 0
    ∷ events.Managed
    ∷ [])) ≡
    codes "segment 00000000000000000000000000000001"
    ∷ codes "opened 00000000000000000000000000000001.idx"
    ∷ codes "segment 00000000000000000000000000000002"
    ∷ codes "opened 00000000000000000000000000000002.idx"
    ∷ codes "released"
    ∷ codes "gc 0 00000000000000000000000000000001.idx"
    ∷ codes "released"
    ∷ codes "gc 1 00000000000000000000000000000002.idx"
    ∷ codes "gc 0 end"
    ∷ codes "gc 2 00000000000000000000000000000001.idx"
    ∷ codes "gc 2 done 00000000000000000000000000000001.idx"
    ∷ codes "refused nothing-left"
    ∷ codes "gc 2 end"
    ∷ codes "refused unknown-collection"
    ∷ codes "managed 00000000000000000000000000000002.idx meta.json"
    ∷ []
unfolding encode_with digits
overlapping_told = refl

-- a name that is done is managed up to the end of its collection, and one that failed stays managed
pub managed_to_the_end : answers first_state (unrefused (events.Segment id_b ∷ events.Open id_b Postings ∷ events.Open id_b Positions ∷ events.ReleaseSegment id_b ∷ events.GcBegin ∷ events.GcStep 0 ∷ []) ++ (events.GcStep 0, false ∷ []) ∷ unrefused (events.Segment id_b ∷ events.Managed ∷ events.GcEnd 0 ∷ events.Managed ∷ [])) ≡
    codes "segment 00000000000000000000000000000001"
    ∷ codes "opened 00000000000000000000000000000001.idx"
    ∷ codes "opened 00000000000000000000000000000001.pos"
    ∷ codes "released"
    ∷ codes "gc 0 00000000000000000000000000000001.idx 00000000000000000000000000000001.pos"
    ∷ codes "gc 0 done 00000000000000000000000000000001.idx"
    ∷ codes "gc 0 failed 00000000000000000000000000000001.pos"
    ∷ codes "refused id-in-use"
    ∷ codes "managed 00000000000000000000000000000001.idx 00000000000000000000000000000001.pos meta.json"
    ∷ codes "gc 0 end"
    ∷ codes "managed 00000000000000000000000000000001.pos meta.json"
    ∷ []
unfolding encode_with digits
managed_to_the_end = refl

-- a stamp that was drawn for deletes alone is drawn again after reopening, once its file is collected
pub reopened_told : answers (after first_state first_script) (unrefused (
    events.Deletes id_a 1
    ∷ events.Open id_a Delete
    ∷ events.Seal id_a Delete
    ∷ events.Reopen
    ∷ events.Deletes id_a 1
    ∷ events.GcBegin
    ∷ events.Deletes id_a 1
    ∷ events.GcStep 0
    ∷ events.GcEnd 0
    ∷ events.Deletes id_a 1
    ∷ events.Commit None (id_a ∷ [])
    ∷ events.Open id_a Delete
    ∷ events.Seal id_a Delete
    ∷ events.Commit None (id_a ∷ [])
    ∷ [])) ≡
    codes "deletes a5c4dfcbdfe645089129e308e26d5523 1 2"
    ∷ codes "opened a5c4dfcbdfe645089129e308e26d5523.2.del"
    ∷ codes "sealed a5c4dfcbdfe645089129e308e26d5523.2.del 0"
    ∷ codes "open 1 1"
    ∷ codes "refused name-in-use"
    ∷ codes "gc 0 a5c4dfcbdfe645089129e308e26d5523.2.del"
    ∷ codes "refused leaving"
    ∷ codes "gc 0 done a5c4dfcbdfe645089129e308e26d5523.2.del"
    ∷ codes "gc 0 end"
    ∷ codes "deletes a5c4dfcbdfe645089129e308e26d5523 1 2"
    ∷ codes "refused unsealed a5c4dfcbdfe645089129e308e26d5523.2.del"
    ∷ codes "opened a5c4dfcbdfe645089129e308e26d5523.2.del"
    ∷ codes "sealed a5c4dfcbdfe645089129e308e26d5523.2.del 0"
    ∷ codes "commit 3 1"
    ∷ []
unfolding encode_with digits
reopened_told = refl

-- no more documents are deleted than there are, and a segment without living ones is left out of a commit
pub deletes_refused : answers (after first_state first_script) (unrefused (events.Deletes id_a 4 ∷ events.Docs id_a 5 ∷ events.Open id_a Delete ∷ events.Deletes id_a 3 ∷ events.Commit None (id_a ∷ []) ∷ [])) ≡
    codes "refused wrong-docs"
    ∷ codes "refused wrong-docs"
    ∷ codes "refused no-deletes"
    ∷ codes "deletes a5c4dfcbdfe645089129e308e26d5523 3 2"
    ∷ codes "commit 3 0"
    ∷ []
unfolding encode_with digits
deletes_refused = refl

-- deletes of a foreign commit may have a number that isn't drawn yet, and it is drawn again once the commit doesn't have it any more
abbrev foreign : List (List ℕ × LiveSegment)
foreign = (id_b, record { max_doc = 3; deletes = Some (record { num_deleted_docs = 0; opstamp = 3 }) }) ∷ []

-- an index that was opened with them
abbrev foreign_start : State
foreign_start = record first_state {
  catalog = as_opened (record first_catalog {
    commit = record { opstamp = 1; payload = None; segments = foreign };
  });
}

pub foreign_told : answers foreign_start (unrefused (events.Commit None [] ∷ events.Deletes id_b 1 ∷ [])) ≡
    codes "commit 2 0"
    ∷ codes "deletes 00000000000000000000000000000001 1 3"
    ∷ []
unfolding encode_with digits
foreign_told = refl
