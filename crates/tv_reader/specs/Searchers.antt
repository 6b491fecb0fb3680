-- What a searcher shows of a commit.
use Rattle.std.specs.Prelude.{ℕ, ◌≡◌, ◌⊎◌, List, [], ◌∷◌, map, sum_by, codes, Option, Some, None, option_map, slice_get, string_bytes}
use Rattle.std.specs.BTreeMap.{insert_entry}
use Rattle.tv_base.specs.declared.address.DocAddress.{DocAddress}
use Rattle.tv_base.specs.declared.error.TantivyError.{TantivyError}
use Rattle.tv_base.specs.declared.error.TantivyError.TheVariants as errors
use Rattle.tv_formats.specs.declared.segment.SegmentComponent.TheVariants.{Store}
use Rattle.tv_formats.specs.Commits.{Commit}
use Rattle.tv_formats.specs.Names.{byte_cmp}
use Rattle.tv_formats.specs.Segments.{name_of, num_docs}
use Rattle.tv_framing.specs.Segments.{SegmentSpace}
use Rattle.tv_machine.specs.State.{Snapshot}
use Rattle.tv_metas.specs.Metas.{text_of}
use Rattle.tv_metas.specs.Schemas.{HasNames}
use Rattle.tv_metas.specs.declared.index_meta.UntrackedIndexMeta.{UntrackedIndexMeta}
use Rattle.tv_reader.specs.Bodies.{shown_entry}
use Rattle.tv_reader.specs.Segments.{SegmentShown, component_body}
use Rattle.tv_reader.specs.Spaces.{HasNoSpace, IsSpaceOf}
use Rattle.tv_reader.specs.StoreBodies.{IsNotStoreBody, IsStoreBody, not_store}

-- which segments a searcher shows, by their ids, each with the number of its delete if there was one; and
-- under which number of its reader
pub record Generation : Type 0 where
  pub id : ℕ
  pub segments : List (List ℕ × Option ℕ)

-- the number of a segment's delete, if there was one
abbrev pub delete_stamp : SegmentShown → Option ℕ
delete_stamp shown = option_map (λ meta. meta.opstamp) shown.segment.deletes

-- segments with the numbers of their deletes, put one after the other to those that were found before
abbrev pub put_stamps : (found : List (List ℕ × Option ℕ)) → List SegmentShown
    → List (List ℕ × Option ℕ)
put_stamps found [] = found
put_stamps found (shown ∷ segments) =
    put_stamps (insert_entry byte_cmp found shown.id (delete_stamp shown)) segments

-- the generation of a searcher with these segments
abbrev pub generation_of : ℕ → List SegmentShown → Generation
generation_of id segments = record { id = id; segments = put_stamps [] segments }

-- what is shown of a commit: the schema, the number, what its writer added, and its segments with the bodies
-- of their files, in the order of the commit
pub record CommitShown : Type 0 where
  pub generation : Generation
  pub schema : List ℕ
  pub opstamp : ℕ
  pub payload : Option (List ℕ)
  pub segments : List SegmentShown

-- a commit with the bodies of its files, as they were read
pub record CommitRead : Type 0 where
  pub schema : List ℕ
  pub opstamp : ℕ
  pub payload : Option (List ℕ)
  pub segments : List SegmentShown

-- a commit as `meta.json` had it, with the segments that were read
abbrev pub read_as : UntrackedIndexMeta → List SegmentShown → CommitRead
read_as meta segments = record {
  schema = meta.schema;
  opstamp = meta.opstamp;
  payload = text_of meta.payload;
  segments = segments;
}

-- a commit that was read, as it is shown in this generation
abbrev pub shown_in : Generation → CommitRead → CommitShown
shown_in generation commit = record {
  generation = generation;
  schema = commit.schema;
  opstamp = commit.opstamp;
  payload = commit.payload;
  segments = commit.segments;
}

-- a commit that was read, as it is shown under a number of its reader
abbrev pub shown_as : ℕ → CommitRead → CommitShown
shown_as id commit = shown_in (generation_of id commit.segments) commit

-- the commit that was read
abbrev pub commit_read : CommitRead → Commit
commit_read commit = record {
  opstamp = commit.opstamp;
  payload = commit.payload;
  segments = map shown_entry commit.segments;
}

-- a searcher: by which ticket its reader counts it, and what it shows
pub record SearcherState : Type 0 where
  pub ticket : ℕ
  pub shown : CommitShown

-- the generation is that of the segments
abbrev pub IsOfSegments : CommitShown → Type 0
IsOfSegments shown = shown.generation ≡ generation_of shown.generation.id shown.segments

-- what is shown, as the machine has it
abbrev pub snapshot_of : CommitShown → Snapshot
snapshot_of shown = record {
  generation = shown.generation.id;
  commit = record {
    opstamp = shown.opstamp;
    payload = shown.payload;
    segments = map shown_entry shown.segments;
  };
  bodies = map (λ s. s.bodies) shown.segments;
}

-- how many documents are living in some segments
abbrev pub docs_sum : List SegmentShown → ℕ
docs_sum segments = sum_by (λ s. num_docs s.segment) segments

-- a document of a segment's store
pub record IsStored (shown : SegmentShown) (doc_id : ℕ) (doc : List ℕ) : Type 0 where
  pub docs : List (List ℕ)
  pub stores : IsStoreBody (component_body shown Store) docs
  pub at : slice_get docs doc_id ≡ Some doc

-- a segment's store has no document of this number
pub record IsUnstored (shown : SegmentShown) (doc_id : ℕ) : Type 0 where
  pub docs : List (List ℕ)
  pub stores : IsStoreBody (component_body shown Store) docs
  pub at : slice_get docs doc_id ≡ None

-- the segment of an address is there, and this is true of it
abbrev pub OfSegment : List SegmentShown → ℕ → (SegmentShown → Type 0) → Type 0
OfSegment segments ord P = (shown : SegmentShown) × (slice_get segments ord ≡ Some shown) × P shown

-- the document at an address
abbrev pub IsDocument : List SegmentShown → DocAddress → List ℕ → Type 0
IsDocument segments address doc =
    OfSegment segments address.segment_ord (λ shown. IsStored shown address.doc_id doc)

-- the refusal of an address at which there is no document
abbrev pub no_document : List ℕ
no_document = codes "There is no document at this address."

-- the refusal says so, or memory was wanted for its text
abbrev pub SaysNoDocument : TantivyError → Type 0
SaysNoDocument (errors.InvalidArgument text) = string_bytes text ≡ no_document
SaysNoDocument errors.Memory = Unit {0}
SaysNoDocument other = ⊥

-- a store file isn't one: the text says so, and the name of the file is given
pub record IsBadStore (shown : SegmentShown) (path : Option (List ℕ)) (text : List ℕ) : Type 0 where
  pub path_is : path ≡ Some (name_of shown.id shown.segment.deletes Store)
  pub text_is : text ≡ not_store
  pub bad : IsNotStoreBody (component_body shown Store)

-- Why there is no document: there is no such segment, or its store has no document of this number; the file
-- of the store isn't one; or memory was wanted.
abbrev pub NoDocumentCause : List SegmentShown → DocAddress → TantivyError → Type 0
NoDocumentCause segments address (errors.InvalidArgument text) =
    (string_bytes text ≡ no_document) × ((slice_get segments address.segment_ord ≡ None)
    ⊎ OfSegment segments address.segment_ord (λ shown. IsUnstored shown address.doc_id))
NoDocumentCause segments address (errors.DataCorruption why) =
    OfSegment segments address.segment_ord
    (λ shown. IsBadStore shown (option_map string_bytes why.filepath) (string_bytes why.comment))
NoDocumentCause segments address errors.Memory = Unit {0}
NoDocumentCause segments address other = ⊥

-- what some segments take, each for itself
abbrev pub AreSpaces : (names : List (List ℕ)) → List SegmentShown → List SegmentSpace → Type 0
AreSpaces names [] [] = Unit {0}
AreSpaces names [] (space ∷ spaces) = ⊥
AreSpaces names (shown ∷ segments) [] = ⊥
AreSpaces names (shown ∷ segments) (space ∷ spaces) =
    IsSpaceOf names shown space × AreSpaces names segments spaces

-- what the segments of a searcher take, under the names of the schema's fields
pub record UsesSpace (shown : CommitShown) (spaces : List SegmentSpace) : Type 0 where
  pub names : List (List ℕ)
  pub named : HasNames shown.schema names
  pub each : AreSpaces names shown.segments spaces

-- it can't be told what one of the segments takes
pub record HasBadSegment (shown : CommitShown) : Type 0 where
  pub names : List (List ℕ)
  pub named : HasNames shown.schema names
  pub ord : ℕ
  pub bad : OfSegment shown.segments ord (HasNoSpace names)
