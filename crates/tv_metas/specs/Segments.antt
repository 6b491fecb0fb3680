-- How the segments of a commit are read.
use Rattle.std.specs.Prelude.{ℕ, List, codes, nat_le, is_some, if◌then◌else◌, Option, Some, None, option_map, option_and_then}
use Rattle.std.specs.BTreeMap.{insert_entry}
use Rattle.serde_json.specs.Data.{Data, Items, no_items, item}
use Rattle.serde_json.specs.Find.{get, as_null}
use Rattle.tv_formats.specs.declared.segment.DeleteMeta.{DeleteMeta}
use Rattle.tv_formats.specs.declared.segment.LiveSegment.{LiveSegment}
use Rattle.tv_formats.specs.JsonFields.{field, u32_of, u64_of, id_of}
use Rattle.tv_formats.specs.Names.{byte_cmp, at}
use Rattle.tv_formats.specs.Segments.{num_deleted}
use Rattle.tv_metas.specs.declared.segment_meta.InnerSegmentMeta.{InnerSegmentMeta}

-- a segment of a commit by its id
abbrev pub entry_of : InnerSegmentMeta → List ℕ × LiveSegment
entry_of segment = (segment.segment_id, record { max_doc = segment.max_doc; deletes = segment.deletes })

-- nothing where the field is missing or null
abbrev pub unless_null : {A : Type 0} → (Data → Option A) → Data → Option (Option A)
unless_null f d = if is_some (as_null d) then Some None else option_map Some (f d)

-- a field that may be missing or null
abbrev pub optional : {A : Type 0} → (Data → Option A) → Option Data → Option (Option A)
optional f None = Some None
optional f (Some d) = unless_null f d

-- the deletes that an object spells
abbrev pub delete_meta_of : Data → Option DeleteMeta
delete_meta_of d =
    option_and_then (λ n. option_map (λ opstamp. record { num_deleted_docs = n; opstamp = opstamp })
    (field u64_of (codes "opstamp") d))
    (field u32_of (codes "num_deleted_docs") d)

-- no more documents are deleted than there are
abbrev pub if_within : List ℕ → ℕ → Option DeleteMeta → Option (List ℕ × LiveSegment)
if_within id max_doc deletes =
    if nat_le (num_deleted deletes) max_doc
    then Some (id, record { max_doc = max_doc; deletes = deletes }) else None

-- the segment that an object spells, with its id
abbrev pub segment_of : Data → Option (List ℕ × LiveSegment)
segment_of d =
    option_and_then (λ id. option_and_then (λ max_doc. option_and_then (if_within id max_doc)
    (optional delete_meta_of (get (codes "deletes") d))) (field u32_of (codes "max_doc") d))
    (field id_of (codes "segment_id") d)

-- the segments of a list, put to those that were found before; none stands twice
abbrev pub gathered : List (List ℕ × LiveSegment) → Items → Option (List (List ℕ × LiveSegment))
gathered found no_items = Some found
gathered found (item d ds) =
    option_and_then (λ e. if is_some (at found e.0) then None
    else gathered (insert_entry byte_cmp found e.0 e.1) ds) (segment_of d)
