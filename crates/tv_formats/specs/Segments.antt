-- Which files are needed, which commits are kept, and whether a reload is under way.
use Rattle.std.specs.Prelude.{ℕ, List, [], map, None, Bool, nat_eq, ◌-◌, true, false, nat_lt, ◌∷◌, ◌++◌, codes, Option, Some, if◌then◌else◌}
use Rattle.tv_formats.specs.declared.segment.LiveSegment.{LiveSegment}
use Rattle.std.specs.List.{list_any, starts_with, flat_map}
use Rattle.hex.specs.Hex.{encode_lower}
use Rattle.std.specs.Fmt.{decimal}
use Rattle.tv_formats.specs.declared.segment.DeleteMeta.{DeleteMeta}
use Rattle.tv_formats.specs.declared.segment.SegmentComponent.{SegmentComponent}
use Rattle.tv_formats.specs.declared.segment.SegmentComponent.TheVariants.{Postings, Positions, FastFields, FieldNorms, Terms, Store, Delete}

-- the end of a file's name, which is the component's word in scripts too
abbrev pub extension : SegmentComponent → List ℕ
extension Postings = codes "idx"
extension Positions = codes "pos"
extension FastFields = codes "fast"
extension FieldNorms = codes "fieldnorm"
extension Terms = codes "term"
extension Store = codes "store"
extension Delete = codes "del"

-- all components, in the order in which they are listed
abbrev pub components : List SegmentComponent
components = Postings ∷ Positions ∷ FastFields ∷ FieldNorms ∷ Terms ∷ Store ∷ Delete ∷ []

-- whether a component is the one of deleted documents
abbrev pub is_delete : SegmentComponent → Bool
is_delete Postings = false
is_delete Positions = false
is_delete FastFields = false
is_delete FieldNorms = false
is_delete Terms = false
is_delete Store = false
is_delete Delete = true

-- the number of the delete, 0 where there was none
abbrev pub delete_opstamp : Option DeleteMeta → ℕ
delete_opstamp None = 0
delete_opstamp (Some meta) = meta.opstamp

-- the file's name: the id, for a delete file the number of the delete, and the extension, with dots between
abbrev pub name_of : List ℕ → Option DeleteMeta → SegmentComponent → List ℕ
name_of id deletes component =
    if is_delete component
    then encode_lower id ++ codes "." ++ decimal (delete_opstamp deletes) ++ codes ".del"
    else encode_lower id ++ codes "." ++ extension component

-- how many documents are deleted
abbrev pub num_deleted : Option DeleteMeta → ℕ
num_deleted None = 0
num_deleted (Some meta) = meta.num_deleted_docs

-- how many documents are living
abbrev pub num_docs : LiveSegment → ℕ
num_docs segment = segment.max_doc - num_deleted segment.deletes

-- the components that a reader needs, in their order; the delete file where documents are deleted
abbrev pub required_components : LiveSegment → List SegmentComponent
required_components segment =
    Postings ∷ Positions ∷ FastFields ∷ FieldNorms ∷ Terms ∷ Store
    ∷ (if nat_lt 0 (num_deleted segment.deletes) then Delete ∷ [] else [])

-- the names of these files
abbrev pub required_names : List ℕ → LiveSegment → List (List ℕ)
required_names id segment = map (name_of id segment.deletes) (required_components segment)

-- those of several segments, in the order of the segments
abbrev pub all_required : List (List ℕ × LiveSegment) → List (List ℕ)
all_required segments = flat_map (λ e. required_names e.0 e.1) segments

-- the names that a segment has, whether there are such files or not
abbrev pub segment_names : List ℕ × LiveSegment → List (List ℕ)
segment_names e = map (name_of e.0 e.1.deletes) components

-- some managed name begins with the id
abbrev pub is_named : List (List ℕ) → List ℕ → Bool
is_named managed id = list_any (λ name. starts_with nat_eq name (encode_lower id)) managed

-- a segment without documents and deletes
abbrev pub fresh_segment : LiveSegment
fresh_segment = record { max_doc = 0; deletes = None }
