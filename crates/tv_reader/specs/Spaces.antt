-- How much space the files of a segment take, and of which bodies that can't be told.
use Rattle.std.specs.Prelude.{ℕ, ◌≡◌, ◌⊎◌, Bool, true, false, List, [], length}
use Rattle.tv_base.specs.declared.io.IoFault.{IoFault}
use Rattle.tv_base.specs.declared.io.IoKind.TheVariants.{InvalidData}
use Rattle.tv_formats.specs.declared.segment.SegmentComponent.{SegmentComponent}
use Rattle.tv_formats.specs.declared.segment.SegmentComponent.TheVariants as components
use Rattle.tv_formats.specs.Segments.{num_docs}
use Rattle.tv_framing.specs.Composite.{IsComposite, Part, bodies, fields_below}
use Rattle.tv_framing.specs.Fields.{FieldSpace}
use Rattle.tv_framing.specs.PerField.{AreByName, UsesBytes}
use Rattle.tv_framing.specs.Reports.{indexes_fit, usages}
use Rattle.tv_framing.specs.Segments.{SegmentSpace}
use Rattle.tv_framing.specs.Usage.{StoreSpace}
use Rattle.tv_reader.specs.Segments.{SegmentShown, component_body}
use Rattle.tv_reader.specs.StoreBodies.{IsNotStoreBody, IsStoreBody, store_space}

-- bytes aren't what they should be
abbrev pub IsInvalid : IoFault → Type 0
IsInvalid fault = fault.kind ≡ InvalidData

-- the bodies of the fields in a file; an empty one is a file without fields
abbrev pub HasFields : List ℕ → List Part → Type 0
HasFields body parts = ((body ≡ []) × (parts ≡ [])) ⊎ IsComposite body parts

-- a file has these fields, if any
abbrev pub AreTheFields : List ℕ → List Part → Type 0
AreTheFields body parts = (others : List Part) → HasFields body others → others ≡ parts

-- a file has no fields, not even none
abbrev pub HasNoFields : List ℕ → Type 0
HasNoFields body = (parts : List Part) → HasFields body parts → ⊥

-- What the fields of a file take, under their names, the first of which is that of field 0: each field has a
-- name, and no index is above 65535. Together they take the bytes of the bodies, however these are shared out
-- among names; the list of the bodies isn't counted.
pub record UsesFields (names : List (List ℕ)) (body : List ℕ) (usage : List FieldSpace) : Type 0 where
  pub parts : List Part
  pub has : HasFields body parts
  pub only : AreTheFields body parts
  pub named : fields_below (length names) parts ≡ true
  pub fits : indexes_fit parts ≡ true
  pub usage_is : AreByName (usages names parts) usage
  pub total : UsesBytes usage (length (bodies parts))

-- a file isn't one with fields, or one of these has no name, or an index that is too large
abbrev pub HasNoUsage : (names : List (List ℕ)) → List ℕ → Type 0
HasNoUsage names body =
    (parts : List Part) → HasFields body parts → fields_below (length names) parts ≡ true
    → indexes_fit parts ≡ true → ⊥

-- what a store file takes
pub record UsesStore (body : List ℕ) (usage : StoreSpace) : Type 0 where
  pub docs : List (List ℕ)
  pub stores : IsStoreBody body docs
  pub usage_is : usage ≡ store_space docs

-- what a segment takes, under these names of fields
pub record IsSpaceOf (names : List (List ℕ)) (shown : SegmentShown) (space : SegmentSpace) : Type 0 where
  pub docs : space.num_docs ≡ num_docs shown.segment
  pub termdict : UsesFields names (component_body shown components.Terms) space.termdict
  pub postings : UsesFields names (component_body shown components.Postings) space.postings
  pub positions : UsesFields names (component_body shown components.Positions) space.positions
  pub fast_fields : UsesFields names (component_body shown components.FastFields) space.fast_fields
  pub fieldnorms : UsesFields names (component_body shown components.FieldNorms) space.fieldnorms
  pub store : UsesStore (component_body shown components.Store) space.store
  pub deletes : space.deletes.0 ≡ length (component_body shown components.Delete)

-- whether the file of a component has fields
abbrev pub has_fields : SegmentComponent → Bool
has_fields components.Postings = true
has_fields components.Positions = true
has_fields components.FastFields = true
has_fields components.FieldNorms = true
has_fields components.Terms = true
has_fields components.Store = false
has_fields components.Delete = false

-- a file with fields has no usage
pub record HasBadFields (names : List (List ℕ)) (shown : SegmentShown) : Type 0 where
  pub component : SegmentComponent
  pub kind : has_fields component ≡ true
  pub bad : HasNoUsage names (component_body shown component)

-- it can't be told what a segment takes: a file with fields has no usage, or the store file is none
abbrev pub HasNoSpace : (names : List (List ℕ)) → SegmentShown → Type 0
HasNoSpace names shown = HasBadFields names shown ⊎ IsNotStoreBody (component_body shown components.Store)
