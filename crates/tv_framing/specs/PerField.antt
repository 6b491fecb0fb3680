-- How many bytes the fields of a segment take, one usage a name.
use Rattle.std.specs.Prelude.{ℕ, ◌≡◌, Bool, List, [], ◌∷◌, Option, Some, None, sum_by, filter, find, fold, map, get_or, length, max}
use Rattle.std.specs.List.{AllByRecursion, range_with_len}
use Rattle.std.specs.Ordering.{is_eq}
use Rattle.std.specs.declared.cmp.Ordering.TheVariants.{Less}
use Rattle.tv_formats.specs.Names.{byte_cmp}
use Rattle.tv_base.specs.declared.byte_count.ByteCount.{ByteCount}
use Rattle.tv_framing.specs.declared.column_usage.ColumnSpaceUsage.{ColumnSpaceUsage}
use Rattle.tv_framing.specs.Usage.{capped, merged_columns, together}
use Rattle.tv_framing.specs.Fields.{FieldSpace, field_sum}

-- the parts of two usages, index by index
abbrev pub joined_parts : List (Option ByteCount) → List (Option ByteCount) → List (Option ByteCount)
joined_parts parts others =
    map (λ i. together (get_or parts i None) (get_or others i None))
    (range_with_len 0 (max (length parts) (length others)))

-- the columns of two usages together
abbrev pub joined_columns : Option ColumnSpaceUsage → Option ColumnSpaceUsage → Option ColumnSpaceUsage
joined_columns None other = other
joined_columns (Some one) None = Some one
joined_columns (Some one) (Some other) = Some (merged_columns one other)

-- two usages of one name
abbrev pub joined : FieldSpace → FieldSpace → FieldSpace
joined one other = record {
  name = one.name;
  parts = joined_parts one.parts other.parts;
  column = joined_columns one.column other.column;
}

-- whether a usage is that of the field of this name
abbrev pub is_named : List ℕ → FieldSpace → Bool
is_named name field = is_eq (byte_cmp name field.name)

-- one usage more of a name
abbrev pub gathered : Option FieldSpace → FieldSpace → Option FieldSpace
gathered None field = Some field
gathered (Some one) field = Some (joined one field)

-- what all usages of this name make together
abbrev pub all_of : List ℕ → List FieldSpace → Option FieldSpace
all_of name fields = fold gathered None (filter (is_named name) fields)

-- the name of one field comes before that of another
abbrev pub IsBelow : FieldSpace → FieldSpace → Type 0
IsBelow one other = byte_cmp one.name other.name ≡ Less

-- each name is below all later ones
abbrev pub InNameOrder : List FieldSpace → Type 0
InNameOrder [] = Unit {0}
InNameOrder (field ∷ fields) = AllByRecursion (IsBelow field) fields × InNameOrder fields

-- under each name stands what all usages of it make together, and the names are in order
pub record AreByName (given fields : List FieldSpace) : Type 0 where
  pub ordered : InNameOrder fields
  pub each : (name : List ℕ) → find (is_named name) fields ≡ all_of name given

-- all fields
abbrev pub fields_sum : List FieldSpace → ℕ
fields_sum fields = sum_by field_sum fields

-- all fields take so many bytes together
abbrev pub UsesBytes : List FieldSpace → ℕ → Type 0
UsesBytes fields n = capped (fields_sum fields) ≡ capped n
