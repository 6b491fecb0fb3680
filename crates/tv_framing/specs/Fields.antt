-- How many bytes the fields of a segment take.
use Rattle.std.specs.Prelude.{ℕ, ◌+◌, ◌-◌, List, [], ◌++◌, length, get_or, replicate, slice_set, Option, Some, None, sum_by}
use Rattle.tv_base.specs.declared.byte_count.ByteCount.{ByteCount}
use Rattle.tv_framing.specs.declared.column_usage.ColumnSpaceUsage.{ColumnSpaceUsage}
use Rattle.tv_framing.specs.Usage.{bytes_of, column_sum, together}

-- a field's name, its parts by their index, and its column
pub record FieldSpace : Type 0 where
  pub name : List ℕ
  pub parts : List (Option ByteCount)
  pub column : Option ColumnSpaceUsage

-- how many bytes the columns of a field take: none where it has none
abbrev pub column_bytes : Option ColumnSpaceUsage → ℕ
column_bytes None = 0
column_bytes (Some usage) = column_sum usage

-- all parts of a field, and its column
abbrev pub field_sum : FieldSpace → ℕ
field_sum field = sum_by bytes_of field.parts + column_bytes field.column

-- the parts up to this index at least; indexes that weren't there are without a part
abbrev pub up_to : ℕ → List (Option ByteCount) → List (Option ByteCount)
up_to idx parts = parts ++ replicate (idx + 1 - length parts) None

-- the parts with one more at this index
abbrev pub with_part : ℕ → ByteCount → List (Option ByteCount) → List (Option ByteCount)
with_part idx size parts = slice_set (up_to idx parts) idx (Some size)

-- the parts where this size joins the one at this index
abbrev pub with_joined : ℕ → ByteCount → List (Option ByteCount) → List (Option ByteCount)
with_joined idx size parts = slice_set (up_to idx parts) idx (together (get_or parts idx None) (Some size))

-- a field with one part more, at this index
abbrev pub with_usage : ℕ → ByteCount → FieldSpace → FieldSpace
with_usage idx size field = record field { parts = with_part idx size field.parts }

-- a field that has this part alone
abbrev pub part_alone : (name : List ℕ) → ℕ → ByteCount → FieldSpace
part_alone name idx size = record { name = name; parts = with_part idx size []; column = None }
