-- How many bytes the files of a searcher's segments take.
use Rattle.std.specs.Prelude.{ℕ, ◌+◌, min, Option, Some, None}
use Rattle.tv_base.specs.declared.byte_count.ByteCount.{ByteCount}
use Rattle.tv_framing.specs.declared.column_usage.ColumnSpaceUsage.{ColumnSpaceUsage}

-- sums stop at the largest number of 64 bits
abbrev pub capped : ℕ → ℕ
capped n = min n 18446744073709551615

-- the bytes of a part, none where there is no such part
abbrev pub bytes_of : Option ByteCount → ℕ
bytes_of None = 0
bytes_of (Some count) = count.0

-- two parts together; where one of them is missing, the other
abbrev pub together : Option ByteCount → Option ByteCount → Option ByteCount
together None other = other
together (Some one) None = Some one
together (Some one) (Some other) = Some (record { 0 = capped (one.0 + other.0) })

-- a column with its dictionary
abbrev pub column_sum : ColumnSpaceUsage → ℕ
column_sum usage = usage.column.0 + bytes_of usage.dictionary

-- two columns, part by part
abbrev pub merged_columns : ColumnSpaceUsage → ColumnSpaceUsage → ColumnSpaceUsage
merged_columns one other = record {
  column = record { 0 = capped (one.column.0 + other.column.0) };
  dictionary = together one.dictionary other.dictionary;
}

-- the stored documents, and where each of them begins
pub record StoreSpace : Type 0 where
  pub body : ByteCount
  pub offsets : ByteCount

-- how many bytes the stored documents take, with where they begin
abbrev pub store_sum : StoreSpace → ℕ
store_sum store = store.body.0 + store.offsets.0
