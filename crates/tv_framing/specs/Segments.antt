-- How many bytes segments take.
use Rattle.std.specs.Prelude.{ℕ, ◌+◌, List, sum_by}
use Rattle.tv_base.specs.declared.byte_count.ByteCount.{ByteCount}
use Rattle.tv_framing.specs.Usage.{StoreSpace, store_sum}
use Rattle.tv_framing.specs.Fields.{FieldSpace}
use Rattle.tv_framing.specs.PerField.{fields_sum}

-- how many documents a segment has, and what its files take
pub record SegmentSpace : Type 0 where
  pub num_docs : ℕ
  pub termdict : List FieldSpace
  pub postings : List FieldSpace
  pub positions : List FieldSpace
  pub fast_fields : List FieldSpace
  pub fieldnorms : List FieldSpace
  pub store : StoreSpace
  pub deletes : ByteCount

-- how many bytes a segment takes: the sum of its parts
abbrev pub segment_sum : SegmentSpace → ℕ
segment_sum s =
    fields_sum s.termdict + fields_sum s.postings + fields_sum s.positions + fields_sum s.fast_fields
    + fields_sum s.fieldnorms + store_sum s.store + s.deletes.0

-- how many bytes some segments take together
abbrev pub segments_sum : List SegmentSpace → ℕ
segments_sum segments = sum_by segment_sum segments
