-- Lines of names, and what live segments are.
use Rattle.std.proofs.Common.{ℕ, List, arith}
use Rattle.tv_formats.specs.Ids.{IsId}
use Rattle.tv_formats.specs.Commits.{IsSegment}
use Rattle.tv_formats.specs.Segments.{fresh_segment}

-- ---- live segments

-- a segment without documents and deletes is one
pub fresh_is : (id : List ℕ) → IsId id → IsSegment (id, fresh_segment)
fresh_is id is = record { id = is; max_doc = omega arith; deletes = omega arith; opstamp = omega arith }
