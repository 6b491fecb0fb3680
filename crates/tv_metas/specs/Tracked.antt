-- The segments of an inventory.
use Rattle.std.specs.Prelude.{ℕ, ◌≡◌, ◌≤◌, Bool, true, List, [], ◌∷◌, None, find}
use Rattle.std.specs.List.{list_any}
use Rattle.tv_base.specs.declared.inventory.Entry.{Entry}
use Rattle.tv_base.specs.Entries.{is_numbered, is_full, one_more, released, tracked}
use Rattle.tv_base.specs.declared.error.TantivyError.{TantivyError}
use Rattle.tv_base.specs.declared.error.TantivyError.TheVariants as errors
use Rattle.tv_base.specs.Places.{change_at}
use Rattle.tv_formats.specs.declared.segment.LiveSegment.{LiveSegment}
use Rattle.tv_formats.specs.Names.{is}
use Rattle.tv_formats.specs.Segments.{name_of, num_deleted}
use Rattle.tv_formats.specs.declared.segment.SegmentComponent.{SegmentComponent}
use Rattle.tv_metas.specs.declared.segment_meta.InnerSegmentMeta.{InnerSegmentMeta}
use Rattle.tv_metas.specs.Segments.{entry_of}

-- a share of a segment: the number of its ticket, and the segment by its id
abbrev pub Share : Type 0
Share = ℕ × (List ℕ × LiveSegment)

-- what is kept
abbrev pub KeptMetas : Type 0
KeptMetas = List (Entry InnerSegmentMeta)

-- a live segment with its id, as it is kept in an inventory
abbrev pub inner_of : List ℕ × LiveSegment → InnerSegmentMeta
inner_of e = record { segment_id = e.0; max_doc = e.1.max_doc; deletes = e.1.deletes }

-- No more documents of a segment are deleted than there are, and a share of it is out.
pub record IsShared (e : Entry InnerSegmentMeta) : Type 0 where
  pub within : num_deleted e.value.deletes ≤ e.value.max_doc
  pub out : 1 ≤ e.count

-- a share of a segment that is kept
abbrev pub share_of : Entry InnerSegmentMeta → Share
share_of e = (e.number, entry_of e.value)

-- the name of a file of a shared segment
abbrev pub file_of : Share → SegmentComponent → List ℕ
file_of share component = name_of share.1.0 share.1.1.deletes component

-- a segment that is kept has this id
abbrev pub has_id : KeptMetas → List ℕ → Bool
has_id kept id = list_any (λ e. is e.value.segment_id id) kept

-- Why no share of every segment is given: of one as many are out as can be counted, or memory was wanted.
abbrev pub ShareAllCause : KeptMetas → TantivyError → Type 0
ShareAllCause kept errors.Exhausted = list_any is_full kept ≡ true
ShareAllCause kept errors.Memory = Unit {0}
ShareAllCause kept other = ⊥

-- the segment was taken in, under a number that no entry had
pub record Tracks (segment : List ℕ × LiveSegment) (old new : KeptMetas) (share : Share) : Type 0 where
  pub fresh : find (is_numbered share.0) old ≡ None
  pub entries : new ≡ tracked share.0 (inner_of segment) old
  pub same : share.1 ≡ segment

-- the segment was taken in, under a number that no entry had, and a share of the former segment was given
-- back
pub record Retracks (former : ℕ) (segment : List ℕ × LiveSegment) (old new : KeptMetas)
    (share : Share) : Type 0 where
  pub fresh : find (is_numbered share.0) old ≡ None
  pub entries : new ≡ released former (tracked share.0 (inner_of segment) old)
  pub same : share.1 ≡ segment

-- One more share of it is out. Given back, all is as it was.
pub record Shares (share : Share) (old new : KeptMetas) (other : Share) : Type 0 where
  pub same : other ≡ share
  pub entries : new ≡ change_at (is_numbered share.0) one_more old
  pub undone : released share.0 new ≡ old

-- segments were taken in one after the other
abbrev pub TrackAll : List Share → (old new : KeptMetas) → Type 0
TrackAll [] old new = new ≡ old
TrackAll (share ∷ shares) old new =
    (middle : KeptMetas) × Tracks share.1 old middle share × TrackAll shares middle new
