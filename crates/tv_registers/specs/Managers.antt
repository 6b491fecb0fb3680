-- The two registers of a writer.
use Rattle.std.specs.Prelude.{ℕ, ◌≡◌, List, [], Option, Some, None, if◌then◌else◌, map, option_map}
use Rattle.std.specs.Option.{IsSomeAnd}
use Rattle.tv_base.specs.declared.error.TantivyError.{TantivyError}
use Rattle.tv_base.specs.declared.error.TantivyError.TheVariants as errors
use Rattle.tv_metas.specs.Tracked.{KeptMetas}
use Rattle.tv_registers.specs.Registers.{Counted, EntryState, Register, emptied, entries_at, has_all, replaced, ticket_of, with_each}
use Rattle.tv_registers.specs.Sharing.{shared}
use Rattle.tv_registers.specs.declared.segments_status.SegmentsStatus.{SegmentsStatus}
use Rattle.tv_registers.specs.declared.segments_status.SegmentsStatus.TheVariants.{Committed, Uncommitted}

-- the segments that aren't committed yet, and those of the last commit, by their ids
pub record ManagerState : Type 0 where
  pub uncommitted : Register
  pub committed : Register

-- which register has all of these ids; where both have, it is that of the uncommitted ones
abbrev pub status_of : ManagerState → List (List ℕ) → Option SegmentsStatus
status_of m ids =
    if has_all m.uncommitted ids then Some Uncommitted
    else if has_all m.committed ids then Some Committed else None

-- one of the two registers
abbrev pub register_of : SegmentsStatus → ManagerState → Register
register_of Uncommitted m = m.uncommitted
register_of Committed m = m.committed

-- the same with another one in its place
abbrev pub with_register : SegmentsStatus → Register → ManagerState → ManagerState
with_register Uncommitted register m = record m { uncommitted = register }
with_register Committed register m = record m { committed = register }

-- the segments that a merge of these ids takes, in their order; nothing where neither register has all
abbrev pub merged_entries : ManagerState → List (List ℕ) → Option (List EntryState)
merged_entries m ids = option_map (λ status. entries_at (register_of status m) ids) (status_of m ids)

-- Why a merge is refused: an argument is wrong, a number can't be counted further, or memory was wanted.
abbrev pub RefusesMerge : (wrong spent : Type 0) → TantivyError → Type 0
RefusesMerge wrong spent (errors.InvalidArgument why) = wrong
RefusesMerge wrong spent errors.Exhausted = spent
RefusesMerge wrong spent errors.Memory = Unit {0}
RefusesMerge wrong spent other = ⊥

-- Why no merge of these ids starts: neither register has all of them, or a segment has as many shares as can
-- be counted, or memory was wanted.
abbrev pub StartCause : ManagerState → List (List ℕ) → KeptMetas → TantivyError → Type 0
StartCause m ids kept =
    RefusesMerge (merged_entries m ids ≡ None)
    (IsSomeAnd (merged_entries m ids) (λ entries. shared (map ticket_of entries) kept ≡ None))

-- Why no merge of these ids ends: neither register has all of them, or memory was wanted.
abbrev pub EndCause : ManagerState → List (List ℕ) → TantivyError → Type 0
EndCause m ids = RefusesMerge (status_of m ids ≡ None) ⊥

-- both registers with the inventory that counts their shares
abbrev pub CountedBoth : Type 0
CountedBoth = ManagerState × KeptMetas

-- A segment is put in that isn't committed.
abbrev pub with_uncommitted : Counted → ManagerState → CountedBoth
with_uncommitted c m = (record m { uncommitted = c.0 }, c.1)

-- all segments go out, first those that aren't committed
abbrev pub emptied_both : CountedBoth → CountedBoth
emptied_both b = (
  record { uncommitted = []; committed = [] },
  (emptied (b.0.committed, (emptied (b.0.uncommitted, b.1)).1)).1,
)

-- These segments become all that is committed, and nothing stays uncommitted.
abbrev pub commit : List EntryState → CountedBoth → CountedBoth
commit entries b =
    let c = with_each entries ([], b.1) in
    (record { uncommitted = []; committed = c.0 }, (emptied_both (b.0, c.1)).1)

-- In one of the registers the segments of these ids go out, and one segment comes in, if there is one.
abbrev pub merge : SegmentsStatus → List (List ℕ) → Option EntryState → CountedBoth → CountedBoth
merge status ids after b =
    let c = replaced ids after (register_of status b.0, b.1) in (with_register status c.0 b.0, c.1)
