-- Names that nothing has so far.
use Rattle.std.specs.Prelude.{ℕ, ◌≡◌, ◌≢◌, ◌≤◌, ◌<◌, false, List, Some, None}
use Rattle.std.specs.List.{AllByRecursion}
use Rattle.tv_formats.specs.declared.segment.LiveSegment.{LiveSegment}
use Rattle.tv_formats.specs.Names.{has, at}
use Rattle.tv_formats.specs.Segments.{delete_opstamp}
use Rattle.tv_formats.specs.Collections.{held}
use Rattle.tv_machine.specs.CommitEvents.{last_stamp}
use Rattle.tv_machine.specs.DeleteEvents.{delete_name}
use Rattle.tv_formats.specs.Commits.{Commit}
use Rattle.tv_machine.specs.Living.{current_and_pinned, living}
use Rattle.tv_machine.specs.State.{Catalog, State, file_at}

-- the numbers of deletes of a commit's segments are at most that of the commit
abbrev pub DrawsBefore : Commit → Type 0
DrawsBefore commit =
    AllByRecursion (λ e. delete_opstamp e.1.deletes ≤ commit.opstamp) commit.segments

-- The numbers of deletes were drawn in order: those of the segments of the current commit and of each pinned
-- one are at most that of their commit, and those of live ones are below the next one, as long as there is
-- one.
pub record DrawsInOrder (c : Catalog) : Type 0 where
  pub committed : AllByRecursion DrawsBefore (current_and_pinned c)
  pub live : c.next ≢ last_stamp → AllByRecursion (λ e. delete_opstamp e.1.deletes < c.next) c.live
  pub next : c.next ≤ last_stamp

-- The name of a delete file that a segment is to have is new.
pub record IsNewDelete (s : State) (id name : List ℕ) : Type 0 where
  -- no file has it
  pub absent : file_at s name ≡ None
  -- it isn't managed
  pub fresh : has s.managed name ≡ false
  -- no unfinished collection holds it
  pub spared : has (held s.collections) name ≡ false
  -- the segment's delete file in the current commit has another one
  pub other : (segment : LiveSegment) → at s.catalog.commit.segments id ≡ Some segment
      → delete_name id segment.deletes ≢ name
  -- and where the numbers of deletes were drawn, nothing needs it
  pub unneeded : DrawsInOrder s.catalog → has (living s.catalog) name ≡ false
