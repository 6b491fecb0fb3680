-- Which files are needed, which commits are kept, and whether a reload is under way.
use Rattle.std.specs.Prelude.{ℕ, ◌≡◌, Bool, true, List, [], ◌∷◌, ◌++◌, Option, None, Some, is_some, option_and_then}
use Rattle.std.specs.List.{AllByRecursion, filter_map, flat_map, list_any}
use Rattle.tv_formats.specs.declared.segment.LiveSegment.{LiveSegment}
use Rattle.tv_formats.specs.Names.{meta_name}
use Rattle.tv_formats.specs.Commits.{Commit}
use Rattle.tv_machine.specs.State.{Catalog, Reader, Reload, Locked, Read, reader_at}
use Rattle.tv_formats.specs.Segments.{segment_names}

-- the commits to which the index may be opened: the current one, and those that are pinned, of which so
-- far there are none
abbrev pub current_and_pinned : Catalog → List Commit
current_and_pinned c = c.commit ∷ []

-- the commit that a reload has noted, as long as its files are still to be read
abbrev pub unread_by : Option Reload → Option Commit
unread_by None = None
unread_by (Some (Locked commit)) = Some commit
unread_by (Some (Read commit bodies)) = None

-- the commits that reloads under way have noted, and whose files are still to be read
abbrev pub unread_commits : Catalog → List Commit
unread_commits c = filter_map (λ e. unread_by e.1.reload) c.reading.readers

-- the commits whose files are still to be read: the current one, those that are pinned, and those that
-- reloads under way have noted
abbrev pub kept_commits : Catalog → List Commit
kept_commits c = current_and_pinned c ++ unread_commits c

-- the segments of these commits, and then these others
abbrev pub segments_before : List Commit → (others : List (List ℕ × LiveSegment))
    → List (List ℕ × LiveSegment)
segments_before [] others = others
segments_before (commit ∷ commits) others = commit.segments ++ segments_before commits others

-- the names that are needed: `meta.json`, and those of the segments of the current commit and of each
-- pinned one, and of the live ones
abbrev pub living : Catalog → List (List ℕ)
living c = meta_name ∷ flat_map segment_names (segments_before (current_and_pinned c) c.live)

-- whether this reader's reload holds the meta lock, which it does until its files are read
abbrev pub is_locked : Reader → Bool
is_locked reader = is_some (unread_by reader.reload)

-- whether the meta lock is held for a reload whose files aren't read yet
abbrev pub is_busy : Catalog → Bool
is_busy c = list_any (λ e. is_locked e.1) c.reading.readers

-- whether the reload of the reader of this number holds it
abbrev pub holds_lock : Catalog → ℕ → Bool
holds_lock c number = is_some (option_and_then (λ reader. unread_by reader.reload) (reader_at c number))

-- of these readers, only that of this number may hold the meta lock
abbrev pub OnlyLocks : (holder : ℕ) → ℕ × Reader → Type 0
OnlyLocks holder e = is_locked e.1 ≡ true → e.0 ≡ holder

-- One of these readers at most holds the meta lock.
pub record HasOneLock (readers : List (ℕ × Reader)) : Type 0 where
  pub holder : ℕ
  pub each : AllByRecursion (OnlyLocks holder) readers
