-- A reader of an index: what it shows, what it counts, and how it goes on to a later commit.
use Rattle.std.specs.Prelude.{◌≡◌, ◌⊎◌, ◌+◌, ℕ, Bool, eqb, List, [], map, Option, Some, None, find}
use Rattle.std.specs.List.{list_any}
use Rattle.std.specs.Arc.{arc_value}
use Rattle.std.specs.Option.{IsSomeAnd}
use Rattle.tv_base.specs.Entries.{InventoryState, IsFull, is_numbered, released, tracked}
use Rattle.tv_base.specs.declared.inventory.Entry.{Entry}
use Rattle.tv_base.specs.declared.error.TantivyError.{TantivyError}
use Rattle.tv_base.specs.declared.error.TantivyError.TheVariants.{Exhausted, Memory}
use Rattle.tv_device.specs.Calls.{Frees}
use Rattle.tv_device.specs.View.{Told, View}
use Rattle.tv_formats.specs.Commits.{Commit}
use Rattle.tv_index.specs.Indexes.{IndexState, KeepsIndex}
use Rattle.tv_machine.specs.declared.ReloadPolicy.{ReloadPolicy}
use Rattle.tv_metas.specs.Metas.{commit_of}
use Rattle.tv_reader.specs.Searchers.{CommitRead, CommitShown, Generation, SearcherState, shown_as}
use Rattle.tv_reader.specs.declared.reload.Reload.{Reload}
use Rattle.tv_reader.specs.declared.reload.Reload.TheVariants as reloads

-- A reload that was begun and isn't published: the commit was noted, with the schema of the index, and the
-- meta lock is held by this token; or the commit's files were read, and the lock is free again.
pub data ReloadState : Type 0 where
  Noted : (schema : List ℕ) → Commit → (lock : List ℕ) → ReloadState
  FilesRead : CommitRead → ReloadState

-- a reload that is kept, as definitions see it
abbrev pub reload_of : Reload → ReloadState
reload_of (reloads.Locked meta lock) = Noted (arc_value meta).schema (commit_of (arc_value meta)) lock
reload_of (reloads.Read commit) = FilesRead (arc_value commit)

-- A reader: when it is to reload, the number under which it shows the next commit, the searcher that it
-- shows, the searchers that are out by what they show, its own among them, and the reload in steps, where one
-- isn't finished.
pub record ReaderState : Type 0 where
  pub policy : ReloadPolicy
  pub next : ℕ
  pub shown : SearcherState
  pub searchers : InventoryState CommitShown
  pub reload : Option ReloadState

-- a reader that was just opened: it shows this commit under the number 0
abbrev pub opened : ReloadPolicy → CommitRead → ReaderState
opened policy commit = record {
  policy = policy;
  next = 1;
  shown = record { ticket = 0; shown = shown_as 0 commit };
  searchers = record { next = 1; entries = tracked 0 (shown_as 0 commit) [] };
  reload = None;
}

-- what is shown under the next number is counted by a further ticket
abbrev pub counted : ReaderState → CommitShown → ReaderState
counted s shown = record s {
  next = s.next + 1;
  searchers = record { next = s.searchers.next + 1; entries = tracked s.searchers.next shown s.searchers.entries };
}

-- a number was counted, under which nothing is shown
abbrev pub skipped : ReaderState → ReaderState
skipped s = record s {
  next = s.next + 1;
  searchers = record s.searchers { next = s.searchers.next + 1 };
}

-- a searcher of this reader is shown; the ticket of the one before is given back
abbrev pub showing : ReaderState → SearcherState → ReaderState
showing s searcher = record s {
  shown = searcher;
  searchers = record s.searchers { entries = released s.shown.ticket s.searchers.entries };
}

-- this commit is shown under the next number
abbrev pub published : ReaderState → CommitRead → ReaderState
published s commit = showing (counted s (shown_as s.next commit))
    (record { ticket = s.searchers.next; shown = shown_as s.next commit })

-- the generations that are live: those that a searcher shows which is out, or the reader itself
abbrev pub live_generations : ReaderState → List Generation
live_generations s = map (λ e. e.value.generation) s.searchers.entries

-- whether what a reader shows is live
abbrev pub shows_live : ReaderState → Bool
shows_live s = list_any (λ g. eqb g.id s.shown.shown.generation.id) (live_generations s)

-- of the commit that a reload has noted, of its schema and of the token of the meta lock, this is true
abbrev pub OfNoted : Option ReloadState → (List ℕ → Commit → List ℕ → Type 0) → Type 0
OfNoted (Some (Noted schema commit lock)) P = P schema commit lock
OfNoted other P = ⊥

-- of the commit of a reload whose files were read, this is true
abbrev pub OfRead : Option ReloadState → (CommitRead → Type 0) → Type 0
OfRead (Some (FilesRead commit)) P = P commit
OfRead other P = ⊥

-- a reload has noted its commit, and the meta lock is held
abbrev pub IsLocked : Option ReloadState → Type 0
IsLocked reload = OfNoted reload (λ schema commit lock. Unit {0})

-- a reload's files were read
abbrev pub IsReadOut : Option ReloadState → Type 0
IsReadOut reload = OfRead reload (λ commit. Unit {0})

-- the token of the meta lock that a reload holds, if it does
abbrev pub held_by : Option ReloadState → Option (List ℕ)
held_by (Some (Noted schema commit lock)) = Some lock
held_by other = None

-- as many searchers of this ticket are out as can be counted
abbrev pub AreMost : {T : Type 0} → ℕ → List (Entry T) → Type 0
AreMost ticket entries = IsSomeAnd (find (is_numbered ticket) entries) IsFull

-- a number can't be counted further, where this is so; or memory was wanted
abbrev pub CountCause : (full : Type 0) → TantivyError → Type 0
CountCause full error = ((error ≡ Exhausted) × full) ⊎ (error ≡ Memory)

-- a reload ends: its lock is given back where it has one, and else the index stays as it was
abbrev pub Abandons : {D W : Type 0} → Told → (D → View W) → Option ReloadState → (old new : IndexState D)
    → Type 0
Abandons told view (Some (Noted schema commit lock)) old new = KeepsIndex (Frees told lock) view old new
Abandons told view other old new = new ≡ old
