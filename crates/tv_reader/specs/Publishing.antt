-- How a commit is published, once the warmers were called, and why it isn't.
use Rattle.std.specs.Prelude.{◌≡◌, ◌⊎◌, ℕ, Bool, true, List, [], Option, Some, None, Ok, Err}
use Rattle.std.specs.List.{list_any}
use Rattle.std.specs.declared.alloc.Global.{Global}
use Rattle.std.specs.declared.vec.Vec.{Vec}
use Rattle.tv_base.specs.declared.error.TantivyError.{TantivyError}
use Rattle.tv_base.specs.declared.error.TantivyError.TheVariants.{Memory}
use Rattle.tv_device.specs.declared.directory.Directory.{Ghosts}
use Rattle.tv_index.specs.Indexes.{IndexState}
use Rattle.tv_machine.specs.declared.ReloadPolicy.{ReloadPolicy}
use Rattle.tv_reader.specs.Readers.{CountCause, ReaderState, opened, published, skipped}
use Rattle.tv_reader.specs.Reloads.{LoadCause, LoadsLast}
use Rattle.tv_reader.specs.Searchers.{CommitRead, shown_as}
use Rattle.tv_reader.specs.Warming.{WarmerCall, WarmersState, Warms, new_warmers}

-- the elements of a list, none where there is no list
abbrev pub items_of : {X : Type 0} → Option (Vec X Global) → List X
items_of None = []
items_of (Some list) = list.items

-- an error is one of those that one of these warmers may answer
pub record IsOfOne {W : Type 0} (test : W → TantivyError → Bool) (warmers : List W)
    (error : TantivyError) : Type 0 where
  pub tests : list_any (λ w. test w error) warmers ≡ true

-- Why a reader isn't built: the last commit of the index isn't read; or it was, and memory was wanted, or one
-- of the warmers answered this error.
abbrev pub BuildCause : {D W C X : Type 0} → Ghosts D W C → (test : X → TantivyError → Bool) → (warmers : List X)
    → (old new : IndexState D) → TantivyError → Type 0
BuildCause g test warmers old new e =
    LoadCause g old new e ⊎ ((commit : CommitRead) × LoadsLast g old new commit
    × ((e ≡ Memory) ⊎ IsOfOne test warmers e))

module _ {W : Type 0} (errors : W → ℕ) (test : W → TantivyError → Bool)
    (called_for : W → Option (List WarmerCall)) where
  -- a commit is shown under the next number, once each warmer that is left was called, in order
  abbrev pub PublishedBy : CommitRead → (old new : ReaderState) → (before after : WarmersState W) → Type 0
  PublishedBy commit old new before after =
      (new ≡ published old commit)
      × Warms errors test called_for (shown_as old.next commit) before after (Ok tt)

  -- the commit of a reload is shown so, and the reload ends
  abbrev pub ReloadedBy : CommitRead → (old new : ReaderState) → (before after : WarmersState W) → Type 0
  ReloadedBy commit old new before after =
      (new ≡ record (published old commit) { reload = None })
      × Warms errors test called_for (shown_as old.next commit) before after (Ok tt)

  -- Why a commit isn't shown: no number is left, or memory was wanted, and nothing changed; or the first
  -- warmer that answered an error did, or memory was wanted for the record, and a number was counted.
  abbrev pub UnpublishedBy : CommitRead → (old new : ReaderState) → (before after : WarmersState W)
      → TantivyError → Type 0
  UnpublishedBy commit old new before after e =
      ((new ≡ old) × (after ≡ before) × CountCause (old.next ≡ 18446744073709551615) e)
      ⊎ ((new ≡ skipped old) × Warms errors test called_for (shown_as old.next commit) before after (Err e))

  -- a new reader shows this commit under the number 0, once each of these warmers was called, in order
  abbrev pub BuiltBy : ReloadPolicy → (warmers : List W) → CommitRead → ReaderState → WarmersState W → Type 0
  BuiltBy policy warmers commit reader after =
      (reader ≡ opened policy commit)
      × Warms errors test called_for (shown_as 0 commit) (new_warmers warmers) after (Ok tt)
