-- What the calls on the files of a store do that collect some of them in steps.
use Rattle.std.specs.Prelude.{ℕ, ◌≡◌, ◌&&◌, ◌++◌, ◌∷◌, Bool, not, true, false, List, [], cond, Some, None}
use Rattle.tv_device.specs.View.{View}
use Rattle.tv_device.specs.declared.directory.Directory.{Ghosts}
use Rattle.tv_formats.specs.Collections.{Collection, collectable, collection_at, having_tried, held, with_begun, with_collection, without, without_collection}
use Rattle.tv_formats.specs.Files.{RoseBy}
use Rattle.tv_formats.specs.Listing.{IsListFile, Listing}
use Rattle.tv_machine.specs.Machine.{refused_in}
use Rattle.tv_formats.specs.Names.{has, meta_name, at}
use Rattle.tv_store.specs.Kept.{FilesState}

-- Of the files of a store all but the unfinished collections stays, and of the directory below what such a
-- call keeps.
pub record KeepsUncollected {O W : Type 0} (keeps : View W → View W → Type 0) (view : O → View W)
    (old new : FilesState O) : Type 0 where
  pub rest : new ≡ record old { outside = new.outside; collections = new.collections }
  pub below : keeps (view old.outside) (view new.outside)

-- The managed files that aren't among these, and that no unfinished collection holds, are taken by a
-- collection that begins under this number.
pub record BeginsCollection {O : Type 0} (number : ℕ) (living : List (List ℕ))
    (old new : FilesState O) : Type 0 where
  pub number_is : number ≡ old.collections.next
  pub collections :
      new.collections ≡ with_begun old.collections (collectable (living ++ held old.collections) old.managed)

-- Of the files of a store all but the managed names and the unfinished collections stays, and of the
-- directory below what such a call keeps.
pub record KeepsUnlisted {O W : Type 0} (keeps : View W → View W → Type 0) (view : O → View W)
    (old new : FilesState O) : Type 0 where
  pub rest : new ≡ record old { outside = new.outside; managed = new.managed; collections = new.collections }
  pub below : keeps (view old.outside) (view new.outside)

-- the names that are gone after one was tried
abbrev pub gone_of : List ℕ → (is_done : Bool) → List (List ℕ)
gone_of name is_done = cond is_done (name ∷ []) []

-- The collection of this number tried the first name that it has left. Where that is done, its file is gone,
-- and neither open nor left any more; or the device refused its delete.
pub record TriesNext {O W C : Type 0} (g : Ghosts O W C) (number : ℕ) (old new : FilesState O) (name : List ℕ)
    (is_done : Bool) : Type 0 where
  pub collection : Collection
  pub left_names : List (List ℕ)
  pub there : collection_at old.collections number ≡ Some collection
  pub first : collection.untried ≡ name ∷ left_names
  pub collections : new.collections
      ≡ with_collection old.collections number (having_tried collection name left_names is_done)
  pub managed : new.managed ≡ old.managed
  pub counted : RoseBy (refused_in (is_done ∷ [])) (g.view old.outside).refusals (g.view new.outside).refusals
  pub gone : g.told.content → (n : List ℕ) → has (gone_of name is_done) n ≡ true
      → (g.view new.outside).reads n ≡ None
  pub others : g.told.content → (n : List ℕ) → has (gone_of name is_done) n ≡ false
      → (g.view new.outside).reads n ≡ (g.view old.outside).reads n
  pub open_files : (n : List ℕ)
      → at new.open_files n ≡ cond (has (gone_of name is_done) n) None (at old.open_files n)
  pub left : (n : List ℕ) → has new.left n ≡ (not (has (gone_of name is_done) n) && has old.left n)
  -- it is neither `meta.json` nor a file of the list
  pub spares : has (gone_of name is_done) meta_name ≡ false
  pub listed : (n : List ℕ) → IsListFile n → has (gone_of name is_done) n ≡ false

-- The collection of this number is finished: what it did is managed no more, and the list has what is
-- managed.
pub record FinishesCollection {O W C : Type 0} (g : Ghosts O W C) (number : ℕ)
    (old new : FilesState O) : Type 0 where
  pub collection : Collection
  pub there : collection_at old.collections number ≡ Some collection
  pub managed : new.managed ≡ without collection.done old.managed
  pub collections : new.collections ≡ without_collection old.collections number
  pub spares : has collection.done meta_name ≡ false
  pub list : g.told.content → Listing (g.view old.outside).reads old.managed
      → Listing (g.view new.outside).reads new.managed
