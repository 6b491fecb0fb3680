-- What is held after the steps of a collection.
use Rattle.std.proofs.Common.{◌≡◌, ℕ, Bool, true, false, true≢false, cond, filter, not, List, [], ◌∷◌, ◌++◌, Some, refl, sym, ap, subst, ◌∙◌}
use Rattle.tv_formats.specs.Names.{has, meta_name, at}
use Rattle.tv_formats.specs.Files.{Reads, Same}
use Rattle.tv_formats.specs.Listing.{Listing}
use Rattle.tv_machine.specs.Living.{living}
use Rattle.tv_formats.specs.Collections.{Collection, Collections, collectable, collection_at, having_tried, held, with_begun, with_collection, without, without_collection}
use Rattle.tv_machine.specs.CollectionEvents.{ended, garbage, having_deleted}
use Rattle.tv_machine.specs.State.{Catalog, State, FileState}
use Rattle.tv_formats.proofs.CollectedNames.{has_without}
use Rattle.tv_device.specs.declared.directory.Directory.{Ghosts}
use Rattle.tv_store.specs.CollectingCalls.{BeginsCollection, FinishesCollection, TriesNext, gone_of}
use Rattle.tv_store.specs.Kept.{FilesState, Holds, kept_of}
use Rattle.tv_catalog.specs.Kept.{KeptState}
use Rattle.tv_store.specs.Stays.{KeepsAllButList}
use Rattle.tv_store.proofs.CollectionEvents.{gone_holds, takes_garbage}
use Rattle.tv_store.proofs.Listings.{listing_kept}
use Rattle.tv_store.proofs.Holding.{same_holds}

-- nothing is gone
all_stay : {X : Type 0} (entries : List (List ℕ × X)) → filter (λ e. not (has [] e.0)) entries ≡ entries
all_stay [] = refl
all_stay {X} (e ∷ entries) = ap (λ (es : List (List ℕ × X)). e ∷ es) (all_stay entries)

-- other collections, and nothing else
recollected : (reads : Reads) (kept : KeptState) (s : State) (collections : Collections) → Holds reads kept s → Holds reads (record kept { collections = collections }) (record s { collections = collections })
recollected reads kept s collections h = record {
  catalog = h.catalog;
  managed = h.managed;
  collections = refl;
  segments = h.segments;
  names = h.names;
  files = h.files;
  left = h.left;
  meta = h.meta;
  listing = h.listing;
  listed = h.listed;
}

module _ {O W C : Type 0} (g : Ghosts O W C) (catalog : Catalog) (old new : FilesState O) (made : new.form ≡ old.form) (s : State) (h : Holds (g.view old.outside).reads (kept_of catalog old) s) where
  module _ (number : ℕ) (needed : List (List ℕ)) (needs : (n : List ℕ) → has needed n ≡ has (living catalog) n) (told : BeginsCollection number needed old new) where
    -- the collections are those of the step
    pub begun_are : new.collections ≡ with_begun s.collections (garbage s)
    begun_are =
        told.collections ∙ ap (λ (c : Collections). with_begun c (collectable (needed ++ held old.collections) old.managed)) h.collections
        ∙ ap (with_begun s.collections) (takes_garbage g catalog old new made s needed h needs)

    pub begun_holds : Same (g.view old.outside).reads (g.view new.outside).reads → new ≡ record old { outside = new.outside; collections = new.collections }
        → Holds (g.view new.outside).reads (kept_of catalog new) (record s { collections = with_begun s.collections (garbage s) })
    begun_holds same rest =
        subst (λ (c : Collections). Holds (g.view new.outside).reads (kept_of catalog new) (record s { collections = c })) begun_are
        (same_holds (g.view old.outside).reads (g.view new.outside).reads (record (kept_of catalog old) { collections = new.collections }) (kept_of catalog new) (record s { collections = new.collections }) same
        (ap (λ (v : FilesState O). kept_of catalog (record v { outside = new.outside; collections = new.collections })) rest)
        (recollected (g.view old.outside).reads (kept_of catalog old) s new.collections h))

  -- a name was tried
  pub stepped_holds : (number : ℕ) (name : List ℕ) (is_done : Bool) → g.told.content → (told : TriesNext g number old new name is_done)
      → Holds (g.view new.outside).reads (kept_of catalog new) (having_deleted s number told.collection name told.left_names is_done).1
  stepped_holds number name is_done tells told =
      let collections : new.collections ≡ with_collection s.collections number (having_tried told.collection name told.left_names is_done) =
      told.collections ∙ ap (λ (c : Collections). with_collection c number (having_tried told.collection name told.left_names is_done)) h.collections in
      let holds =
      gone_holds g catalog old new made s (gone_of name is_done) s.managed (with_collection s.collections number (having_tried told.collection name told.left_names is_done)) h told.spares (told.managed ∙ h.managed) collections
      (told.gone tells) (λ n isnt other. told.others tells n isnt) told.open_files told.left
      (listing_kept (g.view old.outside).reads (g.view new.outside).reads s.managed (λ n is. told.others tells n (told.listed n is)) h.listing) h.listed in
      elim is_done as (λ (b : Bool). Holds (g.view new.outside).reads (kept_of catalog new) (record s { files = filter (λ e. not (has (gone_of name b) e.0)) s.files; collections = with_collection s.collections number (having_tried told.collection name told.left_names is_done) })
      → Holds (g.view new.outside).reads (kept_of catalog new) (record s { files = cond b (filter (λ e. not (has (name ∷ []) e.0)) s.files) s.files; collections = with_collection s.collections number (having_tried told.collection name told.left_names is_done) })) [
        | true ↦ λ k. k
        | false ↦ λ k.
            subst (λ (files : List (List ℕ × FileState)). Holds (g.view new.outside).reads (kept_of catalog new) (record s { files = files; collections = with_collection s.collections number (having_tried told.collection name told.left_names is_done) })) (all_stay s.files) k
      ] holds

  -- the collection is that of the state
  pub found_there : (number : ℕ) (c : Collection) → collection_at old.collections number ≡ Some c → collection_at s.collections number ≡ Some c
  found_there number c there = ap (λ (k : Collections). collection_at k number) (sym h.collections) ∙ there

  -- a collection is finished
  pub ended_holds : (number : ℕ) → g.told.content → (told : FinishesCollection g number old new) → KeepsAllButList (g.view old.outside).reads (g.view new.outside).reads
      → new ≡ record old { outside = new.outside; managed = new.managed; collections = new.collections }
      → Holds (g.view new.outside).reads (kept_of catalog new) (ended s number told.collection).1
  ended_holds number tells told others rest =
      let managed : new.managed ≡ without told.collection.done s.managed = told.managed ∙ ap (without told.collection.done) h.managed in
      subst (λ (files : List (List ℕ × FileState)). Holds (g.view new.outside).reads (kept_of catalog new) (record s { files = files; managed = without told.collection.done s.managed; collections = without_collection s.collections number })) (all_stay s.files)
      (gone_holds g catalog old new made s [] (without told.collection.done s.managed) (without_collection s.collections number) h refl managed (told.collections ∙ ap (λ (c : Collections). without_collection c number) h.collections)
      (λ n is. absurd (true≢false (sym is))) (λ n is other. others n other) (λ n. ap (λ (v : FilesState O). at v.open_files n) rest) (λ n. ap (λ (v : FilesState O). has v.left n) rest)
      (subst (λ (ns : List (List ℕ)). Listing (g.view new.outside).reads ns) managed (told.list tells (subst (λ (ns : List (List ℕ)). Listing (g.view old.outside).reads ns) (sym h.managed) h.listing)))
      (has_without told.collection.done s.managed meta_name ∙ rw told.spares h.listed))
