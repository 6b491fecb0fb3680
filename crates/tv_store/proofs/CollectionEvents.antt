-- What is held after a collection, and after the end of a segment; and which files are sealed.
use Rattle.std.proofs.Common.{◌≡◌, filter, ℕ, inl, inr, ⊎_elim, Bool, true, false, true≢false, cond, not, ◌&&◌, ◌||◌, List, [], ◌∷◌, ◌++◌, length, Option, Some, None, option_map, is_some, refl, sym, ap, subst, ◌∙◌, arith}
use Rattle.std.specs.List.{AllByRecursion}
use Rattle.tv_formats.specs.Names.{is, has, meta_name, at}
use Rattle.tv_formats.specs.Files.{RoseBy}
use Rattle.tv_formats.specs.Listing.{IsListFile, Listing}
use Rattle.tv_formats.specs.Collections.{Collections, done_of, failed_of, collectable, held, without}
use Rattle.tv_machine.specs.Living.{living}
use Rattle.tv_machine.specs.State.{Catalog, State, FileState, SealedFile, Open, Left, file_at}
use Rattle.tv_machine.specs.CollectionEvents.{garbage, without_files, left, with_left}
use Rattle.tv_machine.specs.Machine.{refused_in}
use Rattle.tv_formats.specs.Meaning.{Means}
use Rattle.tv_formats.specs.Commits.{Commit, IsSegment, IndexForm}
use Rattle.tv_formats.proofs.CollectedNames.{has_without, at_without}
use Rattle.tv_machine.proofs.CollectionStates.{living_spared, meta_living, at_left}
use Rattle.tv_device.specs.declared.directory.Directory.{Ghosts}
use Rattle.tv_managed.specs.Collecting.{FailsAtMost}
use Rattle.tv_store.specs.FileCalls.{TriesNames, Collects, LeavesFiles}
use Rattle.tv_store.specs.Kept.{FilesState, Holds, FileHolds, is_left, kept_of}
use Rattle.tv_store.proofs.Listings.{undotted_isnt_list}
use Rattle.tv_catalog.proofs.SharedLaws.{same_collectable, same_needs}

-- ---- a collection

-- as many deletes were refused as names failed
refused_is : (names : List (List ℕ)) (outcomes : List Bool) → length outcomes ≡ length names → refused_in outcomes ≡ length (failed_of names outcomes)
refused_is [] [] e = refl
refused_is [] (o ∷ outcomes) e = absurd (omega arith)
refused_is (n ∷ names) [] e = absurd (omega arith)
refused_is (n ∷ names) (true ∷ outcomes) e = refused_is names outcomes (omega arith)
refused_is (n ∷ names) (false ∷ outcomes) e = let k = refused_is names outcomes (omega arith) in omega (arith, k)

held_file : (g : Bool) (file : Option FileState) (read was is_open was_open : Option (List ℕ)) → (g ≡ true → read ≡ None) → (g ≡ false → read ≡ was) → is_open ≡ cond g None was_open → FileHolds file was was_open
    → FileHolds (cond (not g) file None) read is_open
held_file true file read was is_open was_open gone other is h = (gone refl, is)
held_file false file read was is_open was_open gone other is h = rw (other refl, is) h

left_stays : (g b now : Bool) (file : Option FileState) → now ≡ (not g && b) → b ≡ is_left file → now ≡ is_left (cond (not g) file None)
left_stays true b now file e h = e
left_stays false b now file e h = e ∙ h

was_there : (g : Bool) (file : Option FileState) → is_some (cond (not g) file None) ≡ true → is_some file ≡ true
was_there true file h = absurd (true≢false (sym h))
was_there false file h = h

-- ---- the end of a segment

left_file : (b : Bool) (file : Option FileState) (read is_open was_open : Option (List ℕ)) → is_open ≡ cond b None was_open → FileHolds file read was_open → FileHolds (option_map (λ f. cond b (left f) f) file) read is_open
left_file false None read is_open was_open e h = (h.0, e ∙ h.1)
left_file false (Some file) read is_open was_open e h = rw e h
left_file true None read is_open was_open e h = (h.0, e)
left_file true (Some (SealedFile bytes)) read is_open was_open e h = (h.0, e)
left_file true (Some (Open body)) read is_open was_open e h = (h.0, e)
left_file true (Some Left) read is_open was_open e h = (h.0, e)

was_named : (b : Bool) (file : Option FileState) → is_some (option_map (λ f. cond b (left f) f) file) ≡ true → is_some file ≡ true
was_named b None h = h
was_named b (Some file) h = refl

-- a file of the names is left where it was open, and any other is as it was
left_is : (b : Bool) (file : Option FileState) (read is_open : Option (List ℕ)) → (b ≡ true → FileHolds file read is_open) → (is_left file || (b && is_some is_open)) ≡ is_left (option_map (λ f. cond b (left f) f) file)
left_is false None read is_open h = refl
left_is false (Some (SealedFile bytes)) read is_open h = refl
left_is false (Some (Open body)) read is_open h = refl
left_is false (Some Left) read is_open h = refl
left_is true None read is_open h = ap is_some (h refl).1
left_is true (Some (SealedFile bytes)) read is_open h = ap is_some (h refl).1
left_is true (Some (Open body)) read is_open h = ap is_some (h refl).1
left_is true (Some Left) read is_open h = refl

-- ---- the states that are held

module _ {O W C : Type 0} (g : Ghosts O W C) (catalog : Catalog) (old new : FilesState O) (made : new.form ≡ old.form) (s : State) where
  -- what `meta.json` means stays
  still : (text : List ℕ) → Means old.form.settings old.form.schema text s.catalog.commit → Means new.form.settings new.form.schema text s.catalog.commit
  still text means = subst (λ (f : IndexForm). Means f.settings f.schema text s.catalog.commit) (sym made) means

  -- after the files of some names are gone, with these managed names and these collections
  pub gone_holds : (gone managed : List (List ℕ)) (collections : Collections) → Holds (g.view old.outside).reads (kept_of catalog old) s → has gone meta_name ≡ false
      → new.managed ≡ managed → new.collections ≡ collections
      → ((n : List ℕ) → has gone n ≡ true → (g.view new.outside).reads n ≡ None) → ((n : List ℕ) → has gone n ≡ false → (IsListFile n → ⊥) → (g.view new.outside).reads n ≡ (g.view old.outside).reads n)
      → ((n : List ℕ) → at new.open_files n ≡ cond (has gone n) None (at old.open_files n)) → ((n : List ℕ) → has new.left n ≡ (not (has gone n) && has old.left n))
      → Listing (g.view new.outside).reads managed → has managed meta_name ≡ true
      → Holds (g.view new.outside).reads (kept_of catalog new) (record s { files = filter (λ e. not (has gone e.0)) s.files; managed = managed; collections = collections })
  gone_holds gone managed collections h spared names are absent others open_files left_files listing listed = record {
    catalog = h.catalog;
    managed = names;
    collections = are;
    segments = h.segments;
    names = λ n is. h.names n (was_there (has gone n) (file_at s n) (sym (ap is_some (at_without gone s.files n)) ∙ is));
    files = λ n file.
        subst (λ (o : Option FileState). FileHolds o ((g.view new.outside).reads n) (at new.open_files n)) (sym (at_without gone s.files n))
        (held_file (has gone n) (file_at s n) _ _ _ _ (absent n) (λ e. others n e (undotted_isnt_list n file.0)) (open_files n) (h.files n file));
    left = λ n file. left_stays (has gone n) (has old.left n) (has new.left n) (file_at s n) (left_files n) (h.left n file) ∙ ap is_left (sym (at_without gone s.files n));
    meta = (h.meta.0, others meta_name spared (undotted_isnt_list meta_name refl) ∙ h.meta.1, still h.meta.0 h.meta.2);
    listing = listing;
    listed = listed;
  }

  -- after a collection
  collected_holds : (names deleted failed : List (List ℕ)) → g.told.content → Holds (g.view old.outside).reads (kept_of catalog old) s → has deleted meta_name ≡ false → Collects g names old new deleted failed
      → (Listing (g.view old.outside).reads old.managed → Listing (g.view new.outside).reads new.managed)
      → Holds (g.view new.outside).reads (kept_of catalog new) (without_files s deleted)
  collected_holds names deleted failed tells h spared told list =
      let managed : new.managed ≡ without deleted s.managed = told.tried.managed ∙ ap (without deleted) h.managed in
      gone_holds deleted (without deleted s.managed) s.collections h spared managed (told.collections ∙ h.collections) (told.tried.gone tells) (told.tried.others tells) told.open_files told.left
      (subst (λ (ns : List (List ℕ)). Listing (g.view new.outside).reads ns) managed (list (subst (λ (ns : List (List ℕ)). Listing (g.view old.outside).reads ns) (sym h.managed) h.listing)))
      (has_without deleted s.managed meta_name ∙ rw spared h.listed)

  -- a collection takes the names that nothing needs
  pub takes_garbage : (needed : List (List ℕ)) → Holds (g.view old.outside).reads (kept_of catalog old) s → ((n : List ℕ) → has needed n ≡ has (living catalog) n)
      → collectable (needed ++ held old.collections) old.managed ≡ garbage s
  takes_garbage needed h needs =
      ap (collectable (needed ++ held old.collections)) h.managed
      ∙ same_collectable (needed ++ held old.collections) (living s.catalog ++ held s.collections) s.managed
      (same_needs needed old.collections s.collections s.catalog h.collections (λ n. needs n ∙ ap (λ (c : Catalog). has (living c) n) h.catalog))

  -- the state after a collection
  pub collected : (needed deleted failed : List (List ℕ)) → g.told.content → Holds (g.view old.outside).reads (kept_of catalog old) s → ((n : List ℕ) → has needed n ≡ has (living catalog) n)
      → (told : Collects g needed old new deleted failed) → (Listing (g.view old.outside).reads old.managed → Listing (g.view new.outside).reads new.managed)
      → Holds (g.view new.outside).reads (kept_of catalog new) (without_files s (done_of (garbage s) told.tried.outcomes))
  collected needed deleted failed tells h needs told list =
      let outcomes = told.tried.outcomes in
      let all : collectable (needed ++ held old.collections) old.managed ≡ garbage s = takes_garbage needed h needs in
      let done : deleted ≡ done_of (garbage s) outcomes = told.tried.deleted_is ∙ ap (λ (ns : List (List ℕ)). done_of ns outcomes) all in
      let spared : has deleted meta_name ≡ false = ap (λ (ns : List (List ℕ)). has ns meta_name) done ∙ living_spared s outcomes meta_name (meta_living s) in
      subst (λ (ns : List (List ℕ)). Holds (g.view new.outside).reads (kept_of catalog new) (without_files s ns)) done (collected_holds needed deleted failed tells h spared told list)

  -- and the state with this catalog, after the open ones of some files were left
  pub left_holds : (names : List (List ℕ)) (after : Catalog) → Holds (g.view old.outside).reads (kept_of catalog old) s → AllByRecursion IsSegment after.live → after.commit ≡ s.catalog.commit
      → new ≡ record old { open_files = new.open_files; left = new.left } → LeavesFiles names old new
      → Holds (g.view new.outside).reads (kept_of after new) (record s { catalog = after; files = with_left names s.files })
  left_holds names after h segments commit others told =
      subst (λ o. Holds (g.view o).reads (kept_of after new) (record s { catalog = after; files = with_left names s.files })) (sym (ap (λ v. v.outside) others)) (record {
        catalog = refl;
        managed = ap (λ v. v.managed) others ∙ h.managed;
        collections = ap (λ v. v.collections) others ∙ h.collections;
        segments = segments;
        names = λ n some. h.names n (was_named (has names n) (file_at s n) (sym (ap is_some (at_left names s.files n)) ∙ some));
        files = λ n file.
            subst (λ (o : Option FileState). FileHolds o ((g.view old.outside).reads n) (at new.open_files n)) (sym (at_left names s.files n))
            (left_file (has names n) (file_at s n) _ _ _ (told.open_files n) (h.files n file));
        left = λ n file.
            told.left n
            ∙ ap (λ (b : Bool). b || (has names n && is_some (at old.open_files n))) (h.left n file)
            ∙ left_is (has names n) (file_at s n) _ _ (λ named. h.files n file)
            ∙ ap is_left (sym (at_left names s.files n));
        meta = (h.meta.0, h.meta.1, subst (λ (c : Commit). Means new.form.settings new.form.schema h.meta.0 c) (sym commit) (still h.meta.0 h.meta.2));
        listing = h.listing;
        listed = h.listed;
      })

-- how the count of refused deletes rose
pub refusals_rose : {O W C : Type 0} (g : Ghosts O W C) (names : List (List ℕ)) (old new : FilesState O) (deleted failed : List (List ℕ)) (told : TriesNames g names old new deleted failed) (start end : ℕ)
    → FailsAtMost (length failed) start end → RoseBy (refused_in told.outcomes) start end
refusals_rose g names old new deleted failed told start end h =
    let same = refused_is names told.outcomes told.each ∙ ap length (sym told.failed_is) in
    ⊎_elim (λ most. inl (omega (arith, most, same))) (λ full. inr (omega (arith, full))) h
