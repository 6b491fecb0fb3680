-- What is held after an index was opened again, where it stands.
use Rattle.std.proofs.Common.{◌≡◌, ℕ, Bool, ◌||◌, List, Option, Some, None, option_map, is_some, refl, sym, ap, subst, ◌∙◌}
use Rattle.tv_formats.specs.Commits.{IndexForm}
use Rattle.tv_formats.specs.Collections.{no_collections}
use Rattle.tv_formats.specs.Meaning.{Means}
use Rattle.tv_machine.specs.Index.{as_opened}
use Rattle.tv_machine.specs.CollectionEvents.{left}
use Rattle.tv_machine.specs.ReopenEvents.{all_left, reopened}
use Rattle.tv_machine.specs.State.{Catalog, State, FileState, SealedFile, Open, Left, file_at}
use Rattle.tv_formats.specs.Names.{at}
use Rattle.tv_formats.proofs.SpelledCommits.{means_commit}
use Rattle.tv_device.specs.declared.directory.Directory.{Ghosts}
use Rattle.tv_store.specs.Kept.{FilesState, FileHolds, Holds, is_left, kept_of}
use Rattle.tv_store.specs.Reopening.{Reopens}
use Rattle.tv_store.proofs.OpenFiles.{at_seen}

-- a file that is left holds what its name reads
left_file : (file : Option FileState) (read written : Option (List ℕ)) → FileHolds file read written → FileHolds (option_map left file) read None
left_file None read written h = (h.0, refl)
left_file (Some (SealedFile bytes)) read written h = (h.0, refl)
left_file (Some (Open body)) read written h = (h.0, refl)
left_file (Some Left) read written h = (h.0, refl)

-- it was left before, or it was open
left_or_open : (file : Option FileState) (read written : Option (List ℕ)) → FileHolds file read written → (is_left file || is_some written) ≡ is_left (option_map left file)
left_or_open None read written h = ap is_some h.1
left_or_open (Some (SealedFile bytes)) read written h = ap is_some h.1
left_or_open (Some (Open body)) read written h = ap is_some h.1
left_or_open (Some Left) read written h = refl

was_file : (file : Option FileState) → is_some (option_map left file) ≡ is_some file
was_file None = refl
was_file (Some file) = refl

module _ {O W C : Type 0} (g : Ghosts O W C) (catalog : Catalog) (old new : FilesState O) (s : State) where
  -- what stands at a name
  now_at : (n : List ℕ) → file_at (reopened s) n ≡ option_map left (file_at s n)
  now_at n = at_seen left s.files n

  pub reopened_holds : Holds (g.view old.outside).reads (kept_of catalog old) s
      → new ≡ record old { collections = new.collections; open_files = new.open_files; left = new.left } → Reopens old new
      → Holds (g.view new.outside).reads (kept_of (as_opened catalog) new) (reopened s)
  reopened_holds h others told =
      subst (λ o. Holds (g.view o).reads (kept_of (as_opened catalog) new) (reopened s)) (sym (ap (λ v. v.outside) others)) (record {
        catalog = ap as_opened h.catalog;
        managed = ap (λ v. v.managed) others ∙ h.managed;
        collections = told.collections;
        segments = (means_commit old.form.settings old.form.schema h.meta.0 s.catalog.commit h.meta.2).0.segments;
        names = λ n some. h.names n (sym (ap is_some (now_at n) ∙ was_file (file_at s n)) ∙ some);
        files = λ n file.
            subst (λ (o : Option FileState). FileHolds o ((g.view old.outside).reads n) (at new.open_files n)) (sym (now_at n))
            (subst (FileHolds (option_map left (file_at s n)) ((g.view old.outside).reads n)) (sym (ap (λ (es : List (List ℕ × List ℕ)). at es n) told.open_files))
            (left_file (file_at s n) _ _ (h.files n file)));
        left = λ n file.
            told.left n
            ∙ ap (λ (b : Bool). b || is_some (at old.open_files n)) (h.left n file)
            ∙ left_or_open (file_at s n) _ _ (h.files n file)
            ∙ ap is_left (sym (now_at n));
        meta = (h.meta.0, h.meta.1, subst (λ (f : IndexForm). Means f.settings f.schema h.meta.0 s.catalog.commit) (sym (ap (λ v. v.form) others)) h.meta.2);
        listing = h.listing;
        listed = h.listed;
      })

  -- and with the catalog that was
  pub left_all_holds : Holds (g.view old.outside).reads (kept_of catalog old) s
      → new ≡ record old { collections = new.collections; open_files = new.open_files; left = new.left } → Reopens old new
      → Holds (g.view new.outside).reads (kept_of catalog new) (record s { files = all_left s.files; collections = no_collections })
  left_all_holds h others told =
      let all = reopened_holds h others told in
      record {
        catalog = h.catalog;
        managed = all.managed;
        collections = all.collections;
        segments = h.segments;
        names = all.names;
        files = all.files;
        left = all.left;
        meta = all.meta;
        listing = all.listing;
        listed = all.listed;
      }
