-- What a crash may leave of an opening from a sound directory.
use Rattle.std.proofs.Common.{◌≡◌, ◌<◌, ◌≤◌, ⊎_elim, inl, inr, ℕ, true, is_some, List, [], ◌∷◌, ◌++◌, Result, Ok, Err, Some, refl, sym, ap, subst, ◌∙◌, arith}
use Rattle.std.proofs.lemmas.Bool.{cases_lt}
use Rattle.std.proofs.lemmas.List.{append-nil}
use Rattle.std.specs.Result.{IsErrAnd}
use Rattle.tv_base.specs.declared.error.TantivyError.{TantivyError}
use Rattle.tv_crashes.proofs.StoredImages.{fewer_safe}
use Rattle.tv_crashes.proofs.ToldLines.{line_of_one, no_feed_no_line, not_yet, told_then}
use Rattle.tv_crashes.specs.Runs.{HearsNoLine, OpensWhole, Seen}
use Rattle.tv_crashes.specs.Stored.{HasOneState, IsFromStart, IsSafe, IsStored, StateMeans, sealed_bytes, stored_of}
use Rattle.tv_device.specs.Images.{StandsNow}
use Rattle.tv_device.specs.Locks.{SameLocks}
use Rattle.tv_device.specs.declared.directory.Directory.{Ghosts}
use Rattle.tv_formats.proofs.Required.{required_by_one}
use Rattle.tv_formats.specs.Commits.{IndexForm, default_settings, first_commit}
use Rattle.tv_formats.specs.Disk.{Absent, IsImage, IsSettled, MayLeave, Sealed, possible_now}
use Rattle.tv_formats.specs.Files.{Reads}
use Rattle.tv_formats.specs.Meaning.{Means}
use Rattle.tv_formats.specs.Names.{at, has, meta_name}
use Rattle.tv_formats.specs.Schemas.{IsSchema, stripped}
use Rattle.tv_formats.specs.Segments.{all_required}
use Rattle.tv_formats.specs.Sound.{IsSoundDirectory, IsSoundImage}
use Rattle.tv_index.specs.CrashLaws.{looks_make, looks_none}
use Rattle.tv_index.specs.Crashes.{LacksMeta, MayMake, OnlyLooks, TracksFrom}
use Rattle.tv_index.specs.Opening.{first_text}
use Rattle.tv_machine.specs.Index.{OpenedIndex}
use Rattle.tv_machine.specs.Lines.{opening_line, opening_of}
use Rattle.tv_machine.specs.Readable.{CanRead}
use Rattle.tv_machine.specs.State.{Catalog, SealedFile, file_at}
use Rattle.tv_managed.specs.declared.managed_directory.Refused.{Refused}
use Rattle.tv_store.specs.Durable.{IsDurable, store_files}
use Rattle.tv_store.specs.Kept.{FileHolds, FilesState, IsHeld, StoreState, kept_below, kept_of}
use Rattle.tv_store.specs.Making.{OpensCommit}
use Rattle.tv_store.specs.Opening.{OpensOrRefuses}
use Rattle.tv_store.specs.Surviving.{RefusesSafely, SurvivesOpening, seen_of}
use Rattle.tv_store.specs.Telling.{TellsLine, TellsNoLine}
use Rattle.tv_store.specs.UnderLock.{FindsUnderLock}
use Rattle.tv_store.proofs.FoundStates.{first_means}
use Rattle.tv_store.proofs.Opened.{opened, told_since}
use Rattle.tv_store.proofs.OpenedSound.{file_sealed, from_start, images_list, meta_sealed, unread_absent}

-- of what was told nothing is a whole line
hears_none : {old new : Seen} → TellsNoLine old.heard new.heard → HearsNoLine old new
hears_none {old} {new} (inl same) = record { pieces = []; heard = same ∙ sym (append-nil old.heard); none = refl }
hears_none {old} {new} (inr (moment, part, no_feed, told)) = record { pieces = (moment, part) ∷ []; heard = told; none = no_feed_no_line moment part no_feed }

module _ {O W C : Type 0} (g : Ghosts O W C) (outside : O) (schema : List ℕ) (content : g.told.content) (stands : (d : O) → StandsNow (g.view d) (g.disk d))
    (sound : IsSoundDirectory (stripped schema) (g.disk outside) (g.view outside).locks) where
  -- there is no `meta.json`, and that of a new index means its commit
  abbrev pub IsNew : Type 0
  IsNew = ((g.disk outside).now meta_name ≡ Absent) × Means default_settings (stripped schema) (first_text (stripped schema)) first_commit

  -- so it is where none reads
  pub new_index : (text : List ℕ) → IsSchema schema text → LacksMeta g outside → IsNew
  new_index text spelled lacks = (
    unread_absent ((g.disk outside).now meta_name) ((g.view outside).reads meta_name) ((stands outside).reads meta_name) (lacks content),
    subst (λ (x : List ℕ). Means default_settings x (first_text x) first_commit) spelled.text_is (first_means text spelled.tree spelled.form),
  )

  -- ---- whatever it answers

  module _ {made : Type 0} (new : made → IsNew) (now : O) (makes : MayMake g made (first_text (stripped schema)) outside now) where
    -- each image is from this start
    pub at_each : (x : ℕ) → (g.disk outside).moment ≤ x → x ≤ (g.disk now).moment → (image : Reads) → MayLeave (g.disk now) x image → IsFromStart (stripped schema) (g.disk outside) image
    at_each x from to image left =
        from_start (stands outside) sound.images new ((makes.listed (images_list (stands outside) sound.images)).each x from to) image left (makes.moments.each x from to)

    -- and so each is sound at the end
    sound_after : (image : Reads) → IsImage (possible_now (g.disk now)) image → IsSoundImage (stripped schema) image
    sound_after image left = (at_each (g.disk now).moment makes.moments.later (omega arith) image left).sound

    refused_at : (error : TantivyError) → TellsNoLine (g.view outside).heard (g.view now).heard → SameLocks (g.view outside).locks (g.view now).locks
        → RefusesSafely g outside schema (record { error = error; directory = now })
    refused_at error untold same = record {
      untold = record { silent = hears_none untold; before = at_each };
      sound = record { images = sound_after; free = λ lock. same lock ∙ sound.free lock };
    }

  -- ---- it was refused

  -- where the bytes spell a schema
  refused_safely : (refused : Refused O) (text : List ℕ) → IsSchema schema text → OpensOrRefuses g outside schema (Err refused) → g.tells_images → g.told.heard → g.told.locks
      → RefusesSafely g outside schema refused
  refused_safely refused text spelled o tells heard locks =
      refused_at (new_index text spelled) refused.directory
      (subst (λ (x : List ℕ). MayMake g (LacksMeta g outside) (first_text x) outside refused.directory) spelled.text_is ((o.safe tells).err text spelled))
      refused.error (o.tells.err heard) (o.locks.err locks)

  -- where nothing was done
  undone_safely : (error : TantivyError) → RefusesSafely g outside schema (record { error = error; directory = outside })
  undone_safely error =
      refused_at {made = ⊥} (λ never. absurd never) outside (looks_make g (first_text (stripped schema)) ⊥ (looks_none g outside)) error (inl refl) (λ n. refl)

  -- ---- the index is open

  module _ (store : StoreState O) (o : OpensOrRefuses g outside schema (Ok store)) (tells : g.tells_images) (index : OpenedIndex schema (g.view outside).reads) where
    abbrev form : IndexForm
    form = store.kept.form

    makes : MayMake g (LacksMeta g outside) (first_text (stripped schema)) outside store.outside
    makes = subst (λ (x : List ℕ). MayMake g (LacksMeta g outside) (first_text x) outside store.outside) o.opens.spelled.text_is (o.safe tells).ok

    tracks : TracksFrom g outside (kept_below store)
    tracks = (o.safe tells).tracks

    held : (form ≡ index.form) × IsHeld g store index.state × CanRead index.state
    held = o.opens.holds content index

    sound_end : (image : Reads) → IsImage (possible_now (g.disk store.outside)) image → IsSoundImage (stripped schema) image
    sound_end = sound_after (new_index form.schema o.opens.spelled) store.outside makes

    -- what `meta.json` reads is sealed
    meta_stands : (g.disk store.outside).now meta_name ≡ Sealed held.1.meta.0
    meta_stands = meta_sealed (stands store.outside) sound_end held.1.meta.0 held.1.meta.1

    -- and so is each file that the commit requires
    file_stands : (n bytes : List ℕ) → has (all_required index.state.catalog.commit.segments) n ≡ true → file_at index.state n ≡ Some (SealedFile bytes) → (g.disk store.outside).now n ≡ Sealed bytes
    file_stands n bytes required there =
        let commit = index.state.catalog.commit in
        let read = (g.view store.outside).reads n in
        let meta = held.1.meta in
        file_sealed (stands store.outside) sound_end form.settings meta.0 commit meta.1 (subst (λ (x : List ℕ). Means form.settings x meta.0 commit) o.opens.spelled.text_is meta.2) n bytes
        (ap (λ (names : List (List ℕ)). has names n) (required_by_one commit) ∙ required)
        (subst (λ f. FileHolds f read (at store.kept.open_files n)) there (held.1.files n (held.1.names n (ap is_some there)))).0

    one_state : HasOneState (possible_now (g.disk store.outside)) (stored_of form index.state)
    one_state = record {
      each = λ n needs.
          let required = ap (λ (names : List (List ℕ)). has names n) (sym (required_by_one index.state.catalog.commit)) ∙ needs in
          let good = held.2.0.each n required in
          (good.0, ap sealed_bytes good.1, λ t left. tracks.settled.each n t left ∙ file_stands n good.0 required good.1);
    }

    stored_end : IsStored (stored_of form index.state) (stored_of form index.state) (possible_now (g.disk store.outside))
    stored_end = record {
      each = λ meta left. inl (subst (λ m. StateMeans m (stored_of form index.state)) (sym (tracks.settled.each meta_name meta left ∙ meta_stands)) held.1.meta.2, one_state);
    }

    -- a crash can't hurt its files
    durable : IsDurable g (store_files store) index.state
    durable =
        let lists = images_list (stands outside) sound.images in
        record {
          tracked = tracks.tracked lists;
          listed = tracks.listed lists;
          stored = stored_end;
          sealed = λ n bytes required there. file_stands n bytes (subst (λ segments. has (all_required segments) n ≡ true) index.opens.live required) there;
        }

    safe_end : IsSafe (stored_of index.form index.state) (stored_of index.form index.state) (possible_now (g.disk store.outside))
    safe_end = subst (λ (f : IndexForm). IsSafe (stored_of f index.state) (stored_of f index.state) (possible_now (g.disk store.outside))) held.0
        (record { listed = durable.tracked.forgets_none; stored = stored_end })

    -- its line was told since all was settled
    module _ (mid : O) (settled : IsSettled (g.disk mid)) (looks : OnlyLooks g mid store.outside)
        (line : TellsLine (g.view outside).heard (g.view store.outside).heard (g.view mid).moment (g.view store.outside).moment (opening_of store.kept.catalog.commit)) where
      safe_mid : IsSafe (stored_of index.form index.state) (stored_of index.form index.state) (possible_now (g.disk mid))
      safe_mid = fewer_safe _ _ (possible_now (g.disk store.outside)) (possible_now (g.disk mid))
          (record { each = λ n t left. subst (possible_now (g.disk store.outside) n) (looks.stands n ∙ sym (settled.each n t left)) ((stands store.outside).possible n) }) safe_end

      opens_whole : OpensWhole index.form (seen_of g outside) (seen_of g store.outside) index.state
      opens_whole =
          let said : opening_of store.kept.catalog.commit ≡ opening_line index.state = ap (λ (c : Catalog). opening_of c.commit) held.1.catalog in
          record {
            lines = (line.moment, opening_line index.state ++ 10 ∷ []) ∷ [];
            heard = line.heard ∙ ap (λ (l : List ℕ). (g.view outside).heard ++ (line.moment, l ++ 10 ∷ []) ∷ []) said;
            whole = line_of_one line.moment (opening_line index.state);
            all = λ x late. told_then x line.moment (opening_line index.state) (omega (arith, late, line.sooner, (stands store.outside).clock));
            later = makes.moments.later;
            before = λ x from to none image left.
                subst (λ (y : List ℕ). IsFromStart y (g.disk outside) image) (sym index.spelled.text_is)
                (at_each (new_index form.schema o.opens.spelled) store.outside makes x from to image left);
            now = λ x from to one.
                let told : line.moment ≤ x = ⊎_elim
                (λ (early : x < line.moment). let e : 0 ≡ 1 = sym (not_yet x line.moment (opening_line index.state) early) ∙ one in cc)
                (λ late. late) (cases_lt x line.moment) in
                fewer_safe _ _ (possible_now (g.disk mid)) ((g.disk store.outside).possible x) (looks.moments.each x (omega (arith, told, line.later, (stands mid).clock)) to) safe_mid;
          }

-- ---- as it is promised

module _ {O W C : Type 0} (g : Ghosts O W C) (more : g.tells_images → g.told.content) (stands : (d : O) → g.tells_images → StandsNow (g.view d) (g.disk d)) (outside : O) (schema : List ℕ) where
  -- the bytes spell no schema, or memory was wanted for it
  pub survives_undone : (error : TantivyError) → SurvivesOpening g outside schema (Err (record { error = error; directory = outside }))
  survives_undone error tells heard locks sound = undone_safely g outside schema (more tells) (λ d. stands d tells) sound error

  -- they spell one
  pub survives_refused : (refused : Refused O) (text : List ℕ) → IsSchema schema text → OpensOrRefuses g outside schema (Err refused) → SurvivesOpening g outside schema (Err refused)
  survives_refused refused text spelled o tells heard locks sound = refused_safely g outside schema (more tells) (λ d. stands d tells) sound refused text spelled o tells heard locks

  -- what holds of a refusal holds of the answer that hands it on
  pub survives_with : (result : Result (StoreState O) (Refused O)) (refused : Refused O) → IsErrAnd result (λ r. r ≡ refused) → SurvivesOpening g outside schema (Err refused) → SurvivesOpening g outside schema result
  survives_with (Ok store) refused never h = absurd never
  survives_with (Err other) refused same h = subst (λ (r : Refused O). SurvivesOpening g outside schema (Err r)) (sym same) h

  -- the line was told
  pub survives_begun : (catalog : Catalog) (files : FilesState O) (u : FindsUnderLock g outside schema catalog files) (begins : Catalog) (is : begins ≡ catalog) (started : FilesState O)
      (s : OpensCommit {A = Catalog} g catalog.commit files started (Ok begins)) → SurvivesOpening g outside schema (Ok (record { kept = kept_of begins started; outside = started.outside; standing = record { is_open = true } }))
  survives_begun catalog files u begins is started s tells heard locks sound =
      let store : StoreState O = record { kept = kept_of begins started; outside = started.outside; standing = record { is_open = true } } in
      let o = opened g outside schema catalog files u begins is started s in
      let line = subst (λ (k : Catalog). TellsLine (g.view outside).heard (g.view started.outside).heard (g.view files.outside).moment (g.view started.outside).moment (opening_of k.commit)) (sym is)
      (told_since g outside schema catalog files u begins is started s heard) in
      record {
        opens = λ index. opens_whole g outside schema (more tells) (λ d. stands d tells) sound store o tells index files.outside (u.found.makes tells).1.settled (s.looks tells) line;
        durable = λ index. durable g outside schema (more tells) (λ d. stands d tells) sound store o tells index;
      }
