-- What an opening does, put together: the lock was taken, an index was found under it, and its line was told, or not.
use Rattle.std.proofs.Common.{◌≡◌, inl, inr, ℕ, ◌≤◌, true, true≢false, List, [], ◌∷◌, ◌++◌, length, Result, Ok, Err, refl, sym, ap, subst, ◌∙◌, arith}
use Rattle.std.proofs.Math.Path.{fun_ext}
use Rattle.std.specs.Prelude.{IsSome}
use Rattle.std.specs.List.{AllByRecursion}
use Rattle.std.specs.Result.{IsErrAnd}
use Rattle.tv_base.specs.declared.error.TantivyError.{TantivyError}
use Rattle.tv_base.specs.declared.error.TantivyError.TheVariants as errors
use Rattle.tv_base.specs.declared.open_errors.OpenReadError.{OpenReadError}
use Rattle.tv_base.specs.declared.open_errors.OpenReadError.TheVariants as read
use Rattle.tv_device.specs.Calls.{Frees}
use Rattle.tv_device.specs.Images.{KeepsDisk}
use Rattle.tv_device.specs.Locks.{SameLocks}
use Rattle.tv_device.specs.View.{OnlyTells}
use Rattle.tv_device.specs.ViewLaws.{deletes_then}
use Rattle.tv_device.specs.Watch.{WatchState, MayNote, noted}
use Rattle.tv_device.specs.declared.directory.Directory.{Ghosts}
use Rattle.tv_managed.specs.declared.managed_directory.Refused.{Refused}
use Rattle.tv_managed.specs.Collecting.{TakesNoLock}
use Rattle.tv_formats.specs.Commits.{Commit}
use Rattle.tv_formats.specs.Files.{Reads, Heard, Rose, Same}
use Rattle.tv_machine.specs.Index.{FoundIndex, OpenedIndex, found_commits}
use Rattle.tv_formats.specs.Sound.{HasFiles}
use Rattle.tv_machine.specs.Lines.{opening_of}
use Rattle.tv_formats.specs.Names.{has, meta_name}
use Rattle.tv_machine.specs.Readable.{CanRead}
use Rattle.tv_formats.specs.Schemas.{IsSchema}
use Rattle.tv_formats.specs.Segments.{all_required}
use Rattle.tv_machine.specs.State.{Catalog}
use Rattle.tv_index.specs.CrashLaws.{looks_kept, looks_then, makes_behind, makes_then, tracks_behind, tracks_then}
use Rattle.tv_index.specs.Crashes.{LacksMeta, MayMake, TracksFrom}
use Rattle.tv_index.specs.Opening.{Finds, LeavesFound, LeavesUnopened, NotesNone, first_text}
use Rattle.tv_store.specs.Bodies.{ReadsGoodFile}
use Rattle.tv_catalog.specs.Kept.{KeptState}
use Rattle.tv_store.specs.Kept.{FilesState, Holds, StoreState, kept_of}
use Rattle.tv_store.specs.Making.{OpensCommit, FindsFiles, IsRefusedFirst, WritesNone}
use Rattle.tv_store.specs.Opening.{Opens, OpensOrRefuses}
use Rattle.tv_store.specs.OpeningCauses.{CallFacts, IndexMissing, IndexRefused, IsFirstBad, IsSomeSchema, MeetsMissing, MeetsRefused, OpeningCause, opening_facts}
use Rattle.tv_store.specs.ReadCauses.{ApplyCause, ReadFault, reading_facts}
use Rattle.tv_store.specs.Stays.{MayNotify}
use Rattle.tv_store.specs.StoreCauses.{MakesNoFile, writer_lock_name}
use Rattle.tv_store.specs.Telling.{TellsLine, TellsFirstPart, TellsNoLine}
use Rattle.tv_store.specs.UnderLock.{FindsUnderLock, IsUnderLock}
use Rattle.tv_formats.proofs.CollectedNames.{has_front}
use Rattle.tv_formats.proofs.Required.{required_by_one}
use Rattle.tv_machine.proofs.Required.{required_is_file}
use Rattle.tv_store.proofs.Asking.{kept_by_files}
use Rattle.tv_store.proofs.FoundStates.{can_read, commit_is, had_files, held_at, read_before, the_found}
use Rattle.tv_store.proofs.Holding.{same_holds, dotted_others}
use Rattle.tv_store.proofs.ReaderEvents.{has_middle}
use Rattle.tv_store.proofs.StoreLocks.{freed_after, took_then}

pub same_unopened : (old mid new : Reads) (schema : List ℕ) → LeavesFound old mid schema → Same mid new → LeavesUnopened old new schema
same_unopened old mid new schema h same = record {
  stood = λ some n. same n ∙ h.stood some n;
  others = λ n other list. same n ∙ h.others n other list;
  made = λ none. inr (same meta_name ∙ h.made none);
}

-- why the line wasn't told, as a cause of an opening
begun_cause : (facts : CallFacts) (schema : List ℕ) (reads : Reads) (bad : OpenReadError → Type 0) (absent : List ℕ → Type 0) (error : TantivyError)
    → IsSomeSchema schema → (facts.tells → FoundIndex schema reads) → facts.free → ((e : OpenReadError) → bad e → facts.tells → IndexRefused schema reads e) → ((path : List ℕ) → absent path → facts.tells → IndexMissing schema reads path)
    → (facts.refused → facts.refused_behind) → (facts.quiet → facts.quiet_behind) → MakesNoFile error → TakesNoLock error → ApplyCause (reading_facts facts.refused facts.quiet bad absent) error → OpeningCause facts schema reads error
begun_cause facts schema reads bad absent (errors.OpenReadError error) is found free b a r q file lock h = (is, found, free, fault error h) where
  fault : (e : OpenReadError) → ReadFault facts.refused facts.quiet bad absent e → ReadFault facts.refused facts.quiet (λ e. facts.tells → IndexRefused schema reads e) (λ path. facts.tells → IndexMissing schema reads path) e
  fault (read.IoError why path) (inl k) = inl k
  fault (read.IoError why path) (inr k) = inr (k.0, k.1, k.2, b _ k.3)
  fault (read.FileDoesNotExist path) k = (k.0, k.1, a _ k.2)
  fault (read.IncompatibleIndex why) k = (k.0, b _ k.1)
  fault read.Memory k = absurd k
begun_cause facts schema reads bad absent (errors.LockFailure why text) is found free b a r q file lock h = absurd lock
begun_cause facts schema reads bad absent (errors.IoError fault) is found free b a r q file lock h = (is.0, is.1, (h.0, r h.1))
begun_cause facts schema reads bad absent (errors.OpenWriteError error) is found free b a r q file lock h = absurd file
begun_cause facts schema reads bad absent errors.Exhausted is found free b a r q file lock h = absurd h.1
begun_cause facts schema reads bad absent errors.Memory is found free b a r q file lock h = q h
begun_cause facts schema reads bad absent other is found free b a r q file lock h = absurd h

-- no argument and no bytes are refused behind the lock
not_first : (refused quiet : Type 0) (bad : OpenReadError → Type 0) (absent : List ℕ → Type 0) (error : TantivyError) → IsRefusedFirst error → TakesNoLock error → ApplyCause (reading_facts refused quiet bad absent) error → ⊥
not_first refused quiet bad absent (errors.InvalidArgument text) r l h = h
not_first refused quiet bad absent (errors.DataCorruption why) r l h = h
not_first refused quiet bad absent (errors.SchemaError text) r l h = h
not_first refused quiet bad absent (errors.LockFailure why text) r l h = l
not_first refused quiet bad absent other r l h = r

-- the first file that can't be read, seen from before the opening
first_before : (old now : Reads) (names : List (List ℕ)) (path : List ℕ) → ((n : List ℕ) → has names n ≡ true → now n ≡ old n) → IsFirstBad now names path → IsFirstBad old names path
first_before old now names path same h = record {
  front = h.front;
  rest = h.rest;
  split = h.split;
  good = λ n front. subst ReadsGoodFile (same n (subst (λ (ns : List (List ℕ)). has ns n ≡ true) (sym h.split) (has_front h.front (path ∷ h.rest) n front))) (h.good n front);
}

refused_before : (old now : Reads) (names : List (List ℕ)) (error : OpenReadError) → ((n : List ℕ) → has names n ≡ true → now n ≡ old n) → MeetsRefused now names error → MeetsRefused old names error
refused_before old now names error same (path, first, refused) = (
  path,
  first_before old now names path same first,
  record { bytes = refused.bytes; there = sym (same path (has_middle names first.front first.rest path first.split)) ∙ refused.there; why = refused.why; no_body = refused.no_body },
)

missing_before : (old now : Reads) (names : List (List ℕ)) (path : List ℕ) → ((n : List ℕ) → has names n ≡ true → now n ≡ old n) → MeetsMissing now names path → MeetsMissing old names path
missing_before old now names path same (first, none) = (first_before old now names path same first, sym (same path (has_middle names first.front first.rest path first.split)) ∙ none)

same_found : (old mid new : Reads) (schema : List ℕ) → LeavesFound old mid schema → Same mid new → LeavesFound old new schema
same_found old mid new schema h same = record {
  stood = λ some n. same n ∙ h.stood some n;
  others = λ n other list. same n ∙ h.others n other list;
  made = λ none. same meta_name ∙ h.made none;
}

-- what is so of a directory under its lock is so of the one that was handed in
pub from_lock : {O W C : Type 0} (g : Ghosts O W C) {outside locked : O} (under : IsUnderLock g outside locked) (P : Reads → Type 0) → g.told.content → P (g.view locked).reads → P (g.view outside).reads
from_lock g under P t = subst P (fun_ext (under.only.content t))

-- where there was no `meta.json` under the lock, there was none before
pub lacked : {O W C : Type 0} (g : Ghosts O W C) {outside locked : O} → IsUnderLock g outside locked → LacksMeta g locked → LacksMeta g outside
lacked g under lacks told = sym (under.only.content told meta_name) ∙ lacks told

-- what holds of a refusal holds of the answer that hands it on
pub refused_with : {O W C : Type 0} (g : Ghosts O W C) (outside : O) (schema : List ℕ) (result : Result (StoreState O) (Refused O)) (refused : Refused O) → IsErrAnd result (λ r. r ≡ refused)
    → OpensOrRefuses g outside schema (Err refused) → OpensOrRefuses g outside schema result
refused_with g outside schema (Ok store) refused never h = absurd never
refused_with g outside schema (Err other) refused same h = subst (λ (r : Refused _). OpensOrRefuses g outside schema (Err r)) (sym same) h

module _ {O W C : Type 0} (g : Ghosts O W C) (outside : O) (schema : List ℕ) (catalog : Catalog) (files : FilesState O) (u : FindsUnderLock g outside schema catalog files) where
  abbrev locked : O
  locked = u.locked

  abbrev under : IsUnderLock g outside locked
  under = u.under

  abbrev f : FindsFiles g locked files.form.schema catalog files
  f = u.found

  abbrev index_at_lock : (t : g.told.content) → FoundIndex schema (g.view locked).reads
  index_at_lock t = the_found g locked schema files.form.schema catalog files u.spelled f t

  notified : MayNotify g.told (g.view outside) (g.view files.outside)
  notified = record {
    deletes_none = deletes_then under.only.tells_none.deletes_none f.frame.notes.frame.tells_none.deletes_none;
    dotted = λ t n dot other. dotted_others (g.view locked).reads (g.view files.outside).reads meta_name refl (f.leaves t).others n dot other ∙ under.only.content t n;
    watched = subst (λ (w : WatchState). MayNote meta_name w (g.view files.outside).watched) under.only.watched f.frame.notes.watched;
  }

  unnoted : NotesNone g.told (g.view outside) (g.view files.outside)
  unnoted tells = f.frame.unless (tells.0, subst IsSome (sym (under.only.content tells.0 meta_name)) tells.1) ∙ under.only.watched

  heard_yet : (g.view files.outside).heard ≡ (g.view outside).heard
  heard_yet = f.frame.notes.frame.tells_none.heard ∙ under.only.tells_none.heard

  quiet_yet : (g.view files.outside).faults ≡ (g.view outside).faults
  quiet_yet = f.quiet ∙ under.quiet

  -- what is read of the commit's files is what was read before the opening
  as_before : (t : g.told.content) (n : List ℕ) → has (all_required catalog.commit.segments) n ≡ true → (g.view files.outside).reads n ≡ (g.view locked).reads n
  as_before t n required = read_before g locked schema files.form.schema catalog files u.spelled f t n (required_is_file catalog.commit.segments n f.is_commit.segments required)

  -- the line was told
  module _ (begins : Catalog) (is : begins ≡ catalog) (started : FilesState O) (s : OpensCommit {A = Catalog} g catalog.commit files started (Ok begins)) where
    tells : OnlyTells g.told (g.view files.outside) (g.view started.outside)
    tells = s.frame.managed.below

    abbrev begun : StoreState O
    begun = record { kept = kept_of catalog started; outside = started.outside; standing = record { is_open = true } }

    kept_is : kept_of catalog started ≡ kept_of catalog files
    kept_is = kept_by_files catalog s.frame

    finds_begun : g.told.content → Finds (g.view locked).reads begun.kept.form catalog.commit begun.kept.managed
    finds_begun t = subst (λ (k : KeptState). Finds (g.view locked).reads k.form catalog.commit k.managed) (sym kept_is) (f.finds t)

    left_begun : g.told.content → LeavesFound (g.view locked).reads (g.view started.outside).reads begun.kept.form.schema
    left_begun t =
        subst (λ (k : KeptState). LeavesFound (g.view locked).reads (g.view started.outside).reads k.form.schema) (sym kept_is)
        (same_found (g.view locked).reads (g.view files.outside).reads (g.view started.outside).reads files.form.schema (f.leaves t) (tells.content t))

    held_begun : (t : g.told.content) (index : OpenedIndex schema (g.view locked).reads) → (begun.kept.form ≡ index.form) × Holds (g.view started.outside).reads begun.kept index.state × CanRead index.state
    held_begun t index =
        let held = held_at g locked schema files.form.schema catalog files u.spelled f t index in (
          ap (λ (k : KeptState). k.form) kept_is ∙ held.0,
          same_holds (g.view files.outside).reads (g.view started.outside).reads (kept_of catalog files) begun.kept index.state (tells.content t) kept_is held.1,
          can_read g locked schema files.form.schema catalog files u.spelled f t index (s.good t),
        )

    opens_begun : Opens g outside schema begun
    opens_begun = record {
      is_open = refl;
      spelled = subst (IsSchema schema) (sym (ap (λ (k : KeptState). k.form.schema) kept_is)) u.spelled;
      finds = λ t. from_lock g under (λ reads. Finds reads begun.kept.form catalog.commit begun.kept.managed) t (finds_begun t);
      opened = f.opened;
      left = λ t. from_lock g under (λ reads. LeavesFound reads (g.view started.outside).reads begun.kept.form.schema) t (left_begun t);
      found = λ t.
          from_lock g under (λ reads. (index : FoundIndex schema reads) × HasFiles reads (found_commits index)) t
          (index_at_lock t, had_files g locked schema files.form.schema catalog files u.spelled f t (s.good t));
      holds = λ t.
          from_lock g under (λ reads. (index : OpenedIndex schema reads) → (begun.kept.form ≡ index.form) × Holds (g.view started.outside).reads begun.kept index.state × CanRead index.state) t
          (held_begun t);
      lens = subst (λ (es : List (List ℕ × List ℕ)). AllByRecursion (λ e. length e.1 ≤ 0) es) (sym (ap (λ (k : KeptState). k.open_files) kept_is ∙ f.open_files)) tt;
      numbers = ap (λ (c : Catalog). c.reading) f.opened;
      collections = ap (λ (k : KeptState). k.collections) kept_is ∙ f.collections;
    }

    -- since an index was found
    pub told_since : g.told.heard → TellsLine (g.view outside).heard (g.view started.outside).heard (g.view files.outside).moment (g.view started.outside).moment (opening_of catalog.commit)
    told_since t =
        let k = s.told t in
        record {
          moment = k.moment;
          later = k.later;
          sooner = k.sooner;
          heard = k.heard ∙ ap (λ (h : Heard). h ++ (k.moment, opening_of catalog.commit ++ 10 ∷ []) ∷ []) heard_yet;
        }

    told_begun : g.told.heard → TellsLine (g.view outside).heard (g.view started.outside).heard (g.view outside).moment (g.view started.outside).moment (opening_of catalog.commit)
    told_begun t =
        let k = told_since t in
        record {
          moment = k.moment;
          later = omega (arith, under.only.tells_none.deletes_none.goes_on.clock, f.frame.notes.frame.tells_none.deletes_none.goes_on.clock, k.later);
          sooner = k.sooner;
          heard = k.heard;
        }

    kept_locked : g.told.locks → SameLocks (g.view locked).locks (g.view started.outside).locks
    kept_locked t n = tells.locks t n ∙ f.frame.notes.frame.locks t n

    made_begun : g.tells_images → MayMake g (LacksMeta g locked) (first_text begun.kept.form.schema) locked started.outside
    made_begun t =
        subst (λ (k : KeptState). MayMake g (LacksMeta g locked) (first_text k.form.schema) locked started.outside) (sym kept_is)
        (makes_then g (first_text files.form.schema) (LacksMeta g locked) (f.makes t).0 (s.looks t))

    pub opened : OpensOrRefuses g outside schema (Ok (record { kept = kept_of begins started; outside = started.outside; standing = record { is_open = true } }))
    opened = subst (λ (k : Catalog). OpensOrRefuses g outside schema (Ok (record { kept = kept_of k started; outside = started.outside; standing = record { is_open = true } }))) (sym is) (record {
      opens = opens_begun;
      leaves = tt;
      tells = record { ok = told_begun; err = λ t. tt; part = λ t h. tt };
      locks = record {
        ok = λ t. took_then (g.view outside).locks (g.view locked).locks (g.view started.outside).locks writer_lock_name (under.took t) (kept_locked t);
        under = record { locked = locked; under = under; finds = finds_begun; leaves = left_begun; makes = made_begun; keeps = kept_locked };
        writes = tt;
        err = λ t. tt;
      };
      faults = record { quiet = s.quiet ∙ quiet_yet; cause = tt };
      frame = record {
        ok = record {
          deletes_none = deletes_then notified.deletes_none tells.deletes_none;
          dotted = λ t n dot other. tells.content t n ∙ notified.dotted t n dot other;
          watched = subst (λ (w : WatchState). MayNote meta_name (g.view outside).watched w) (sym tells.watched) notified.watched;
        };
        err = tt;
        stood = λ told. tells.watched ∙ unnoted told;
        made = λ t none. tells.watched ∙ f.notes t (under.only.content t meta_name ∙ none) ∙ ap (noted meta_name) under.only.watched;
        unnoted = tt;
      };
      safe = λ t. record {
        ok = makes_behind g (first_text begun.kept.form.schema) (lacked g under) (under.looks t) (made_begun t);
        tracks =
            subst (λ (k : KeptState). TracksFrom g outside (started.outside, record { managed = k.managed; collections = k.collections })) (sym kept_is)
            (tracks_then g (record { managed = files.managed; collections = files.collections }) (tracks_behind g (under.looks t) (f.makes t).1) (s.looks t));
        err = tt;
        looks = tt;
      };
    })

  -- it wasn't, and the lock was freed
  module _ (started : FilesState O) (error : TantivyError) (failed : OpensCommit {A = Catalog} g catalog.commit files started (Err error)) (now : O) (frees : Frees g.told writer_lock_name (g.view started.outside) (g.view now))
      (keeps : g.tells_images → KeepsDisk (g.disk started.outside) (g.disk now)) where
    tried : OnlyTells g.told (g.view files.outside) (g.view started.outside)
    tried = failed.frame.managed.below

    reads_back : g.told.content → Same (g.view files.outside).reads (g.view now).reads
    reads_back t n = frees.frame.content t n ∙ tried.content t n

    watched_back : (g.view now).watched ≡ (g.view files.outside).watched
    watched_back = frees.frame.watched ∙ tried.watched

    -- a refusal that writes nothing doesn't come from here
    never_late : WritesNone g outside error → ⊥
    never_late (inl first) = not_first (Rose (g.view files.outside).faults (g.view started.outside).faults) ((g.view started.outside).faults ≡ (g.view files.outside).faults)
        (λ e. g.told.content → MeetsRefused (g.view files.outside).reads (all_required catalog.commit.segments) e) (λ path. g.told.content → MeetsMissing (g.view files.outside).reads (all_required catalog.commit.segments) path) error first failed.lock failed.cause
    never_late (inr held) = true≢false (sym held.1 ∙ (under.took held.0).was_free)

    -- what was heard then
    hears : (P : Heard → Heard → Type 0) → P (g.view files.outside).heard (g.view started.outside).heard → P (g.view outside).heard (g.view now).heard
    hears P h = subst (λ (x : Heard). P x (g.view now).heard) heard_yet (subst (P (g.view files.outside).heard) (sym frees.frame.tells_none.heard) h)

    -- why, as it is counted from before the opening on
    abbrev Counted : (before after : ℕ) → Type 0
    Counted before after = ApplyCause (reading_facts (Rose before after) (after ≡ before) (λ e. g.told.content → MeetsRefused (g.view files.outside).reads (all_required catalog.commit.segments) e)
        (λ path. g.told.content → MeetsMissing (g.view files.outside).reads (all_required catalog.commit.segments) path)) error

    counted : Counted (g.view outside).faults (g.view now).faults
    counted = subst (λ (n : ℕ). Counted n (g.view now).faults) quiet_yet (subst (Counted (g.view files.outside).faults) (sym frees.faults) failed.cause)

    cause : OpeningCause (opening_facts g outside now) schema (g.view outside).reads error
    cause =
        begun_cause (opening_facts g outside now) schema (g.view outside).reads
        (λ e. g.told.content → MeetsRefused (g.view files.outside).reads (all_required catalog.commit.segments) e) (λ path. g.told.content → MeetsMissing (g.view files.outside).reads (all_required catalog.commit.segments) path)
        error (files.form.schema, u.spelled) (λ t. from_lock g under (FoundIndex schema) t (index_at_lock t)) (λ t. (under.took t).was_free)
        (λ e met t.
        from_lock g under (λ reads. IndexRefused schema reads e) t (
          index_at_lock t,
          subst (λ names. MeetsRefused (g.view locked).reads names e) (sym (required_by_one catalog.commit))
              (refused_before (g.view locked).reads (g.view files.outside).reads (all_required catalog.commit.segments) e (as_before t) (met t)),
        ))
        (λ path met t.
        from_lock g under (λ reads. IndexMissing schema reads path) t (
          index_at_lock t,
          subst (λ names. MeetsMissing (g.view locked).reads names path) (sym (required_by_one catalog.commit))
              (missing_before (g.view locked).reads (g.view files.outside).reads (all_required catalog.commit.segments) path (as_before t) (met t)),
        ))
        inl inl failed.file failed.lock counted

    pub unbegun : OpensOrRefuses g outside schema (Err (record { error = error; directory = now }))
    unbegun = record {
      opens = tt;
      leaves = record {
        leaves = λ t. record {
          spelled = λ text is.
              subst (LeavesUnopened (g.view outside).reads (g.view now).reads) (u.spelled.text_is ∙ sym is.text_is)
              (from_lock g under (λ reads. LeavesUnopened reads (g.view now).reads files.form.schema) t
              (same_unopened (g.view locked).reads (g.view files.outside).reads (g.view now).reads files.form.schema (f.leaves t) (reads_back t)));
          unspelled = λ none. absurd (none files.form.schema u.spelled);
        };
        unchanged = λ t none. absurd (never_late none);
      };
      tells = record {
        ok = λ t. tt;
        err = λ t. hears TellsNoLine (failed.untold t);
        part = λ t h.
            from_lock g under (λ reads. (index : FoundIndex schema reads) → TellsFirstPart (g.view outside).heard (g.view now).heard (opening_of index.commit)) t
            (λ index. hears (λ old new. TellsFirstPart old new (opening_of index.commit))
            (subst (λ (c : Commit). TellsFirstPart (g.view files.outside).heard (g.view started.outside).heard (opening_of c)) (sym (commit_is g locked schema files.form.schema catalog files u.spelled f t index)) (failed.part h)));
      };
      locks = record {
        ok = λ t. tt;
        under = tt;
        err = λ t. freed_after (g.view outside).locks (g.view locked).locks (g.view started.outside).locks (g.view now).locks writer_lock_name (under.took t) (λ n. tried.locks t n ∙ f.frame.notes.frame.locks t n) (frees.freed t);
        writes = inr (locked, under);
      };
      faults = record { quiet = tt; cause = cause };
      frame = record {
        ok = tt;
        err = record {
          deletes_none = deletes_then notified.deletes_none (deletes_then tried.deletes_none frees.frame.tells_none.deletes_none);
          dotted = λ t n dot other. reads_back t n ∙ notified.dotted t n dot other;
          watched = subst (λ (w : WatchState). MayNote meta_name (g.view outside).watched w) (sym watched_back) notified.watched;
        };
        stood = λ told. watched_back ∙ unnoted told;
        made = tt;
        unnoted = λ none. absurd (never_late none);
      };
      safe = λ t. record {
        ok = tt;
        tracks = tt;
        err = λ text is.
            subst (λ (x : List ℕ). MayMake g (LacksMeta g outside) (first_text x) outside now) (u.spelled.text_is ∙ sym is.text_is)
            (makes_behind g (first_text files.form.schema) (lacked g under) (under.looks t)
            (makes_then g (first_text files.form.schema) (LacksMeta g locked) (f.makes t).0 (looks_then g (failed.looks t) (looks_kept g (keeps t)))));
        looks = λ none. absurd (never_late none);
      };
    }
