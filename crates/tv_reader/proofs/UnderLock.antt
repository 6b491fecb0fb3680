-- What was read under the meta lock was read, and what was refused there was refused.
use Rattle.std.proofs.Common.{◌≡◌, ◌≢◌, ◌⊎◌, inl, inr, ℕ, Bool, true, false, List, [], ◌∷◌, Option, Some, Result, Ok, Err, IfOk, IfErr, OnOk, refl, sym, subst, ◌∙◌, true≢false}
use Rattle.std.specs.List.{AllByRecursion}
use Rattle.tv_base.specs.Causes.{IsDevice}
use Rattle.tv_base.specs.declared.error.TantivyError.{TantivyError}
use Rattle.tv_base.specs.declared.error.TantivyError.TheVariants as errors
use Rattle.tv_base.specs.declared.open_errors.OpenReadError.{OpenReadError}
use Rattle.tv_base.specs.declared.open_errors.OpenReadError.TheVariants as opening
use Rattle.tv_device.specs.Calls.{Frees}
use Rattle.tv_device.specs.Locks.{FreesLock, Locks, SameLocks, TakesLock}
use Rattle.tv_device.specs.View.{OnlyLocks, OnlyReads, Told, View}
use Rattle.tv_device.specs.ViewLaws.{tells_then}
use Rattle.tv_device.specs.declared.directory.Directory.{Ghosts}
use Rattle.tv_formats.specs.Commits.{Commit}
use Rattle.tv_formats.specs.Files.{Reads, Rose, Same}
use Rattle.tv_formats.specs.Names.{meta_name}
use Rattle.tv_formats.specs.Segments.{all_required, required_names}
use Rattle.tv_index.specs.Indexes.{IndexState, KeepsIndex}
use Rattle.tv_index.specs.Standing.{LoadsMeta, MetaCause}
use Rattle.tv_managed.specs.Collecting.{meta_lock_name}
use Rattle.tv_managed.specs.Reading.{HasNoBody, ReadsRefused, ReadsSuch, SomeRefused}
use Rattle.tv_metas.specs.Metas.{commit_of}
use Rattle.tv_metas.specs.declared.index_meta.UntrackedIndexMeta.{UntrackedIndexMeta}
use Rattle.tv_reader.specs.Bodies.{IsRead, ReadBodies, UnreadCause, UnreadFile}
use Rattle.tv_reader.specs.Reloads.{AreBodies, CommitCause, IsOfCommit, LoadCause, LoadsLast, NoMeta, NotesLast, ReadsLast}
use Rattle.tv_reader.specs.Searchers.{CommitRead, commit_read}
use Rattle.tv_reader.specs.Segments.{SegmentShown}

-- ---- the locks

same_bool : (b c : Bool) → (c ≢ b → ⊥) → c ≡ b
same_bool true true h = refl
same_bool false false h = refl
same_bool true false h = absurd (h (λ e. true≢false (sym e)))
same_bool false true h = absurd (h true≢false)

-- a lock that was taken and is free again
locks_same : {old mid last new : Locks} (m : List ℕ) → TakesLock old mid m → SameLocks mid last → FreesLock last new m → SameLocks old new
locks_same {old} {mid} {last} {new} m takes same frees n =
    same_bool (old n) (new n) (λ differ.
    let apart : n ≢ m = λ is. differ (subst (λ k. new k ≡ old k) (sym is) (frees.is_free ∙ sym takes.was_free)) in
    differ (frees.others n apart ∙ (same n ∙ takes.others n apart)))

-- a call under a lock keeps the index
pub kept_under : {D W : Type 0} {told : Told} {view : D → View W} {old mid last new : IndexState D} (lock : List ℕ) → KeepsIndex (OnlyLocks told) view old mid → (told.locks → TakesLock (view old.directory.0).locks (view mid.directory.0).locks meta_lock_name)
    → KeepsIndex (OnlyReads told) view mid last → lock ≡ meta_lock_name → KeepsIndex (Frees told lock) view last new → KeepsIndex (OnlyReads told) view old new
kept_under {told = told} {view} {last = last} {new} lock first takes second is third =
    let a = first.form.directory.below in
    let b = second.form.directory.below in
    let c = third.form.directory.below in
    record {
      form = record {
        directory = record {
          names = third.form.directory.names ∙ (second.form.directory.names ∙ first.form.directory.names);
          below = record {
            kept = record {
              frame = record {
                tells_none = tells_then a.tells_none (tells_then b.kept.frame.tells_none c.frame.tells_none);
                locks = λ t. locks_same meta_lock_name (takes t) (b.kept.frame.locks t) (subst (FreesLock (view last.directory.0).locks (view new.directory.0).locks) is (c.freed t));
              };
              watched = c.frame.watched ∙ (b.kept.watched ∙ a.watched);
            };
            content = λ t n. c.frame.content t n ∙ (b.content t n ∙ a.content t n);
          };
        };
        settings = third.form.settings ∙ (second.form.settings ∙ first.form.settings);
        schema = third.form.schema ∙ (second.form.schema ∙ first.form.schema);
        executor = third.form.executor ∙ (second.form.executor ∙ first.form.executor);
      };
      kept = third.kept ∙ (second.kept ∙ first.kept);
    }

-- ---- what was read

reads_back : (first now : Reads) → Same first now → (names bodies : List (List ℕ)) → ReadBodies now names bodies → ReadBodies first names bodies
reads_back first now same [] [] h = tt
reads_back first now same [] (b ∷ bodies) h = absurd h
reads_back first now same (n ∷ names) [] h = absurd h
reads_back first now same (n ∷ names) (b ∷ bodies) h =
    ((h.0.0, sym (same n) ∙ h.0.1, h.0.2), reads_back first now same names bodies h.1)

all_back : (first now : Reads) → Same first now → (segments : List SegmentShown) → AllByRecursion (IsRead now) segments → AllByRecursion (IsRead first) segments
all_back first now same [] h = tt
all_back first now same (s ∷ segments) h =
    (reads_back first now same (required_names s.id s.segment) s.bodies h.0, all_back first now same segments h.1)

-- what `meta.json` reads, where it is told, decides why it isn't read
moved : (tells : Type 0) (expected now first : Option (List ℕ)) (refused quiet : Type 0) → (tells → now ≡ first) → (e : TantivyError) → MetaCause tells expected now refused quiet e → MetaCause tells expected first refused quiet e
moved tells expected now first refused quiet at (errors.OpenReadError (opening.FileDoesNotExist path)) h = (h.0, (h.1.0, λ t. sym (at t) ∙ h.1.1 t))
moved tells expected now first refused quiet at (errors.OpenReadError (opening.IoError fault path)) h = h
moved tells expected now first refused quiet at (errors.OpenReadError (opening.IncompatibleIndex why)) h = h
moved tells expected now first refused quiet at (errors.OpenReadError opening.Memory) h = h
moved tells expected now first refused quiet at (errors.DataCorruption why) h = (h.0, h.1, (h.2.0, λ t. sym (at t) ∙ h.2.1 t, h.2.2))
moved tells expected now first refused quiet at (errors.SchemaError text) h = (h.0, h.1, (h.2.0, λ t. sym (at t) ∙ h.2.1 t, h.2.2))
moved tells expected now first refused quiet at (errors.IoError fault) h = h
moved tells expected now first refused quiet at errors.Memory h = h
moved tells expected now first refused quiet at other h = absurd h

module _ {D W C : Type 0} (g : Ghosts D W C) (old mid last new : IndexState D) (same : g.told.content → Same (g.view old.directory.0).reads (g.view mid.directory.0).reads) (schema_is : mid.schema ≡ old.schema)
    (still : (g.view mid.directory.0).faults ≡ (g.view old.directory.0).faults) (end : (g.view new.directory.0).faults ≡ (g.view last.directory.0).faults) where
  such : (name : List ℕ) (P : List ℕ → Type 0) → g.told.content → ReadsSuch ((g.view mid.directory.0).reads name) P → ReadsSuch ((g.view old.directory.0).reads name) P
  such name P t h = (h.0, sym (same t name) ∙ h.1, h.2)

  meta_back : (expected : Option (List ℕ)) (meta : UntrackedIndexMeta) → LoadsMeta g mid.directory.0 expected meta → LoadsMeta g old.directory.0 expected meta
  meta_back expected meta h = record {
    has = h.has;
    schema = h.schema;
    means = λ t. such meta_name _ t (h.means t);
    spelled = λ t. such meta_name _ t (h.spelled t);
  }

  pub loads_back : (meta : UntrackedIndexMeta) → LoadsMeta g mid.directory.0 (Some mid.schema) meta → LoadsMeta g old.directory.0 (Some old.schema) meta
  loads_back meta h = subst (λ (s : List ℕ). LoadsMeta g old.directory.0 (Some s) meta) schema_is (meta_back (Some mid.schema) meta h)

  notes_back : (schema : List ℕ) (commit : Commit) → NotesLast g mid schema commit → NotesLast g old schema commit
  notes_back schema commit h = (h.0, loads_back h.0 h.1, h.2, h.3)

  quiet_back : (g.view last.directory.0).faults ≡ (g.view mid.directory.0).faults → (g.view new.directory.0).faults ≡ (g.view old.directory.0).faults
  quiet_back h = end ∙ (h ∙ still)

  rose_back : Rose (g.view mid.directory.0).faults (g.view last.directory.0).faults → Rose (g.view old.directory.0).faults (g.view new.directory.0).faults
  rose_back h = subst (λ (n : ℕ). Rose n (g.view new.directory.0).faults) still (subst (λ (n : ℕ). Rose (g.view mid.directory.0).faults n) (sym end) h)

  pub no_meta_back : (e : TantivyError) → NoMeta g mid last e → NoMeta g old new e
  no_meta_back e h =
      let t = g.told.content in
      let r = (g.view mid.directory.0).reads meta_name in
      let a = (g.view mid.directory.0).faults in
      let n = (g.view new.directory.0).faults in
      moved t (Some old.schema) r ((g.view old.directory.0).reads meta_name) (Rose (g.view old.directory.0).faults n) (n ≡ (g.view old.directory.0).faults) (λ k. same k meta_name) e
      (subst (λ (f : ℕ). MetaCause t (Some old.schema) r (Rose f n) (n ≡ f) e) still
      (subst (λ (f : ℕ). MetaCause t (Some old.schema) r (Rose a f) (f ≡ a) e) (sym end)
      (subst (λ (s : List ℕ). MetaCause t (Some s) r (Rose a (g.view last.directory.0).faults) ((g.view last.directory.0).faults ≡ a) e) schema_is h)))

  file_back : (name : List ℕ) (why : OpenReadError) → UnreadFile g mid.directory.0 last.directory.0 name why → UnreadFile g old.directory.0 new.directory.0 name why
  file_back name (opening.FileDoesNotExist path) h = record { path = h.path; cause = quiet_back h.cause; err = λ t. sym (same t name) ∙ h.err t; outside = λ t. tt }
  file_back name (opening.IoError fault path) h = record { path = h.path; cause = cause h.cause; err = λ t. err t (h.err t); outside = λ t. outside t (h.outside t) } where
    cause : (IsDevice fault × Rose (g.view mid.directory.0).faults (g.view last.directory.0).faults) ⊎ (SomeRefused fault × ((g.view last.directory.0).faults ≡ (g.view mid.directory.0).faults))
        → (IsDevice fault × Rose (g.view old.directory.0).faults (g.view new.directory.0).faults) ⊎ (SomeRefused fault × ((g.view new.directory.0).faults ≡ (g.view old.directory.0).faults))
    cause (inl k) = inl (k.0, rose_back k.1)
    cause (inr k) = inr (k.0, quiet_back k.1)

    err : g.told.content → (IsDevice fault × Unit {0}) ⊎ ReadsRefused ((g.view mid.directory.0).reads name) fault → (IsDevice fault × Unit {0}) ⊎ ReadsRefused ((g.view old.directory.0).reads name) fault
    err t (inl k) = inl k
    err t (inr k) = inr (k.0, sym (same t name) ∙ k.1, k.2)

    outside : g.told.content → (IsDevice fault × Unit {0}) ⊎ ReadsSuch ((g.view mid.directory.0).reads name) HasNoBody → (IsDevice fault × Unit {0}) ⊎ ReadsSuch ((g.view old.directory.0).reads name) HasNoBody
    outside t (inl k) = inl k
    outside t (inr k) = inr (such name HasNoBody t k)
  file_back name (opening.IncompatibleIndex why) h = record {
    path = h.path;
    cause = (h.cause.0, quiet_back h.cause.1);
    err = λ t. let k = h.err t in (k.0, sym (same t name) ∙ k.1, k.2);
    outside = λ t. such name HasNoBody t (h.outside t);
  }
  file_back name opening.Memory h = absurd h.cause

  pub unread_back : (names : List (List ℕ)) (e : TantivyError) → UnreadCause g mid.directory.0 last.directory.0 names e → UnreadCause g old.directory.0 new.directory.0 names e
  unread_back names (errors.OpenReadError why) h = record {
    front = h.front;
    name = h.name;
    rest = h.rest;
    names_are = h.names_are;
    read = λ t. let k = h.read t in (k.0, reads_back (g.view old.directory.0).reads (g.view mid.directory.0).reads (same t) h.front k.0 k.1);
    unread = file_back h.name why h.unread;
  }
  unread_back names errors.Memory h = quiet_back h
  unread_back names other h = absurd h

  pub commit_back : (e : TantivyError) → CommitCause g mid last e → CommitCause g old new e
  commit_back e (inl h) = inl (no_meta_back e h)
  commit_back e (inr h) =
      inr (h.0, h.1, notes_back h.0 h.1 h.2, unread_back (all_required h.1.segments) e h.3)

  pub bodies_back : (read : CommitRead) → AreBodies g mid.directory.0 read → AreBodies g old.directory.0 read
  bodies_back read h = λ t. all_back (g.view old.directory.0).reads (g.view mid.directory.0).reads (same t) read.segments (h t)

  -- the files of the commit were read that `meta.json` means
  pub reads_last : {E R : Type 0} (of : R → CommitRead) (meta : UntrackedIndexMeta) (result : Result R E) → LoadsMeta g old.directory.0 (Some old.schema) meta → IfOk result (λ r. IsOfCommit meta.schema (commit_of meta) (of r))
      → IfOk result (λ r. AreBodies g mid.directory.0 (of r)) → IfOk result (λ r. ReadsLast g old (of r))
  reads_last of meta (Ok r) loads is bodies = ((meta, loads, is.schema_is, is.commit_is), bodies_back (of r) bodies)
  reads_last of meta (Err e) loads is bodies = tt

  -- not all of them were
  pub not_all : {R : Type 0} (meta : UntrackedIndexMeta) (result : Result R TantivyError) → LoadsMeta g old.directory.0 (Some old.schema) meta → IfErr result (UnreadCause g mid.directory.0 last.directory.0 (all_required (commit_of meta).segments))
      → IfErr result (CommitCause g old new)
  not_all meta (Ok r) loads h = tt
  not_all meta (Err e) loads h = inr (meta.schema, commit_of meta, (meta, loads, refl, refl), unread_back (all_required (commit_of meta).segments) e h)

  -- the last commit was read under the meta lock
  pub loads_last : {R E : Type 0} (of : R → CommitRead) (result : Result R E) → (g.told.locks → (g.view old.directory.0).locks meta_lock_name ≡ false) → OnOk result ((g.view last.directory.0).faults ≡ (g.view mid.directory.0).faults)
      → IfOk result (λ r. ReadsLast g mid (of r)) → IfOk result (λ r. LoadsLast g old new (of r))
  loads_last of (Ok r) free quiet h =
      record { reads = (notes_back (of r).schema (commit_read (of r)) h.0, bodies_back (of r) h.1); free = free; quiet = quiet_back quiet }
  loads_last of (Err e) free quiet h = tt

  -- why it isn't read there
  pub load_cause : {R : Type 0} (result : Result R TantivyError) → (g.told.locks → (g.view old.directory.0).locks meta_lock_name ≡ false) → IfErr result (CommitCause g mid last) → IfErr result (LoadCause g old new)
  load_cause (Ok r) free h = tt
  load_cause (Err e) free h = inr (free, commit_back e h)
