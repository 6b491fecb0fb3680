-- What a store does that makes an event's step, and then tells its line.
use Rattle.std.proofs.Common.{ℕ, ◌≡◌, ◌≤◌, ◌+◌, ◌∙◌, inl, inr, ◌++◌, ◌∷◌, true, false, true≢false, List, Option, Some, Ok, Err, refl, sym, ap, subst, arith}
use Rattle.std.specs.Prelude.{IfErr, IfSome, IsSome, Result, is_ok}
use Rattle.tv_base.specs.declared.error.TantivyError.{TantivyError}
use Rattle.tv_base.specs.declared.error.TantivyError.TheVariants as errors
use Rattle.tv_device.specs.View.{OnlyReads, OnlyTells}
use Rattle.tv_device.specs.ViewLaws.{goes_then}
use Rattle.tv_device.specs.Watch.{WatchState}
use Rattle.tv_device.specs.declared.directory.Directory.{Ghosts}
use Rattle.tv_formats.specs.Files.{Heard, Rose, RoseBy}
use Rattle.tv_base.specs.declared.io.IoFault.{IoFault}
use Rattle.tv_machine.specs.Machine.{catalog_step, step, refused_in}
use Rattle.tv_formats.specs.Meaning.{Means}
use Rattle.tv_events.specs.declared.event.Event.{Event}
use Rattle.tv_events.specs.declared.event.Event.TheVariants as events
use Rattle.tv_catalog.specs.Kept.{KeptState}
use Rattle.tv_store.specs.Kept.{Standing, StoreState, Holds, AtMost}
use Rattle.tv_catalog.specs.ReaderNumbers.{FewNumbers}
use Rattle.tv_store.specs.Acting.{Acts}
use Rattle.tv_catalog.specs.Effects.{written_by}
use Rattle.tv_store.specs.Applying.{ActCause, AppliesFrame, AsksNoFile, Grows, ApplyFaults, IsUndisturbedEvent, LeavesAlone, LeavesMeta, MayNoteAt, MeetsBadAt, SavesAt, Stepped}
use Rattle.tv_store.specs.ReadCauses.{IsReadError}
use Rattle.tv_machine.specs.Living.{is_busy}
use Rattle.tv_store.proofs.KeptLocks.{keeps_then}
use Rattle.tv_store.proofs.ReaderEvents.{has_middle}
use Rattle.tv_base.specs.declared.open_errors.LockError.TheVariants as lock
use Rattle.tv_base.specs.declared.open_errors.OpenReadError.{OpenReadError}
use Rattle.tv_base.specs.declared.open_errors.OpenReadError.TheVariants as read
use Rattle.tv_base.specs.declared.open_errors.OpenWriteError.{OpenWriteError}
use Rattle.tv_base.specs.declared.open_errors.OpenWriteError.TheVariants as write
use Rattle.tv_formats.specs.Footer.{IsGood}
use Rattle.tv_machine.specs.Readable.{AreGoodFiles, IsGoodFile, ReadsGood}
use Rattle.tv_formats.specs.Segments.{all_required}
use Rattle.tv_machine.specs.State.{State, SealedFile}
use Rattle.tv_formats.specs.Commits.{Commit, IndexForm}
use Rattle.tv_formats.specs.Names.{has, meta_name}
use Rattle.tv_store.specs.Telling.{TellsAnswer, TellsFirstPart, TellsNoLine, TriesLine}
use Rattle.tv_store.proofs.Holding.{same_holds}
use Rattle.tv_store.proofs.LoadedCommits.{damaged_holds_none, other_holds_none}
use Rattle.tv_store.proofs.FewNumbers.{few_below}
use Rattle.tv_store.proofs.CheckedFiles.{reads_tells, tells_behind}
use Rattle.tv_store.proofs.Steps.{longer}

-- a store that isn't open, since an event is being applied to it
abbrev pub closed : {O : Type 0} → StoreState O → StoreState O
closed store = record store { standing = record store.standing { is_open = false } }

-- ---- an error of the step

module _ {O W C : Type 0} (g : Ghosts O W C) (old mid : StoreState O) (event : Event) (error : TantivyError) (acted : Acts g (closed old) mid event (Err error)) where
  pub grows_failed : Grows old.kept mid.kept event (Err error)
  grows_failed = record {
    lens = λ bound more small all. longer mid.kept.open_files (bound + written_by event) (bound + more) (omega (arith, small)) (acted.lens bound all);
    numbers = λ bound more small few. tt;
  }

  pub faults_failed : ApplyFaults g old mid event (Err error)
  faults_failed = record { quiet = tt; free = λ told takes. tt; fits = tt; reads = acted.faults.reads; cause = acted.faults.cause }

-- ---- what each event keeps

module _ {O W C : Type 0} (g : Ghosts O W C) (old mid : StoreState O) (event : Event) (acted_result : Result (List ℕ) TantivyError) (acted : Acts g (closed old) mid event acted_result)
    (alone : IsSome (catalog_step old.kept.catalog old.kept.managed event) → AsksNoFile (OnlyReads g.told) g (closed old) mid acted_result) where
  -- the step wasn't made
  pub frame_failed : (error : TantivyError) → acted_result ≡ Err error → AppliesFrame g old mid event (Err error)
  frame_failed error is = record {
    goes_on = acted.frame.below.goes_on;
    locks = acted.frame.below.locks;
    watched = acted.frame.below.watched;
    form = acted.frame.form;
    dotted = acted.dotted;
    alone = λ some. record { below = reads_tells (alone some).below; error = subst (λ (r : Result (List ℕ) TantivyError). IfErr r (λ e. IsReadError e → ⊥)) is (alone some).error };
    is_open = ap (λ (t : Standing). t.is_open) acted.frame.standing;
  }

  -- its line was tried
  pub frame_tried : (new : StoreState O) (result : Result (List ℕ) TantivyError) → new.kept ≡ mid.kept → new.standing.is_open ≡ is_ok result → OnlyTells g.told (g.view mid.outside) (g.view new.outside)
      → IfErr result (λ error. IsReadError error → ⊥) → AppliesFrame g old new event result
  frame_tried new result kept is_open told unread = record {
    goes_on = goes_then acted.frame.below.goes_on told.deletes_none.goes_on;
    locks = λ t. keeps_then (is_busy old.kept.catalog) (is_busy mid.kept.catalog) (is_busy new.kept.catalog) (g.view old.outside).locks (g.view mid.outside).locks (g.view new.outside).locks (ap (λ (k : KeptState). is_busy k.catalog) (sym kept)) (acted.frame.below.locks t) (told.locks t);
    watched = subst (λ (w : WatchState). MayNoteAt event (g.view old.outside).watched w) (sym told.watched) acted.frame.below.watched;
    form = ap (λ (k : KeptState). k.form) kept ∙ acted.frame.form;
    dotted = λ t n dot other. told.content t n ∙ acted.dotted t n dot other;
    alone = λ some. record { below = tells_behind (alone some).below told; error = unread };
    is_open = is_open;
  }

-- ---- a step whose line is tried

module _ {O W C : Type 0} (g : Ghosts O W C) (old mid new : StoreState O) (event : Event) (answer : List ℕ)
    (acted : Acts g (closed old) mid event (Ok answer)) (kept : new.kept ≡ mid.kept) (told : OnlyTells g.told (g.view mid.outside) (g.view new.outside)) where
  lens_as : (bound more : ℕ) → written_by event ≤ more → AtMost bound old.kept → AtMost (bound + more) new.kept
  lens_as bound more small all = subst (AtMost (bound + more)) (sym kept) (longer mid.kept.open_files (bound + written_by event) (bound + more) (omega (arith, small)) (acted.lens bound all))

  pub grows_told : Grows old.kept new.kept event (Ok answer)
  grows_told = record {
    lens = lens_as;
    numbers = λ bound more small few.
        subst (λ (k : KeptState). FewNumbers (bound + more) k.catalog.reading k.collections) (sym kept) (few_below (bound + written_by event) (bound + more) mid.kept.catalog.reading mid.kept.collections (omega (arith, small)) (acted.numbers bound few));
  }

  -- or it wasn't
  module _ {A E : Type 0} (fault : E) (error : TantivyError) (tries : TriesLine {A = A} {E = E} g.told (g.view mid.outside) (g.view new.outside) answer (Err fault)) where
    pub tells_untold : TellsAnswer g old.outside new.outside (Err error)
    tells_untold = record { ok = λ t. tt; err = λ t. subst (λ (h : Heard). TellsNoLine h (g.view new.outside).heard) acted.frame.below.heard (tries.err t) }

    pub grows_untold : Grows old.kept new.kept event (Err error)
    grows_untold = record { lens = lens_as; numbers = λ bound more small few. tt }

-- ---- an event that nothing disturbs

in_list : (front rest : List (List ℕ)) (path : List ℕ) → has (front ++ path ∷ rest) path ≡ true
in_list front rest path = has_middle (front ++ path ∷ rest) front rest path refl

no_bad_file : (s : State) (event : Event) (error : OpenReadError) → ReadsGood s event → MeetsBadAt s event error → ⊥
no_bad_file s event error good (commit, reads, met) =
    let all : AreGoodFiles s (all_required commit.segments) = subst (λ (read : Option Commit). IfSome read (λ c. AreGoodFiles s (all_required c.segments))) reads good in
    let there : has (all_required commit.segments) met.path ≡ true = ap (λ (names : List (List ℕ)). has names met.path) met.split ∙ in_list met.front met.rest met.path in
    let file : IsGoodFile s met.path = all.each met.path there in
    let same : Some (SealedFile file.0) ≡ Some (SealedFile met.bytes) = sym file.1 ∙ met.sealed in
    let one : file.0 ≡ met.bytes = cc in
    let is_good : IsGood met.bytes = subst IsGood one file.2 in
    met.no_body is_good.body is_good.has_body

module _ {O W C : Type 0} (g : Ghosts O W C) (old new : StoreState O) (event : Event) (u : IsUndisturbedEvent g old new event) where
  no_read_fault : (error : OpenReadError) → ActCause g old new event (errors.OpenReadError error) → ⊥
  no_read_fault (read.IoError fault path) (inl h) = u.quiet h.1
  no_read_fault (read.IoError fault path) (inr h) = no_bad_file u.state event (read.IoError fault path) u.readable (h.3.1 u.content u.state u.held u.whole)
  no_read_fault (read.FileDoesNotExist path) h = h.2.1 u.content u.state u.held u.whole
  no_read_fault (read.IncompatibleIndex why) h = no_bad_file u.state event (read.IncompatibleIndex why) u.readable (h.1.1 u.content u.state u.held u.whole)
  no_read_fault other h = absurd h

  no_write_fault : (error : OpenWriteError) → ActCause g old new event (errors.OpenWriteError error) → ⊥
  no_write_fault (write.IoError fault path) h = u.quiet h.1
  no_write_fault other h = absurd h

  pub undisturbed : (error : TantivyError) → ActCause g old new event error → error ≡ errors.Memory
  undisturbed (errors.IoError fault) h = absurd (u.quiet h.1)
  undisturbed (errors.OpenWriteError error) h = absurd (no_write_fault error h)
  undisturbed (errors.OpenReadError error) h = absurd (no_read_fault error h)
  undisturbed (errors.LockFailure lock.LockBusy text) h = absurd (true≢false (sym (h.0.1.told u.locks) ∙ u.free h.0.0))
  undisturbed (errors.LockFailure (lock.IoError fault) text) h = absurd (u.quiet h.0.1)
  undisturbed (errors.LockFailure lock.Memory text) h = absurd h.0
  undisturbed (errors.DataCorruption why) h = absurd (damaged_holds_none g.told.content (g.view old.outside).reads old.kept h.1.2 u.content u.state u.held u.whole)
  undisturbed (errors.SchemaError text) h = absurd (other_holds_none g.told.content (g.view old.outside).reads old.kept h.1.2 u.content u.state u.held u.whole)
  undisturbed errors.Exhausted h = absurd (u.fits h.1)
  undisturbed errors.Memory h = refl
  undisturbed other h = absurd h

-- ---- what stands after the line

module _ {O W C : Type 0} (g : Ghosts O W C) (old mid new : StoreState O) (event : Event) (answer : List ℕ)
    (acted : Acts g (closed old) mid event (Ok answer)) (kept : new.kept ≡ mid.kept) (told : OnlyTells g.told (g.view mid.outside) (g.view new.outside)) where
  held_told : g.told.content → (s : State) → Holds (g.view mid.outside).reads mid.kept s → Holds (g.view new.outside).reads new.kept s
  held_told t s h = same_holds (g.view mid.outside).reads (g.view new.outside).reads mid.kept new.kept s (told.content t) kept h

  -- no event's line changes what was saved
  saves_told : (e : Event) (before after : State) → g.told.content → SavesAt e old.kept.form (g.view old.outside) (g.view mid.outside) before after → SavesAt e old.kept.form (g.view old.outside) (g.view new.outside) before after
  saves_told (events.Commit payload ids) before after t h =
      λ other. record { text = told.content t meta_name ∙ (h other).text; notice = told.watched ∙ (h other).notice }
  saves_told other before after t h = tt

  -- nor what was left alone
  alone_told : g.told.content → LeavesAlone (g.view old.outside) (g.view mid.outside) → LeavesAlone (g.view old.outside) (g.view new.outside)
  alone_told t h = record { reads = λ n. told.content t n ∙ h.reads n; watched = told.watched ∙ h.watched }

  pub step_told : Stepped g old new event answer
  step_told =
      let stepped = acted.step in
      record {
        outcomes = stepped.outcomes;
        refused = subst (λ (n : ℕ). RoseBy (refused_in stepped.outcomes) (g.view old.outside).refusals n) (sym told.deletes_none.refusals) stepped.refused;
        each = λ t s h w.
            let k = stepped.each t s h w in
            let next = (step s event stepped.outcomes).1 in
            record {
              told = k.told;
              held = held_told t next k.held;
              readable = k.readable;
              unchanged = λ by_step same. alone_told t (k.unchanged by_step same);
              saves = saves_told event s next t k.saves;
            };
      }

  pub leaves_untold : {A : Type 0} (fault : IoFault) → TriesLine {A = A} {E = IoFault} g.told (g.view mid.outside) (g.view new.outside) answer (Err fault) → Rose (g.view mid.outside).faults (g.view new.outside).faults
      → LeavesMeta g old new event (Err (errors.IoError fault))
  leaves_untold fault tries rose = record {
    meta = λ t s h w.
        let stepped = acted.step in
        let k = stepped.each t s h w in
        let held = held_told t (step s event stepped.outcomes).1 k.held in
        let form : new.kept.form ≡ old.kept.form = ap (λ (x : KeptState). x.form) kept ∙ acted.frame.form in (
          stepped.outcomes,
          inr (
            subst (λ (n : ℕ). Rose n (g.view new.outside).faults) acted.faults.quiet rose,
            (held.meta.0, held.meta.1, subst (λ (f : IndexForm). Means f.settings f.schema held.meta.0 (step s event stepped.outcomes).1.catalog.commit) form held.meta.2),
          ),
        );
    memory = λ t e. absurd (not_memory e);
    part = λ t h s held w.
        let stepped = acted.step in
        let k = stepped.each t s held w in (
          stepped.outcomes,
          subst (λ (line : List ℕ). TellsFirstPart (g.view old.outside).heard (g.view new.outside).heard line) k.told
              (subst (λ (x : Heard). TellsFirstPart x (g.view new.outside).heard answer) acted.frame.below.heard (tries.part h)),
        );
  } where
    not_memory : errors.IoError fault ≡ errors.Memory → ⊥
    not_memory e = cc
