-- What the calls of the events do, put together.
use Rattle.std.proofs.Common.{ℕ, ◌≡◌, ◌<◌, ◌+◌, Bool, List, [], length, Result, Ok, Err, Some, refl, sym, ap, subst, ◌∙◌, inl}
use Rattle.std.specs.Prelude.{IfOk, OnOk}
use Rattle.std.proofs.lemmas.Result.{on_ok_weaker}
use Rattle.tv_base.specs.declared.error.TantivyError.{TantivyError}
use Rattle.tv_base.specs.declared.error.TantivyError.TheVariants as errors
use Rattle.tv_device.specs.View.{View, Told as ToldParts, Kept as KeptView, OnlyReads}
use Rattle.tv_device.specs.ViewLaws.{goes_on_itself, kept_itself}
use Rattle.tv_device.specs.declared.directory.Directory.{Ghosts}
use Rattle.tv_machine.specs.Living.{is_busy}
use Rattle.tv_formats.specs.Names.{meta_name}
use Rattle.tv_machine.proofs.Changes.{lifted}
use Rattle.tv_formats.specs.Files.{Rose}
use Rattle.tv_formats.proofs.Results.{on_err}
use Rattle.tv_machine.specs.State.{Catalog, State, StepResult, on_catalog}
use Rattle.tv_machine.specs.Machine.{catalog_step, step}
use Rattle.tv_machine.specs.Readable.{ReadsGood}
use Rattle.tv_events.specs.declared.event.Event.{Event}
use Rattle.tv_events.specs.declared.event.Event.TheVariants as events
use Rattle.tv_catalog.specs.Kept.{KeptState}
use Rattle.tv_store.specs.Kept.{StoreState, Holds, AtMost}
use Rattle.tv_catalog.specs.Exhausted.{IsExhausted, SpendsNumber}
use Rattle.tv_catalog.specs.ReaderNumbers.{FewNumbers}
use Rattle.tv_catalog.specs.Effects.{TakesMetaLock, written_by}
use Rattle.tv_store.specs.ReadCauses.{IsReadError}
use Rattle.tv_store.specs.Applying.{Stepped, ActCause, ApplyFaults, AsksNoFile, MayNoteAt, UnloadedAt, event_facts}
use Rattle.tv_store.specs.Stays.{Asks, Stays, KeepsDotted, EventFaults}
use Rattle.tv_store.specs.Acting.{Acts, KeepsMeta, LeavesStep, Passes, StepsTo}
use Rattle.tv_catalog.specs.Catalogs.{CatalogCause, FitsCatalog}
use Rattle.tv_store.proofs.BusyCatalogs.{busy_stays}
use Rattle.tv_store.proofs.Holding.{reads_alone, same_holds}
use Rattle.tv_store.proofs.KeptLocks.{keeps_same}
use Rattle.tv_store.proofs.Lifting.{catalog_held, numbers_grow, plain_event}
use Rattle.tv_store.proofs.Spending.{IsSpentBy, number_spent, spends_number}
use Rattle.tv_store.proofs.Steps.{IsNoCommit, notes_none, cause_in, reads_none, leaves_old, old_at_memory, stepped, at_most}

-- what an event passes that only wrote files, or that deleted some
pub passed : {W : Type 0} (told : ToldParts) (event : Event) (was now : Bool) (old new : View W) → was ≡ now → IsNoCommit event → KeptView told old new → Passes told event was now old new
passed told event was now old new same none h = record {
  goes_on = h.frame.tells_none.deletes_none.goes_on;
  heard = h.frame.tells_none.heard;
  locks = λ t. keeps_same was now old.locks new.locks same (h.frame.locks t);
  watched = notes_none event none old.watched new.watched h.watched;
}

module _ {O W C : Type 0} (g : Ghosts O W C) (old new : StoreState O) (event shown : Event) (is : event ≡ shown) (result : Result (List ℕ) TantivyError) where
  abbrev pub RefusedOne : Type 0
  RefusedOne = Rose (g.view old.outside).faults (g.view new.outside).faults

  abbrev pub RefusedNone : Type 0
  RefusedNone = (g.view new.outside).faults ≡ (g.view old.outside).faults

  abbrev pub Steps : Type 0
  Steps = IfOk result (Stepped g old new shown)

  abbrev pub Frames : Type 0
  Frames = Stays (Passes g.told shown (is_busy old.kept.catalog) (is_busy new.kept.catalog)) g.view old new

  -- what an event leaves that leaves `meta.json` alone at an error
  leaves : KeepsMeta g old new result → LeavesStep g old new shown result
  leaves meta = record {
    meta = λ tells s held whole. leaves_old result RefusedOne ((g.view old.outside).reads meta_name) ((g.view new.outside).reads meta_name) old.kept.form s shown (meta tells);
    memory = λ tells. old_at_memory result ((g.view old.outside).reads meta_name) ((g.view new.outside).reads meta_name) (meta tells);
  }

  pub acts : Steps → IfOk result (λ answer. length answer < (g.view new.outside).room)
      → ((bound : ℕ) → AtMost bound old.kept → AtMost (bound + written_by shown) new.kept)
      → ((bound : ℕ) → FewNumbers bound old.kept.catalog.reading old.kept.collections → OnOk result (FewNumbers (bound + written_by shown) new.kept.catalog.reading new.kept.collections))
      → ApplyFaults g old new shown result → KeepsMeta g old new result → (g.told.content → KeepsDotted (g.view old.outside).reads (g.view new.outside).reads) → Frames
      → Acts g old new event result
  acts step room lens numbers faults meta dotted frame =
      subst (λ (e : Event). Acts g old new e result) (sym is) (record {
        step = step;
        room = room;
        lens = lens;
        numbers = numbers;
        faults = faults;
        leaves = leaves meta;
        dotted = dotted;
        frame = frame;
      })

  -- one that takes no lock and reads no commit's files
  pub faults_alone : (spent : Type 0) → IsSpentBy spent (IsExhausted old.kept shown) → (TakesMetaLock old.kept.catalog shown → ⊥) → EventFaults spent (g.view old.outside) (g.view new.outside) result → ApplyFaults g old new shown result
  faults_alone spent all free faults = record {
    quiet = faults.quiet;
    fits = on_ok_weaker result (λ unspent exhausted. unspent (all.1 exhausted)) faults.fits;
    free = λ told takes. absurd (free takes);
    reads = λ told takes. absurd (free takes);
    cause =
        cause_in (List ℕ) (event_facts g (IsExhausted old.kept shown) old new shown) spent (UnloadedAt g old new shown) result faults.cause all.0;
  }

  step_alone : IsNoCommit shown → ((s : State) → ReadsGood s shown) → OnlyReads g.told (g.view old.outside) (g.view new.outside) → StepsTo g old new (λ s. step s shown []) result → Steps
  step_alone none good below h = stepped g old new shown none (λ s. step s shown []) result below.kept.frame.tells_none.deletes_none.refusals (λ s. refl) good (reads_alone below) h

-- an event that touches no file, whose answer was told in room that was made for it
pub acts_known : {O W C : Type 0} (g : Ghosts O W C) (old mid new : StoreState O) (event : Event) (known : StepResult Catalog) (result : Result (List ℕ) TantivyError)
    → catalog_step old.kept.catalog old.kept.managed event ≡ Some known → FitsCatalog event → (SpendsNumber old.kept.catalog event → ⊥)
    → mid.kept ≡ record old.kept { catalog = known.1 } → mid.outside ≡ old.outside → mid.standing ≡ old.standing
    → IfOk result (λ answer. answer ≡ known.0) → IfOk result (λ answer. length answer < (g.view new.outside).room)
    → EventFaults ⊥ (g.view mid.outside) (g.view new.outside) result → Asks (OnlyReads g.told) g.view mid new
    → Acts g old new event result
acts_known g old mid new event known result steps fits unspent kept outside standing answer room faults frame =
    let plain = plain_event old.kept.catalog old.kept.managed event known steps in
    let below : OnlyReads g.told (g.view old.outside) (g.view new.outside) = subst (λ o. OnlyReads g.told (g.view o) (g.view new.outside)) outside frame.below in
    let now : new.kept ≡ record old.kept { catalog = known.1 } = frame.kept ∙ kept in
    acts g old new event event refl result
    (step_alone g old new event event refl result plain.none plain.reads below (λ tells s held. weaker result answer (λ a said.
    let is = lifted s event [] known (here s held) in
    record {
      told = said ∙ ap (λ (t : StepResult State). t.0) (sym is);
      held = subst (λ (t : StepResult State). Holds (g.view new.outside).reads new.kept t.1) (sym is)
          (same_holds (g.view old.outside).reads (g.view new.outside).reads (record old.kept { catalog = known.1 }) new.kept (on_catalog s known).1 (below.content tells) now
          (catalog_held (g.view old.outside).reads old.kept s event known fits steps held));
    })))
    room
    (λ bound h. at_most bound (written_by event) new.kept (subst (AtMost bound) (sym now) h))
    (λ bound few. ok_result result (subst (λ (k : KeptState). FewNumbers (bound + written_by event) k.catalog.reading k.collections) (sym now) (numbers_grow bound old.kept.catalog old.kept.collections old.kept.managed event known few steps)))
    (faults_alone g old new event event refl result ⊥ ((λ never. absurd never), λ spent. unspent (number_spent old.kept old.kept.managed event known steps spent)) (plain.free old.kept.catalog) (subst (λ o. EventFaults ⊥ (g.view o) (g.view new.outside) result) outside faults))
    (λ tells. on_err result (below.content tells meta_name))
    (λ tells n dot other. below.content tells n)
    (record { form = ap (λ (k : KeptState). k.form) now; standing = frame.standing ∙ standing; below = passed g.told event (is_busy old.kept.catalog) (is_busy new.kept.catalog) (g.view old.outside) (g.view new.outside) busy plain.none below.kept }) where
      here : (s : State) → Holds (g.view old.outside).reads old.kept s → catalog_step s.catalog s.managed event ≡ Some known
      here s h = subst (λ (c : Catalog). catalog_step c s.managed event ≡ Some known) h.catalog (subst (λ (names : List (List ℕ)). catalog_step old.kept.catalog names event ≡ Some known) h.managed steps)

      busy : is_busy old.kept.catalog ≡ is_busy new.kept.catalog
      busy = sym (busy_stays old.kept.catalog old.kept.managed event known steps) ∙ ap (λ (k : KeptState). is_busy k.catalog) (sym (frame.kept ∙ kept))

      weaker : (r : Result (List ℕ) TantivyError) {P Q : List ℕ → Type 0} → IfOk r P → ((a : List ℕ) → P a → Q a) → IfOk r Q
      weaker (Ok a) h f = f a h
      weaker (Err e) h f = tt

      ok_result : (r : Result (List ℕ) TantivyError) {P : Type 0} → P → OnOk r P
      ok_result (Ok a) h = h
      ok_result (Err e) h = tt

-- an event that touches no file is answered no error of a file that is read
unread : (spent : Type 0) {P : Type 0} (error : TantivyError) → CatalogCause spent error → IsReadError error → P
unread spent (errors.OpenReadError e) h r = absurd h
unread spent (errors.DataCorruption why) h r = absurd h
unread spent (errors.SchemaError text) h r = absurd h
unread spent other h r = absurd r

-- it asks for nothing but room for its answer, or, where it wasn't made, for nothing
pub asks_known : {O W C : Type 0} (g : Ghosts O W C) (old mid new : StoreState O) (result : Result (List ℕ) TantivyError) → mid.outside ≡ old.outside
    → EventFaults ⊥ (g.view mid.outside) (g.view new.outside) result → OnlyReads g.told (g.view mid.outside) (g.view new.outside) → AsksNoFile (OnlyReads g.told) g old new result
asks_known g old mid new result same faults below = record {
  below = subst (λ o. OnlyReads g.told (g.view o) (g.view new.outside)) same below;
  error = reads_none (List ℕ) (Rose (g.view mid.outside).faults (g.view new.outside).faults) ((g.view new.outside).faults ≡ (g.view mid.outside).faults) ⊥ ⊥ result faults.cause;
}

pub asks_unknown : {O W C : Type 0} (g : Ghosts O W C) (spent : Type 0) (store : StoreState O) (error : TantivyError) → CatalogCause spent error → AsksNoFile (OnlyReads g.told) g store store (Err error)
asks_unknown g spent store error why = record { below = record { kept = kept_itself g.told (g.view store.outside); content = λ tells n. refl }; error = unread spent error why }

-- one that wasn't made, for want of memory or for a number that is spent
pub acts_unknown : {O W C : Type 0} (g : Ghosts O W C) (store : StoreState O) (event : Event) (error : TantivyError) → CatalogCause (SpendsNumber store.kept.catalog event) error → Acts g store store event (Err error)
acts_unknown g store event error why = record {
  step = tt;
  room = tt;
  lens = λ bound h. at_most bound (written_by event) store.kept h;
  numbers = λ bound few. tt;
  faults = record { quiet = tt; free = λ told takes. tt; fits = tt; reads = λ told takes. unread (SpendsNumber store.kept.catalog event) error why; cause = cause error why };
  leaves = record { meta = λ tells s held whole. ([], inl refl); memory = λ tells wanted. refl };
  dotted = λ tells n dot other. refl;
  frame = record {
    form = refl;
    standing = refl;
    below = record {
      goes_on = goes_on_itself g.told (g.view store.outside);
      heard = refl;
      locks = λ told. keeps_same (is_busy store.kept.catalog) (is_busy store.kept.catalog) (g.view store.outside).locks (g.view store.outside).locks refl (λ n. refl);
      watched = quiet_notes event;
    };
  };
} where
  cause : (e : TantivyError) → CatalogCause (SpendsNumber store.kept.catalog event) e → ActCause g store store event e
  cause errors.Memory h = refl
  cause errors.Exhausted h = (refl, spends_number store.kept event h)
  cause other h = absurd h

  quiet_notes : (e : Event) → MayNoteAt e (g.view store.outside).watched (g.view store.outside).watched
  quiet_notes (events.Commit payload ids) = inl refl
  quiet_notes other = refl
