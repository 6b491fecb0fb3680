-- What a crash may leave of an event whose line is yet to be told.
use Rattle.std.proofs.Common.{◌≡◌, ℕ, List, Some, Result, Ok, Err, [], refl, sym, ap, subst, ◌∙◌}
use Rattle.std.specs.Prelude.{IfErr, OnOk}
use Rattle.tv_base.specs.declared.error.TantivyError.{TantivyError}
use Rattle.tv_base.specs.declared.error.TantivyError.TheVariants as errors
use Rattle.tv_crashes.specs.Stored.{IsSafe, sealed_bytes, stored_of}
use Rattle.tv_crashes.proofs.StoredImages.{safe_or}
use Rattle.tv_device.specs.Images.{KeepsDisk, StandsNow}
use Rattle.tv_device.specs.View.{OnlyReads}
use Rattle.tv_device.specs.declared.directory.Directory.{Ghosts}
use Rattle.tv_formats.proofs.DiskLaws.{weaker}
use Rattle.tv_formats.proofs.Results.{any_err, on_ok}
use Rattle.tv_formats.specs.Commits.{Commit}
use Rattle.tv_formats.specs.Disk.{Throughout}
use Rattle.tv_machine.proofs.Changes.{lifted}
use Rattle.tv_machine.specs.Living.{is_busy}
use Rattle.tv_machine.specs.Machine.{catalog_step}
use Rattle.tv_machine.specs.SoundStates.{IsWhole}
use Rattle.tv_machine.specs.State.{Catalog, State, StepResult, file_at, on_catalog}
use Rattle.tv_events.specs.declared.event.Event.{Event}
use Rattle.tv_catalog.specs.Actions.{after, changed, reply_in, settled}
use Rattle.tv_catalog.specs.Catalogs.{FitsCatalog}
use Rattle.tv_store.specs.Durable.{ActsSafely, IsDurable, LeavesStored, PerformsSafely, store_files}
use Rattle.tv_store.specs.Kept.{FilesState, Holds, IsHeld, Standing, StoreState, kept_of, names_below}
use Rattle.tv_catalog.specs.Kept.{KeptState}
use Rattle.tv_store.specs.Performing.{Performs}
use Rattle.tv_catalog.specs.Plans.{CanPerform, Plans}
use Rattle.tv_store.specs.Stays.{KeepsFiles}
use Rattle.tv_catalog.specs.declared.action.Reply.{Reply}
use Rattle.tv_catalog.specs.declared.plan.Planned.{Planned}
use Rattle.tv_store.proofs.ActsPlanned.{commit_stays, files_hold, held_after, in_memory, live_stays, stepped, store_of}
use Rattle.tv_store.proofs.Asking.{kept_by_files}
use Rattle.tv_store.proofs.Durable.{read_durable, read_run}
use Rattle.tv_store.proofs.DurableCommits.{later_stored}
use Rattle.tv_store.proofs.DurableStates.{held_durable, relocked}
use Rattle.tv_store.proofs.FileStates.{disk_same}
use Rattle.tv_store.proofs.Holding.{same_holds}
use Rattle.tv_store.proofs.Lifting.{catalog_held, commit_stays as catalog_keeps}
use Rattle.tv_store.proofs.NewlyRequired.{MayRequire, required_step}

-- an event that touches no file, whose answer was told in room that was made for it
pub told_acts : {O W C : Type 0} (g : Ghosts O W C) (old new : StoreState O) (event : Event) (known : StepResult Catalog) (result : Result (List ℕ) TantivyError) (s : State) → g.told.content → IsHeld g old s → IsDurable g (store_files old) s
    → catalog_step old.kept.catalog old.kept.managed event ≡ Some known → FitsCatalog event → new.kept ≡ record old.kept { catalog = known.1 } → OnlyReads g.told (g.view old.outside) (g.view new.outside)
    → KeepsDisk (g.disk old.outside) (g.disk new.outside) → StandsNow (g.view new.outside) (g.disk new.outside) → ActsSafely g old new event s result
told_acts g old new event known result s content held d steps fits kept below keeps stands = record {
  moments = λ outcomes. weaker run (λ p safe. safe_or safe);
  durable = on_ok result (held_durable g new s s (on_catalog s known).1 stands still after refl (catalog_keeps s.catalog s.managed event known here) (λ n. refl) requires);
  memory = any_err result (λ e wanted. run);
}
  where
    here : catalog_step s.catalog s.managed event ≡ Some known
    here = subst (λ (c : Catalog). catalog_step c s.managed event ≡ Some known) held.catalog (subst (λ (names : List (List ℕ)). catalog_step old.kept.catalog names event ≡ Some known) held.managed steps)

    run : Throughout (IsSafe (stored_of old.kept.form s) (stored_of old.kept.form s)) (g.disk old.outside) (g.disk new.outside)
    run = read_run g (store_files old) (store_files new) s d keeps

    still : IsDurable g (store_files new) s
    still = read_durable g (store_files old) (store_files new) s d (ap (λ (k : KeptState). k.form) kept) (ap (λ (k : KeptState). record { managed = k.managed; collections = k.collections }) kept) keeps

    after : IsHeld g new (on_catalog s known).1
    after = same_holds (g.view old.outside).reads (g.view new.outside).reads (record old.kept { catalog = known.1 }) new.kept (on_catalog s known).1 (below.content content) kept
        (catalog_held (g.view old.outside).reads old.kept s event known fits steps held)

    requires : (n : List ℕ) → MayRequire s n (on_catalog s known).1
    requires n = subst (λ (r : StepResult State). MayRequire s n r.1) (lifted s event [] known here) (required_step s event [] n)

module _ {O W C : Type 0} (g : Ghosts O W C) (catalog : Catalog) (standing : Standing) (first : FilesState O) (event : Event) (s : State) (held : Holds (g.view first.outside).reads (kept_of catalog first) s) (durable : IsDurable g (store_files (store_of catalog first standing)) s) where
  -- that of its files
  d : IsDurable g first s
  d = relocked g (store_files (store_of catalog first standing)) first.locked s durable

  -- the event failed, and what the state stores is stored at each moment
  failed_acts : {A : Type 0} (new : StoreState O) (error : TantivyError) → Throughout (IsSafe (stored_of first.form s) (stored_of first.form s)) (g.disk first.outside) (g.disk new.outside)
      → ActsSafely {A = A} g (store_of catalog first standing) new event s (Err error)
  failed_acts new error run = record { moments = λ outcomes. weaker run (λ p safe. safe_or safe); durable = tt; memory = λ wanted. run }

  pub unplanned_acts : {A : Type 0} (error : TantivyError) → ActsSafely {A = A} g (store_of catalog first standing) (store_of catalog first standing) event s (Err error)
  unplanned_acts error = failed_acts (store_of catalog first standing) error (read_run g first first s d (disk_same (g.disk first.outside)))

  module _ (next : FilesState O) (asked : KeepsFiles (OnlyReads g.told) g.view first next) (keeps : KeepsDisk (g.disk first.outside) (g.disk next.outside)) where
    pub unready_acts : {A : Type 0} (error : TantivyError) → ActsSafely {A = A} g (store_of catalog first standing) (store_of catalog next standing) event s (Err error)
    unready_acts error = failed_acts (store_of catalog next standing) error (read_run g first next s d keeps)

    module _ (planned : Planned) (plans : Plans (kept_of catalog first) event planned) (same : (g.view next.outside).faults ≡ (g.view first.outside).faults) (last : FilesState O) (performing : Result Reply TantivyError) where
      -- what the action leaves, behind the call that made room
      pub leaves_behind : g.tells_images → g.told.content → IsWhole s → PerformsSafely g planned.action next last performing → LeavesStored g planned.action first last s performing
      leaves_behind tells content whole performs =
          let memory = in_memory g catalog standing first event planned plans next asked same s held in
          let names : (names_below next).1 ≡ (names_below first).1 = rw (asked.managed.names, asked.managed.collections) refl in
          later_stored g planned.action first next last s performing asked.managed.form (read_run g first next s d keeps)
          (performs tells s (files_hold g catalog standing first event planned plans next asked same content s held) whole (plans.suits s memory)
          (subst (λ kept. CanPerform kept planned.action) (sym (ap (λ c. kept_of c next) (sym held.catalog) ∙ kept_by_files catalog asked)) plans.ready) (read_durable g first next s d asked.managed.form names keeps))

      -- and what the event does
      pub performed_acts : {A : Type 0} (k : Catalog) (result : Result A TantivyError) → LeavesStored g planned.action first last s performing
          → OnOk result ((t : State) → IsHeld g (store_of k last standing) t → IsDurable g (store_files (store_of k last standing)) t)
          → IfErr result (λ error. error ≡ errors.Memory → Throughout (IsSafe (stored_of first.form s) (stored_of first.form s)) (g.disk first.outside) (g.disk last.outside))
          → ActsSafely g (store_of catalog first standing) (store_of k last standing) event s result
      performed_acts k result leaves durable wanted = record {
        moments = λ outcomes.
            let reply = reply_in s planned.action outcomes in
            let now = after s planned.action reply in
            subst (λ (t : StepResult State). Throughout (IsSafe (stored_of first.form s) (stored_of first.form t.1)) (g.disk first.outside) (g.disk last.outside))
            (sym (plans.steps s (in_memory g catalog standing first event planned plans next asked same s held) outcomes))
            (subst (λ (c : Commit). Throughout (IsSafe (stored_of first.form s) (record { form = first.form; commit = c; pins = []; bytes = λ n. sealed_bytes (file_at now n) })) (g.disk first.outside) (g.disk last.outside))
            (sym (commit_stays now planned.change reply)) (leaves.moments outcomes));
        durable = durable;
        memory = wanted;
      }

    -- a crash can't hurt what it leaves
    pub durable_after : (planned : Planned) (plans : Plans (kept_of catalog first) event planned) (same : (g.view next.outside).faults ≡ (g.view first.outside).faults) (last : FilesState O) (reply : Reply) → g.told.content → IsWhole s
        → Performs g planned.action next last (Ok reply) → LeavesStored g planned.action first last s (Ok reply) → StandsNow (g.view last.outside) (g.disk last.outside)
        → (k : Catalog) → k ≡ settled catalog planned.change reply → (t : State) → IsHeld g (store_of k last standing) t → IsDurable g (store_files (store_of k last standing)) t
    durable_after planned plans same last reply content whole p leaves settles k is t h =
        let deletes = p.performed.0 in
        let did = p.performed.2 content s (files_hold g catalog standing first event planned plans next asked same content s held) whole (plans.suits s (in_memory g catalog standing first event planned plans next asked same s held)) in
        let now = after s planned.action reply in
        relocked g (store_files (store_of (settled catalog planned.change reply) last standing)) (is_busy k) t
        (held_durable g (store_of (settled catalog planned.change reply) last standing) s now (changed now planned.change reply) settles (relocked g last (is_busy (settled catalog planned.change reply)) now leaves.durable)
        (held_after g catalog standing first event planned plans next asked same last s deletes reply held p.gives did) (live_stays s planned.action reply) (commit_stays now planned.change reply) (λ n. refl)
        (λ n. subst (λ (r : StepResult State). MayRequire s n r.1) (stepped g catalog standing first event planned plans next asked same last s held deletes reply did.reply_is) (required_step s event deletes n))
        t (subst (λ (c : Catalog). IsHeld g (store_of c last standing) t) is h))
