-- What a crash may leave of an event that is applied.
use Rattle.std.proofs.Common.{◌≡◌, ◌≤◌, ◌∷◌, [], ℕ, Bool, List, Result, Ok, Err, append-nil, refl, sym, ap, subst, ◌∙◌, ⊎_elim}
use Rattle.tv_base.specs.declared.error.TantivyError.{TantivyError}
use Rattle.tv_base.specs.declared.error.TantivyError.TheVariants as errors
use Rattle.tv_base.specs.declared.io.IoFault.{IoFault}
use Rattle.tv_crashes.proofs.RunsTold.{stopped, stopped_then, told_turn}
use Rattle.tv_crashes.proofs.ToldLines.{no_feed_no_line}
use Rattle.tv_crashes.specs.Runs.{HasDone, HearsNoLine, OnlyTellsLine, Seen}
use Rattle.tv_crashes.specs.Stored.{IsSafe, stored_of}
use Rattle.tv_device.specs.Images.{KeepsDisk, StandsNow}
use Rattle.tv_device.specs.View.{OnlyTells}
use Rattle.tv_device.specs.declared.directory.Directory.{Ghosts}
use Rattle.tv_formats.proofs.DiskLaws.{within_step}
use Rattle.tv_formats.specs.Commits.{IndexForm}
use Rattle.tv_formats.specs.Disk.{possible_now}
use Rattle.tv_machine.specs.Machine.{step}
use Rattle.tv_machine.specs.State.{State}
use Rattle.tv_events.specs.declared.event.Event.{Event}
use Rattle.tv_store.specs.Acting.{Acts}
use Rattle.tv_store.specs.Durable.{ActsSafely, store_files}
use Rattle.tv_store.specs.Kept.{IsHeld, StoreState}
use Rattle.tv_catalog.specs.Kept.{KeptState}
use Rattle.tv_store.specs.Surviving.{AppliesSafely, seen_of}
use Rattle.tv_store.specs.Telling.{TellsNoLine, TriesLine}
use Rattle.tv_store.proofs.Applied.{closed}
use Rattle.tv_store.proofs.Durable.{read_durable}
use Rattle.tv_store.proofs.Holding.{same_holds}

-- a fault of the device isn't want of memory
pub io_isnt_memory : (fault : IoFault) → errors.IoError fault ≡ errors.Memory → ⊥
io_isnt_memory fault e = cc

module _ {O W C : Type 0} (g : Ghosts O W C) (old mid : StoreState O) (event : Event) (s : State) where
  abbrev Before : Seen
  Before = seen_of g old.outside

  abbrev Between : Seen
  Between = seen_of g mid.outside

  -- no line was told by the step
  quiet : {result : Result (List ℕ) TantivyError} → Acts g (closed old) mid event result → HearsNoLine Before Between
  quiet acted = record { pieces = []; heard = acted.frame.below.heard ∙ sym (append-nil (g.view old.outside).heard); none = refl }

  -- the step failed
  pub failed_survives : (error : TantivyError) → Acts g (closed old) mid event (Err error) → ActsSafely {A = List ℕ} g (closed old) mid event s (Err error) → AppliesSafely g old mid event s (Err error)
  failed_survives error acted safe = record { ok = tt; durable = tt; err = λ outcomes. stopped (safe.moments outcomes) (quiet acted); memory = safe.memory }

  -- it was made, and its line was tried
  module _ (new : StoreState O) (answer : List ℕ) (acted : Acts g (closed old) mid event (Ok answer)) (safe : ActsSafely g (closed old) mid event s (Ok answer)) (kept : new.kept ≡ mid.kept)
      (told : OnlyTells g.told (g.view mid.outside) (g.view new.outside)) (keeps : KeepsDisk (g.disk mid.outside) (g.disk new.outside)) where
    abbrev Behind : Seen
    Behind = seen_of g new.outside

    -- what is held after the line was held before it
    held_before : g.told.content → (t : State) → IsHeld g new t → IsHeld g mid t
    held_before content t h = same_holds (g.view new.outside).reads (g.view mid.outside).reads new.kept mid.kept t (λ n. sym (told.content content n)) (sym kept) h

    no_line : TellsNoLine (g.view mid.outside).heard (g.view new.outside).heard → HearsNoLine Between Behind
    no_line tells = ⊎_elim
        (λ (same : (g.view new.outside).heard ≡ (g.view mid.outside).heard). record { pieces = []; heard = same ∙ sym (append-nil (g.view mid.outside).heard); none = refl })
        (λ part. record { pieces = (part.0, part.1) ∷ []; heard = part.3; none = no_feed_no_line part.0 part.1 part.2 }) tells

    -- it wasn't told
    pub untold_survives : {A E : Type 0} (fault : E) (error : TantivyError) → (error ≡ errors.Memory → ⊥) → TriesLine {A = A} g.told (g.view mid.outside) (g.view new.outside) answer (Err fault) → g.told.heard
        → AppliesSafely g old new event s (Err error)
    untold_survives fault error other tries hears = record {
      ok = tt;
      durable = tt;
      err = λ outcomes. stopped_then (stopped (safe.moments outcomes) (quiet acted)) (within_step keeps.time keeps.states.possible.no_more) (no_line (tries.err hears));
      memory = λ wanted. absurd (other wanted);
    }

    -- it was
    has_done : g.told.content → (outcomes : List Bool) → IsHeld g new (step s event outcomes).1 → HasDone old.kept.form Before Between s (event, outcomes)
    has_done content outcomes h =
        let t = (step s event outcomes).1 in
        let d = safe.durable t (held_before content t h) in
        record {
          does = safe.moments outcomes;
          heard = acted.frame.below.heard;
          done =
              subst (λ (f : IndexForm). IsSafe (stored_of f t) (stored_of f t) (possible_now (g.disk mid.outside))) acted.frame.form
              (record { listed = d.tracked.forgets_none; stored = d.stored });
        }

    pub told_survives : {A E : Type 0} (x : A) → TriesLine {E = E} g.told (g.view mid.outside) (g.view new.outside) answer (Ok x) → StandsNow (g.view mid.outside) (g.disk mid.outside) → StandsNow (g.view new.outside) (g.disk new.outside)
        → g.told.content → g.told.heard → AppliesSafely g old new event s (Ok answer)
    told_survives x tries before after content hears = record {
      ok = λ outcomes is h. told_turn (has_done content outcomes h) (subst (OnlyTellsLine Between Behind) is only_line);
      durable = λ t h.
          read_durable g (store_files mid) (store_files new) t (safe.durable t (held_before content t h)) (ap (λ (k : KeptState). k.form) kept)
          (ap (λ (k : KeptState). record { managed = k.managed; collections = k.collections }) kept) keeps;
      err = tt;
      memory = tt;
    }
      where
        only_line : OnlyTellsLine Between Behind answer
        only_line =
            let line = tries.ok hears in
            record {
              moment = line.moment;
              later = subst (λ (n : ℕ). n ≤ line.moment) (sym before.clock) line.later;
              sooner = subst (λ (n : ℕ). line.moment ≤ n) (sym after.clock) line.sooner;
              heard = line.heard;
              within = keeps.states.possible.no_more;
              time = keeps.time;
            }
