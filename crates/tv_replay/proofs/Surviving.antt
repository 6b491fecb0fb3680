-- What a crash leaves of a replay: of its opening, of its run, and at its end.
use Rattle.std.proofs.Common.{◌≡◌, ℕ, List, [], ◌∷◌, ◌++◌, Option, Some, Err, refl, sym, subst, ◌∙◌, arith, inl, ⊎_elim, take}
use Rattle.std.specs.List.{AllByRecursion}
use Rattle.std.proofs.lemmas.List.{take-append-drop}
use Rattle.std.proofs.Math.ListN.{drop}
use Rattle.tv_base.specs.declared.error.TantivyError.{TantivyError}
use Rattle.tv_formats.specs.Commits.{IndexForm}
use Rattle.tv_formats.specs.Disk.{Disk, IsImage, Possible, Within, possible_now}
use Rattle.tv_formats.specs.Files.{Reads}
use Rattle.tv_formats.specs.Schemas.{IsSchema, stripped}
use Rattle.tv_formats.specs.Sound.{IsSoundDirectory, IsSoundImage}
use Rattle.tv_formats.proofs.DiskLaws.{same, within_step}
use Rattle.tv_machine.specs.State.{State}
use Rattle.tv_events.specs.declared.event.Event.{Event}
use Rattle.tv_machine.specs.Index.{OpenedIndex}
use Rattle.tv_machine.specs.Machine.{Turn, after, events_of}
use Rattle.tv_events.specs.Script.{Fits}
use Rattle.tv_machine.specs.SoundStates.{IsSoundState, IsWhole}
use Rattle.tv_machine.proofs.OpenedStates.{opens_sound}
use Rattle.tv_machine.proofs.Serving.{front_fits, sound_after}
use Rattle.tv_machine.proofs.SoundOpenings.{sound_index}
use Rattle.tv_machine.proofs.WholeStates.{after_whole}
use Rattle.tv_crashes.specs.Runs.{OpensUntold, ReplaySurvives, RunsSafely, Seen}
use Rattle.tv_crashes.proofs.RunsTold.{opens_then, opens_untold, stopped_then}
use Rattle.tv_crashes.proofs.StoredImages.{shows}
use Rattle.tv_crashes.proofs.StoredSound.{shown_sound}
use Rattle.tv_device.specs.Images.{KeepsDisk, StandsNow}
use Rattle.tv_device.specs.Locks.{SameLocks}
use Rattle.tv_device.specs.View.{View}
use Rattle.tv_device.specs.declared.directory.Directory.{Ghosts}
use Rattle.tv_managed.specs.declared.managed_directory.Refused.{Refused}
use Rattle.tv_store.specs.Durable.{IsDurable, store_files}
use Rattle.tv_store.specs.Kept.{IsHeld, StoreState}
use Rattle.tv_store.specs.Opening.{Opens}
use Rattle.tv_store.specs.Surviving.{RefusesSafely, StartsSafely, seen_of}
use Rattle.tv_replay.specs.Replays.{BeginsWith}
use Rattle.tv_script.specs.ScriptLines.{TakesNextEvent}
use Rattle.tv_replay.specs.Surviving.{RunsInPart, SurvivesCrashes}
use Rattle.tv_replay.proofs.AppliedEvents.{Progress, fits-last, reads_whole}
use Rattle.tv_replay.proofs.AppliedWhole.{EventSurvives, hears_none, one_more_in_part}
use Rattle.tv_replay.proofs.Progress.{begins_next, events-last}

-- ---- a run

-- between two events
pub in_part : {O W C : Type 0} (g : Ghosts O W C) (old new : StoreState O) (text left : Option (List ℕ)) (count : ℕ) → Progress g old new text left count → RunsInPart g old new text
in_part g old new text left count p = record {
  turns = p.turns;
  fits = p.applied.fits;
  lines = λ whole told. (p.read whole told).begun;
  runs = λ t th s h w d. (p.applied.survives t th s h w d).runs.runs;
}

-- in an event that failed
pub in_event : {O W C : Type 0} (g : Ghosts O W C) (old now new : StoreState O) (text left later : Option (List ℕ)) (count : ℕ) (event : Event) (error : TantivyError) → Progress g old now text left count
    → TakesNextEvent left (Some event) later → Fits event → EventSurvives g now new event (Err error) → RunsInPart g old new text
in_event g old now new text left later count event error p takes fits survives =
    let turn : Turn = (event, []) in
    let events : events_of (p.turns ++ turn ∷ []) ≡ events_of p.turns ++ event ∷ [] = events-last p.turns turn in
    record {
      turns = p.turns ++ turn ∷ [];
      fits = subst (λ (es : List Event). AllByRecursion Fits es) (sym events) (fits-last (events_of p.turns) event p.applied.fits fits);
      lines = λ whole told. subst (BeginsWith whole) (sym events) (begins_next text left later p.turns event p.read takes whole told);
      runs = λ t th s h w d.
          let so_far = p.applied.survives t th s h w d in
          let did = survives.1 t th (after s p.turns) (p.applied.holds (survives.0 t) s h w) (after_whole s p.turns w) so_far.durable in
          one_more_in_part g old now new s p.turns event [] p.applied.form so_far (did.err []);
    }

-- ---- what is sound

-- the events of a first part fit
fit_first : (turns : List Turn) (k : ℕ) → AllByRecursion Fits (events_of turns) → AllByRecursion Fits (events_of (take k turns))
fit_first turns k fits = front_fits (take k turns) (drop k turns) (subst (λ (l : List Turn). AllByRecursion Fits (events_of l)) (sym (take-append-drop k turns)) fits)

-- at the end of a run from a sound state each image is sound
ends_sound : {form : IndexForm} {old new : Seen} {s : State} {turns : List Turn} → RunsSafely form old new s turns → IsSoundState s → AllByRecursion Fits (events_of turns) → (image : Reads) → IsImage (possible_now new.disk) image
    → IsSoundImage form.schema image
ends_sound {form} {new = new} {s = s} {turns = turns} run start fits image is =
    let shown = shows (run.each new.disk.moment run.later (omega arith)) is in
    let sound : (k : ℕ) → IsSoundState (after s (take k turns)) = λ k. sound_after s (take k turns) (fit_first turns k fits) start in
    ⊎_elim (λ one. shown_sound form _ image (sound _) one shown.listed) (λ other. shown_sound form _ image (sound _) other shown.listed) shown.whole

-- what reads is one of the images
reads_image : {W : Type 0} (view : View W) (disk : Disk) → StandsNow view disk → IsImage (possible_now disk) view.reads
reads_image view disk stands = record { each = λ n. (disk.now n, stands.possible n, stands.reads n) }

-- where fewer states are possible each image was one before
pub fewer_image : {old new : Possible} {image : Reads} → Within old new → IsImage new image → IsImage old image
fewer_image within is = record { each = λ n. let here = is.each n in (here.0, within.each n here.0 here.1, here.2) }

-- no call was made
pub keeps_same : (disk : Disk) → KeepsDisk disk disk
keeps_same disk = record {
  states = record { now = λ n. refl; possible = same (possible_now disk) };
  time = record { later = omega arith; past = λ x le. same (disk.possible x); inside = λ x from to. absurd (omega (arith, from, to)) };
}

-- ---- a replay

-- no line was told
untold_from : {schema : List ℕ} {reads : Reads} {old new : Seen} (index : OpenedIndex schema reads) → OpensUntold (stripped schema) old new → ReplaySurvives index.form old new index.state []
untold_from {old = old} {new = new} index untold = opens_untold index.state [] (subst (λ (text : List ℕ). OpensUntold text old new) (sym index.spelled.text_is) untold)

-- no line of the script was taken
none_begun : (script : Option (List ℕ)) (text : List ℕ) → script ≡ Some text → BeginsWith text []
none_begun script text told = record { texts = []; rest = text; each = tt; split = refl }

-- an opening that was refused
pub survives_refused : {O W C : Type 0} (g : Ghosts O W C) (before : O) (schema : List ℕ) (script : Option (List ℕ)) (refused : Refused O) → RefusesSafely g before schema refused
    → SurvivesCrashes g before refused.directory schema script
survives_refused g before schema script refused safe = record {
  turns = [];
  fits = tt;
  lines = none_begun script;
  each = λ index. untold_from index safe.untold;
  untold = λ none. safe.untold;
  sound = safe.sound;
}

-- nothing was done
pub survives_unbegun : {O W C : Type 0} (g : Ghosts O W C) (before : O) (schema : List ℕ) (script : Option (List ℕ)) → IsSoundDirectory (stripped schema) (g.disk before) (g.view before).locks
    → SurvivesCrashes g before before schema script
survives_unbegun g before schema script sound = record {
  turns = [];
  fits = tt;
  lines = none_begun script;
  each = λ index. untold_from index untold;
  untold = λ none. untold;
  sound = sound;
} where
  untold : OpensUntold (stripped schema) (seen_of g before) (seen_of g before)
  untold = record {
    silent = hears_none refl;
    before = λ x from to image is.
        let here : IsImage (possible_now (g.disk before)) image = subst (λ (y : ℕ). IsImage ((g.disk before).possible y) image) (omega (arith, from, to)) is in
        record { sound = sound.images image here; commit = inl (image, here, record { meta = refl; files = λ settings text commit reads means n needs. refl }) };
  }

module _ {O W C : Type 0} (g : Ghosts O W C) (before : O) (schema : List ℕ) (mid new : StoreState O) (now : O) (content : g.told.content) (opened : Opens g before schema mid) (started : StartsSafely g before schema mid)
    (keeps : KeepsDisk (g.disk new.outside) (g.disk now)) (heard : (g.view now).heard ≡ (g.view new.outside).heard) where
  -- a run, from each whole state that was held
  abbrev pub RunsFromHeld : List Turn → Type 0
  RunsFromHeld turns = (s : State) → IsHeld g mid s → IsWhole s → IsDurable g (store_files mid) s → RunsSafely mid.kept.form (seen_of g mid.outside) (seen_of g new.outside) s turns

  -- up to the directory that is given back
  back : (turns : List Turn) → RunsFromHeld turns → (index : OpenedIndex schema (g.view before).reads) → RunsSafely index.form (seen_of g mid.outside) (seen_of g now) index.state turns
  back turns runs index =
      let held = opened.holds content index in
      subst (λ (form : IndexForm). RunsSafely form (seen_of g mid.outside) (seen_of g now) index.state turns) held.0
      (stopped_then (runs index.state held.1 (reads_whole index held.2) (started.durable index)) (within_step keeps.time keeps.states.possible.no_more) (hears_none heard))

  -- an opening, and then a run
  pub survives_run : (turns : List Turn) → RunsFromHeld turns → (index : OpenedIndex schema (g.view before).reads) → ReplaySurvives index.form (seen_of g before) (seen_of g now) index.state turns
  survives_run turns runs index = opens_then (started.opens index) (back turns runs index)

  -- and all of it
  pub survives_opened : (script : Option (List ℕ)) → StandsNow (g.view before) (g.disk before) → SameLocks (g.view before).locks (g.view now).locks → (r : RunsInPart g mid new script) → RunsFromHeld r.turns
      → IsSoundDirectory (stripped schema) (g.disk before) (g.view before).locks → SurvivesCrashes g before now schema script
  survives_opened script stands locks r runs sound =
      let spelled : IsSchema schema (stripped schema) = subst (λ (text : List ℕ). IsSchema schema text) opened.spelled.text_is opened.spelled in
      let image = sound.images (g.view before).reads (reads_image (g.view before) (g.disk before) stands) in
      let index = sound_index schema (stripped schema) (g.view before).reads spelled image in
      let as_text : IsSoundImage index.form.schema (g.view before).reads = subst (λ (text : List ℕ). IsSoundImage text (g.view before).reads) (sym index.spelled.text_is) image in
      let start = opens_sound index.form.settings index.form.schema (g.view before).reads index.state as_text index.opens in
      record {
        turns = r.turns;
        fits = r.fits;
        lines = r.lines;
        each = survives_run r.turns runs;
        untold = λ none. absurd (none index);
        sound = record {
          images = λ shown is. subst (λ (text : List ℕ). IsSoundImage text shown) index.spelled.text_is (ends_sound (back r.turns runs index) start r.fits shown is);
          free = λ lock. locks lock ∙ sound.free lock;
        };
      }
