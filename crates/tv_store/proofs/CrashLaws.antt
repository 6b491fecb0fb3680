-- What follows of crashes for the laws.
use Rattle.std.proofs.Common.{◌≡◌, ◌≢◌, ℕ, Bool, List, Result, Ok, Err, true, false, sym, subst, ⊎_elim}
use Rattle.std.specs.Prelude.{IfErr, IfOk, MatchResult}
use Rattle.tv_base.specs.declared.error.TantivyError.{TantivyError}
use Rattle.tv_base.specs.declared.error.TantivyError.TheVariants as errors
use Rattle.tv_crashes.proofs.OpeningImages.{kept_by_opening}
use Rattle.tv_crashes.proofs.RunsTold.{survives}
use Rattle.tv_crashes.proofs.StoredImages.{fewer_safe, shows}
use Rattle.tv_crashes.proofs.StoredSound.{shown_sound}
use Rattle.tv_crashes.specs.Stored.{IsFromStart, IsSafe, ShowsEither, ShowsWhole, Stored, stored_of}
use Rattle.tv_device.specs.Images.{KeepsDisk, StandsNow}
use Rattle.tv_device.specs.View.{Told, View}
use Rattle.tv_device.specs.declared.directory.Directory.{Ghosts}
use Rattle.tv_formats.specs.Disk.{Disk, IsImage, Possible, Throughout, possible_now}
use Rattle.tv_formats.specs.Names.{is, meta_name}
use Rattle.tv_formats.specs.Schemas.{stripped}
use Rattle.tv_formats.specs.Files.{Reads}
use Rattle.tv_formats.specs.Commits.{IndexForm}
use Rattle.tv_formats.specs.Listed.{ListsItsFiles}
use Rattle.tv_formats.specs.Sound.{IsSoundDirectory, IsSoundImage}
use Rattle.tv_index.specs.Crashes.{LacksMeta, MayMake}
use Rattle.tv_index.specs.Opening.{first_text}
use Rattle.tv_machine.specs.Machine.{step}
use Rattle.tv_machine.specs.SoundStates.{IsSoundState}
use Rattle.tv_machine.specs.State.{State}
use Rattle.tv_events.specs.declared.event.Event.{Event}
use Rattle.tv_managed.specs.declared.managed_directory.Refused.{Refused}
use Rattle.tv_store.proofs.OpenedSafely.{at_each, new_index}
use Rattle.tv_store.specs.CrashLaws.{KeepsStored, SurvivesTurn}
use Rattle.tv_store.specs.Kept.{IsHeld, StoreState}
use Rattle.tv_store.specs.Opening.{Opens, OpensSafely}
use Rattle.tv_store.proofs.FreedLocks.{all_free}
use Rattle.tv_managed.specs.Collecting.{meta_lock_name}
use Rattle.tv_store.specs.ReloadLocks.{FreesLocks}
use Rattle.tv_store.specs.StoreCauses.{writer_lock_name}
use Rattle.tv_store.specs.Surviving.{AppliesSafely, SurvivesOpening}

-- a run of an event survives
pub event_survives : {O W C : Type 0} (g : Ghosts O W C) (old new : StoreState O) (event : Event) (s : State) (result : Result (List ℕ) TantivyError) → AppliesSafely g old new event s result
    → (outcomes : List Bool) → MatchResult result (λ answer. answer ≡ (step s event outcomes).0 → IsHeld g new (step s event outcomes).1 → SurvivesTurn g old new s (event, outcomes)) (λ error. SurvivesTurn g old new s (event, outcomes))
event_survives g old new event s (Ok answer) safe outcomes = λ told held. survives (safe.ok outcomes told held).runs
event_survives g old new event s (Err error) safe outcomes = survives (safe.err outcomes)

-- one of the same is it
shows_it : {image : Reads} {c : Stored} → ShowsEither image c c → ShowsWhole image c × ListsItsFiles image
shows_it either = (⊎_elim (λ of. of) (λ of. of) either.whole, either.listed)

-- what is stored at each moment is left at each
pub keeps : (c : Stored) (old new : Disk) → Throughout (IsSafe c c) old new → KeepsStored old new c
keeps c old new run x image from to left = shows_it (shows (run.each x from to) left)

pub memory_keeps : {O W C : Type 0} (g : Ghosts O W C) (old new : StoreState O) (event : Event) (s : State) (result : Result (List ℕ) TantivyError) → AppliesSafely g old new event s result
    → IfErr result (λ error. error ≡ errors.Memory → KeepsStored (g.disk old.outside) (g.disk new.outside) (stored_of old.kept.form s))
memory_keeps g old new event s (Ok answer) safe = tt
memory_keeps g old new event s (Err error) safe = λ is. keeps (stored_of old.kept.form s) (g.disk old.outside) (g.disk new.outside) (safe.memory is)

-- an image of what two sound states store is sound
pub image_sound : (form : IndexForm) (before after : State) (possible : Possible) (image : Reads) → IsSoundState before → IsSoundState after → IsSafe (stored_of form before) (stored_of form after) possible
    → IsImage possible image → IsSoundImage form.schema image
image_sound form before after possible image sound_before sound_after safe is =
    let either = shows safe is in
    ⊎_elim (λ whole. shown_sound form before image sound_before whole either.listed) (λ whole. shown_sound form after image sound_after whole either.listed) either.whole

-- and so is the directory of a store that is closed
pub closed_sound : {W : Type 0} (form : IndexForm) (before after : State) (told : Told) (old new : View W) (old_disk new_disk : Disk) → told.locks → IsSoundState before → IsSoundState after
    → IsSafe (stored_of form before) (stored_of form after) (possible_now old_disk) → KeepsDisk old_disk new_disk → (was : Bool) → FreesLocks told writer_lock_name was old new
    → ((lock : List ℕ) → lock ≢ writer_lock_name → (was ≡ true → lock ≢ meta_lock_name) → old.locks lock ≡ false) → IsSoundDirectory form.schema new_disk new.locks
closed_sound form before after told old new old_disk new_disk tells sound_before sound_after safe keeps was frees others = record {
  images = λ image is. image_sound form before after (possible_now new_disk) image sound_before sound_after (fewer_safe _ _ _ _ keeps.states.possible.no_more safe) is;
  free = all_free told was old new tells frees others;
}

-- an opening takes no stored commit away
pub opening_keeps : {O W C : Type 0} (g : Ghosts O W C) (outside : O) (schema : List ℕ) (content : g.told.content) (stands : (d : O) → StandsNow (g.view d) (g.disk d)) (sound : IsSoundDirectory (stripped schema) (g.disk outside) (g.view outside).locks)
    (tells : g.tells_images) (heard : g.told.heard) (locks : g.told.locks) (form : IndexForm) (s : State) → form.schema ≡ stripped schema → IsSafe (stored_of form s) (stored_of form s) (possible_now (g.disk outside))
    → (result : Result (StoreState O) (Refused O)) → IfOk result (Opens g outside schema) → OpensSafely g outside schema result → SurvivesOpening g outside schema result
    → MatchResult result (λ store. KeepsStored (g.disk outside) (g.disk store.outside) (stored_of form s)) (λ refused. KeepsStored (g.disk outside) (g.disk refused.directory) (stored_of form s))
opening_keeps g outside schema content stands sound tells heard locks form s same safe (Ok store) opens made start = λ x image from to left.
    let makes = subst (λ (y : List ℕ). MayMake g (LacksMeta g outside) (first_text y) outside store.outside) opens.spelled.text_is made.ok in
    kept_by_opening form s (g.disk outside) image safe ((stands outside).possible meta_name)
    (subst (λ (y : List ℕ). IsFromStart y (g.disk outside) image) (sym same) (at_each g outside schema content stands sound (new_index g outside schema content stands sound store.kept.form.schema opens.spelled) store.outside makes x from to image left))
opening_keeps g outside schema content stands sound tells heard locks form s same safe (Err refused) opens made start = λ x image from to left.
    kept_by_opening form s (g.disk outside) image safe ((stands outside).possible meta_name)
    (subst (λ (y : List ℕ). IsFromStart y (g.disk outside) image) (sym same) ((start tells heard locks sound).untold.before x from to image left))
