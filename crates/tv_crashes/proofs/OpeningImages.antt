-- What an opening leaves of an index that was stored.
use Rattle.std.proofs.Common.{◌≡◌, ◌∙◌, List, Some, ℕ, subst, ⊎_elim}
use Rattle.tv_formats.specs.Commits.{IndexForm}
use Rattle.tv_formats.specs.Disk.{Absent, Disk, possible_now}
use Rattle.tv_formats.specs.Files.{Reads}
use Rattle.tv_formats.specs.Listed.{ListsItsFiles}
use Rattle.tv_formats.specs.Names.{meta_name}
use Rattle.tv_formats.specs.Sound.{IsSoundImage}
use Rattle.tv_machine.specs.State.{State}
use Rattle.tv_crashes.specs.Stored.{HasCommitOf, IsFromStart, IsSafe, ShowsWhole, StateMeans, stored_of}
use Rattle.tv_crashes.proofs.StoredImages.{shows}

-- a sound image lists its files
sound_lists : {schema : List ℕ} {image : Reads} → IsSoundImage schema image → ListsItsFiles image
sound_lists sound = record {
  lists = (sound.names, sound.listing);
  each = λ n undotted some. (sound.names, sound.listing, sound.listed n undotted some);
}

-- an image with the commit of an earlier one, which shows it whole, shows it whole too
shows_alike : (form : IndexForm) (s : State) {earlier image : Reads} → HasCommitOf form.schema earlier image → ShowsWhole earlier (stored_of form s) → ShowsWhole image (stored_of form s)
shows_alike form s {earlier} {image} alike was =
    let meta : image meta_name ≡ Some was.meta.0 = alike.meta ∙ was.meta.1 in
    record {
      meta = (was.meta.0, meta, was.meta.2);
      files = λ n needs.
          let file = was.files n needs in
          (file.0, file.1, alike.files form.settings was.meta.0 s.catalog.commit meta was.meta.2 n needs ∙ file.2);
    }

-- a stored `meta.json` isn't absent, so that none of a new index is made
not_absent : (form : IndexForm) (s : State) (start : Disk) → IsSafe (stored_of form s) (stored_of form s) (possible_now start) → possible_now start meta_name (start.now meta_name)
    → start.now meta_name ≡ Absent → ⊥
not_absent form s start safe now absent = subst (λ m. StateMeans m (stored_of form s)) absent (⊎_elim (λ of. of.0) (λ of. of.0) (safe.stored.each (start.now meta_name) now))

pub kept_by_opening : (form : IndexForm) (s : State) (start : Disk) (image : Reads) → IsSafe (stored_of form s) (stored_of form s) (possible_now start)
    → possible_now start meta_name (start.now meta_name) → IsFromStart form.schema start image → ShowsWhole image (stored_of form s) × ListsItsFiles image
kept_by_opening form s start image safe now of_start = (
  ⊎_elim
      (λ old. shows_alike form s old.2 (⊎_elim (λ one. one) (λ same. same) (shows safe old.1).whole))
      (λ fresh. absurd (not_absent form s start safe now fresh.0))
      of_start.commit,
  sound_lists of_start.sound,
)
