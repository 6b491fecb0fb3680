-- What an image shows of what is stored, and what stays so.
use Rattle.std.proofs.Common.{◌≡◌, List, Option, Some, ℕ, inl, inr, ⊎_elim, subst}
use Rattle.tv_formats.specs.Disk.{DiskState, Absent, Unsealed, Sealed, MayRead, Possible, IsImage}
use Rattle.tv_formats.specs.Files.{Reads}
use Rattle.tv_formats.specs.Names.{meta_name}
use Rattle.tv_formats.proofs.DiskLaws.{HoldsOfFewer, fewer_listed}
use Rattle.tv_formats.proofs.ListedImages.{images_list}
use Rattle.tv_crashes.specs.Stored.{IsMetaOf, IsSafe, ShowsEither, ShowsWhole, StateMeans, Stored}

-- ---- fewer possible states

fewer_meta : {old new : Possible} (c : Stored) (meta : DiskState) → ((n : List ℕ) (s : DiskState) → new n s → old n s) → IsMetaOf old meta c → IsMetaOf new meta c
fewer_meta c meta within was = (was.0, record { each = λ n needs. let here = was.1.each n needs in (here.0, here.1, λ s is. here.2 s (within n s is)) })

pub fewer_safe : (before after : Stored) → HoldsOfFewer (IsSafe before after)
fewer_safe before after old new within was = record {
  listed = fewer_listed old new within was.listed;
  stored = record {
    each = λ meta is. ⊎_elim
        (λ of. inl (fewer_meta before meta within.each of))
        (λ of. inr (fewer_meta after meta within.each of))
        (was.stored.each meta (within.each meta_name meta is));
  };
}

-- ---- the one, and so it or another

pub safe_or : {before after : Stored} {possible : Possible} → IsSafe before before possible → IsSafe before after possible
safe_or was = record {
  listed = was.listed;
  stored = record { each = λ meta is. ⊎_elim (λ of. inl of) (λ of. inl of) (was.stored.each meta is) };
}

pub or_safe : {before after : Stored} {possible : Possible} → IsSafe after after possible → IsSafe before after possible
or_safe was = record {
  listed = was.listed;
  stored = record { each = λ meta is. ⊎_elim (λ of. inr of) (λ of. inr of) (was.stored.each meta is) };
}

-- ---- what an image shows

-- a text that `meta.json` has in a state that means the commit
meant : (s : DiskState) (read : Option (List ℕ)) (c : Stored) → MayRead s read → StateMeans s c → (text : List ℕ) × (read ≡ Some text) × StateMeans (Sealed text) c
meant Absent read c may means = absurd means
meant Unsealed read c may means = absurd means
meant (Sealed text) read c may means = (text, may, means)

reads_sealed : {s : DiskState} {read : Option (List ℕ)} (bytes : List ℕ) → s ≡ Sealed bytes → MayRead s read → read ≡ Some bytes
reads_sealed {read = read} bytes e may = subst (λ t. MayRead t read) e may

shows_whole : {possible : Possible} {image : Reads} {c : Stored} (meta : DiskState) → IsImage possible image → MayRead meta (image meta_name) → IsMetaOf possible meta c → ShowsWhole image c
shows_whole {image = image} {c = c} meta is may of = record {
  meta = meant meta (image meta_name) c may of.0;
  files = λ n needs.
      let here = of.1.each n needs in
      let state = is.each n in
      (here.0, here.1, reads_sealed here.0 (here.2 state.0 state.1) state.2);
}

pub shows : {before after : Stored} {possible : Possible} {image : Reads} → IsSafe before after possible → IsImage possible image → ShowsEither image before after
shows {image = image} safe is =
    let meta = is.each meta_name in
    record {
      whole = ⊎_elim (λ of. inl (shows_whole meta.0 is meta.2 of)) (λ of. inr (shows_whole meta.0 is meta.2 of)) (safe.stored.each meta.0 meta.1);
      listed = (images_list safe.listed).each image is;
    }
