-- An image that shows what a sound state stores is sound.
use Rattle.std.specs.Prelude.{option_map}
use Rattle.std.proofs.Common.{◌≡◌, ℕ, List, Option, None, Some, ap, subst, sym, ◌∙◌}
use Rattle.tv_formats.specs.Commits.{IndexForm}
use Rattle.tv_formats.specs.Files.{Reads}
use Rattle.tv_formats.specs.Listed.{ListsItsFiles}
use Rattle.tv_formats.specs.Names.{has, list_name}
use Rattle.tv_formats.specs.Sound.{IsSoundImage, IsSoundMeta}
use Rattle.tv_formats.proofs.ListTexts.{lists_one}
use Rattle.tv_formats.proofs.Required.{required_by_one}
use Rattle.tv_machine.specs.SoundStates.{IsSoundState}
use Rattle.tv_machine.specs.State.{FileState, Left, Open, SealedFile, State, file_at}
use Rattle.tv_crashes.specs.Stored.{ShowsWhole, sealed_bytes, stored_of}

-- a file that is sealed with some bytes
pub sealed_file : (file : Option FileState) (bytes : List ℕ) → sealed_bytes file ≡ Some bytes → file ≡ Some (SealedFile bytes)
sealed_file None bytes e = absurd (cc e)
sealed_file (Some (SealedFile own)) bytes e = ap (option_map SealedFile) e
sealed_file (Some (Open body)) bytes e = absurd (cc e)
sealed_file (Some Left) bytes e = absurd (cc e)

pub shown_sound : (form : IndexForm) (s : State) (image : Reads) → IsSoundState s → ShowsWhole image (stored_of form s) → ListsItsFiles image → IsSoundImage form.schema image
shown_sound form s image sound shows lists = record {
  names = lists.lists.0;
  listing = lists.lists.1;
  listed = λ n undotted some.
      let on = lists.each n undotted some in
      ap (λ (names : List (List ℕ)). has names n) (lists_one (image list_name) lists.lists.0 on.0 lists.lists.1 on.1) ∙ on.2;
  commit =
      subst (IsSoundMeta form.schema image) (sym shows.meta.1) (
        form.settings,
        s.catalog.commit,
        shows.meta.2,
        record {
          each = λ n needs.
              let file = shows.files n needs in
              let required = ap (λ (names : List (List ℕ)). has names n) (sym (required_by_one s.catalog.commit)) ∙ needs in
              (file.0, file.2, sound.good.0 n file.0 required (sealed_file (file_at s n) file.0 file.1));
        },
      );
}
