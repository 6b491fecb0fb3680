-- An empty directory is sound.
use Rattle.std.proofs.Common.{◌≡◌, ℕ, true≢false, List, [], None, sym, ap, subst, ◌∙◌}
use Rattle.std.specs.Prelude.{is_some}
use Rattle.tv_formats.specs.Names.{meta_name}
use Rattle.tv_formats.specs.Files.{Reads}
use Rattle.tv_formats.specs.Sound.{IsSoundImage, IsSoundMeta}
use Rattle.tv_formats.proofs.ListTexts.{listing_of_none}

-- a directory without files is sound, and opens to this state
pub empty_sound : (schema : List ℕ) (reads : Reads) → ((n : List ℕ) → reads n ≡ None) → IsSoundImage schema reads
empty_sound schema reads none = record {
  names = [];
  listing = listing_of_none reads none;
  listed = λ n undotted some. absurd (true≢false (sym some ∙ ap is_some (none n)));
  commit = subst (IsSoundMeta schema reads) (sym (none meta_name)) tt;
}
