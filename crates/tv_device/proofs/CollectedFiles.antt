-- Names of files that are collected, one after the other.
use Rattle.std.proofs.Common.{◌≡◌, ◌||◌, ◌∷◌, ℕ, Bool, true, false, cond, List, Option, Some, refl, sym, ap, ◌∙◌, is_some}
use Rattle.std.specs.BTreeMap.{is_at}
use Rattle.tv_formats.specs.Names.{byte_cmp, has, is, at}
use Rattle.tv_formats.proofs.Entries.{is_by_order}
use Rattle.tv_formats.proofs.CollectedNames.{or_moved}
use Rattle.tv_device.specs.declared.files.StoredFile.{StoredFile}
use Rattle.tv_device.specs.StoredFiles.{is_there}

found_first : (b : Bool) (file : StoredFile) (rest : Option StoredFile) → is_some (cond b (Some file) rest) ≡ (b || is_some rest)
found_first true file rest = refl
found_first false file rest = refl

-- the names that were added, and those of the files that are still to come
pub names_one : (new old : List (List ℕ)) (name : List ℕ) (file : StoredFile) (rest others : List (List ℕ × StoredFile)) (n : List ℕ) {there : Bool} → has new n ≡ (is name n || has old n) → rest ≡ (name, file) ∷ others → (has old n || is_there rest n) ≡ there → (has new n || is_there others n) ≡ there
names_one new old name file rest others n added first so_far =
    let there_first : is_there rest n ≡ (is name n || is_there others n) = ap (λ (l : List (List ℕ × StoredFile)). is_there l n) first ∙ found_first (is_at (byte_cmp n) name) file (at others n) ∙ ap (λ (b : Bool). b || is_there others n) (sym (is_by_order n name)) in
    ap (λ (b : Bool). b || is_there others n) added ∙ or_moved (is name n) (has old n) (is_there others n) ∙ ap (λ (b : Bool). has old n || b) (sym there_first) ∙ so_far
