-- What the files of the list of managed files tell, and which names aren't theirs.
use Rattle.std.proofs.Common.{◌≡◌, ◌≢◌, ℕ, List, Option, true, false, true≢false, refl, sym, ap, subst, ◌∙◌}
use Rattle.tv_formats.specs.Files.{Reads, KeepsOthers}
use Rattle.tv_machine.specs.Index.{IsFileOf}
use Rattle.tv_formats.specs.Listing.{IsListFile, Listing, Lists}
use Rattle.tv_formats.specs.Names.{is_undotted}

-- where they read what they read, they tell the same names
pub listing_kept : (old new : Reads) (names : List (List ℕ)) → ((n : List ℕ) → IsListFile n → new n ≡ old n) → Listing old names → Listing new names
listing_kept old new names same h = subst (λ (read : Option (List ℕ)). Lists read names) (sym (same _ refl)) h

-- their names have a dot in front
pub list_is_dotted : (n : List ℕ) → IsListFile n → is_undotted n ≡ false
list_is_dotted n is = ap is_undotted is

-- so that no other name is one of theirs
pub undotted_isnt_list : (n : List ℕ) → is_undotted n ≡ true → IsListFile n → ⊥
undotted_isnt_list n h is = true≢false (sym h ∙ list_is_dotted n is)

-- a file of the index is none of theirs
list_isnt_file : (name n : List ℕ) → IsFileOf name → IsListFile n → n ≢ name
list_isnt_file name n fits is e = undotted_isnt_list n (ap is_undotted e ∙ fits.0) is

-- so that they stay where it alone may change
pub listing_beside : (old new : Reads) (name : List ℕ) (names : List (List ℕ)) → IsFileOf name → KeepsOthers old new name → Listing old names → Listing new names
listing_beside old new name names fits others h = listing_kept old new names (λ n is. others n (list_isnt_file name n fits is)) h
