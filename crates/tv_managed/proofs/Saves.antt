-- What a save of the list changes.
use Rattle.std.proofs.Common.{◌≡◌, ◌⊎◌, ℕ, true, false, true≢false, List, sym, subst, ◌∙◌, ⊎_elim, Option}
use Rattle.tv_formats.specs.Names.{is, has, is_undotted, list_name}
use Rattle.tv_formats.specs.Files.{Reads, Same}
use Rattle.tv_formats.specs.Listing.{Lists}
use Rattle.tv_managed.specs.Managed.{Covers, NeedsNoListing}
use Rattle.tv_managed.specs.Names.{ManagedNames, done_names}

-- whatever became of a save of names that may be more, the list that reads has the names of before
pub covers_put : (now before : Option (List ℕ)) (names : ManagedNames) (put : List (List ℕ)) → ((n : List ℕ) → has names.managed n ≡ true → has (done_names names.collections) n ≡ false → has put n ≡ true) → Lists now put ⊎ (now ≡ before) → Covers before names
    → Covers now names
covers_put now before names put more either was = ⊎_elim (λ saved. (put, saved, more)) (λ kept. subst (λ r. Covers r names) (sym kept) was) either

-- a call that changes nothing
pub still_covers : {D : Type 0} (reads : D → Reads) (old new : D) (before after : ManagedNames) → Same (reads old) (reads new) → after ≡ before → Covers (reads old list_name) before → Covers (reads new list_name) after
still_covers reads old new before after same is h = subst (Covers (reads new list_name)) (sym is) (subst (λ r. Covers r before) (sym (same list_name)) h)

-- a name that isn't managed is to be listed
pub isnt_listed : (names : ManagedNames) (name : List ℕ) → is_undotted name ≡ true → has names.managed name ≡ false → NeedsNoListing names name → ⊥
isnt_listed names name undotted none listed = true≢false (sym (listed undotted) ∙ none)
