-- Plain names.
use Rattle.std.proofs.Common.{◌≡◌, ℕ, true, true≢false, List, sym, subst}
use Rattle.tv_formats.specs.Listing.{IsListFile}
use Rattle.tv_formats.specs.Names.{is_plain}

pub plain_isnt_list : (name : List ℕ) → is_plain name ≡ true → IsListFile name → ⊥
plain_isnt_list name plain is =
    true≢false (sym (subst (λ (n : List ℕ). is_plain n ≡ true) is plain))
