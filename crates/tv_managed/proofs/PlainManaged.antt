-- Names that are plain have no dot in front.
use Rattle.std.proofs.Common.{◌≡◌, ℕ, true, true≢false, List, [], ◌∷◌, sym, subst, ⊎_elim}
use Rattle.std.specs.List.{list_all}
use Rattle.std.proofs.lemmas.Bool.{or_cases}
use Rattle.tv_formats.specs.Names.{has, is, is_plain, is_undotted}
use Rattle.tv_formats.proofs.Entries.{is_text}
use Rattle.tv_formats.proofs.PlainNames.{both, plain_is_undotted}

pub plain_undotted : (names : List (List ℕ)) (n : List ℕ) → list_all is_plain names ≡ true → has names n ≡ true → is_undotted n ≡ true
plain_undotted [] n plain h = absurd (true≢false (sym h))
plain_undotted (name ∷ names) n plain h =
    let t = both (is_plain name) (list_all is_plain names) plain in
    ⊎_elim (λ it. subst (λ m. is_undotted m ≡ true) (is_text name n it) (plain_is_undotted name t.0)) (λ more. plain_undotted names n t.1 more) (or_cases (is name n) (has names n) h)
