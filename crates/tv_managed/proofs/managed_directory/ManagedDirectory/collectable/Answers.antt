use Rattle.std.proofs.Common.{◌≡◌, ◌++◌, ◌∷◌, [], ◌||◌, ℕ, List, refl, sym, ap, ◌∙◌}
use Rattle.std.proofs.lemmas.Result.{IfOk-weaker}
use Rattle.tv_formats.specs.Names.{has}
use Rattle.tv_formats.specs.Collections.{collectable, held}
use Rattle.tv_formats.proofs.CollectedNames.{has_append}
use Rattle.tv_managed.specs.Collecting.{names_of, taken_by, texts_of}
use Rattle.tv_managed.proofs.managed_directory.ManagedDirectory.collectable.Goals as goal

-- what is collectable counts on which names are needed alone
same_needed : (needed others managed : List (List ℕ)) → ((n : List ℕ) → has needed n ≡ has others n) → collectable needed managed ≡ collectable others managed
same_needed needed others [] same = refl
same_needed needed others (name ∷ managed) same = rw (same name, same_needed needed others managed same) refl

beside : (living found held : List (List ℕ)) → ((n : List ℕ) → has found n ≡ has held n) → (n : List ℕ) → has (living ++ found) n ≡ has (living ++ held) n
beside living found held same n = has_append living found n ∙ ap (λ b. has living n || b) (same n) ∙ sym (has_append living held n)

pub returns : goal.returns
returns g c =
    let living = names_of c.args.living.now.keys in
    let found = texts_of c.in_ok-held.held.keys in
    let others = held c.self.inside.collections in
    let managed = names_of c.self.inside.managed.keys in
    IfOk-weaker c.names_to_collect.result _ _ (λ names is. is ∙ same_needed (living ++ found) (living ++ others) managed (beside living found others c.in_ok-held.ensures) ∙ ap (λ v. taken_by living v.1) c.self.view_is) c.names_to_collect.ensures
