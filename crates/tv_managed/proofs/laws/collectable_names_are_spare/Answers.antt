use Rattle.std.proofs.Common.{◌≡◌, ◌&&◌, ◌||◌, not, Bool, true, false, refl, ap, ◌∙◌}
use Rattle.std.proofs.lemmas.Result.{IfOk-weaker}
use Rattle.tv_formats.specs.Names.{has}
use Rattle.tv_formats.specs.Collections.{held}
use Rattle.tv_formats.proofs.CollectedNames.{has_append, has_without}
use Rattle.tv_managed.specs.Collecting.{names_of}
use Rattle.tv_managed.proofs.laws.collectable_names_are_spare.Goals as goal

neither : (a b d c : Bool) → d ≡ (a || b) → (not d && c) ≡ (not a && not b && c)
neither true b d c h = rw h refl
neither false b d c h = rw h refl

pub returns : goal.returns
returns g c =
    let living = names_of c.args.living.now.keys in
    let others = held c.args.directory.now.1.collections in
    let managed = c.args.directory.now.1.managed in
    IfOk-weaker c.collectable.result _ _ (λ names is n.
    ap (λ l. has l n) is ∙ has_without _ managed n ∙ neither (has living n) (has others n) _ (has managed n) (has_append living others n)) c.collectable.ensures
