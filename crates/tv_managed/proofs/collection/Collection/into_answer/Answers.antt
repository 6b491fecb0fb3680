use Rattle.std.proofs.Common.{◌≡◌, false, ap, subst, ◌∙◌, map, string_bytes, take}
use Rattle.tv_formats.specs.Names.{has}
use Rattle.tv_formats.proofs.HeldNames.{once_sorted}
use Rattle.tv_managed.proofs.TriedSo.{tried_apart}
use Rattle.tv_managed.proofs.collection.Collection.into_answer.Goals as goal

pub returns-clause-apart : goal.returns-clause-apart
returns-clause-apart c n h =
    let names = map string_bytes c.self.inside.names.items in
    let outcomes = take c.self.inside.tried c.self.inside.outcomes.items in
    subst (λ v. has v.done n ≡ false) c.self.view_is (tried_apart names outcomes n (once_sorted names c.self.invariant.0.managed.ordered) (ap (λ v. has v.failed n) c.self.view_is ∙ h))
