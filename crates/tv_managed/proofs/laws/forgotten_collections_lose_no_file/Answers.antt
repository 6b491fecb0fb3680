use Rattle.std.proofs.Common.{refl, sym, ap, ◌∙◌, subst}
use Rattle.tv_formats.specs.Disk.{possible_now}
use Rattle.tv_formats.specs.Listed.{IsAlwaysListed}
use Rattle.tv_formats.specs.Names.{has}
use Rattle.tv_managed.proofs.Spared.{first_left}
use Rattle.tv_managed.proofs.laws.forgotten_collections_lose_no_file.Goals as goal

pub returns : goal.returns
returns g c tells on_list was =
    let D = g.D.Directory in
    let safe = c.collect_delete.ensures.safe tells (first_left _ refl c.requires) in
    let listed = safe.listed on_list in
    let forgets = c.forget_collections.ensures in (
      λ n h.
          subst (λ d. IsAlwaysListed (possible_now (D.disk d)) n) (sym forgets.directory)
          (listed n (ap (λ v. has v.managed n) (sym forgets.forgets) ∙ h)),
      forgets.tracked listed (safe.tracks was).tracked,
    )
