use Rattle.std.proofs.Common.{◌∙◌, option_map, ap, sym}
use Rattle.std.proofs.lemmas.Option.{none-some}
use Rattle.tv_framing.proofs.entries.starts_in.Goals as goal

pub returns-in-None-clause-found : goal.returns-in-None-clause-found
returns-in-None-clause-found c entries short spells layout = absurd (none-some _ (sym (ap (option_map (λ v. v.items)) c.in-None.is) ∙ c.in_ok-entries.ensures.found entries short spells.fits spells.text))
