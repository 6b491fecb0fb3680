use Rattle.tv_framing.proofs.Proxied.{one_step}
use Rattle.tv_framing.proofs.footer.Footer.append_footer.Goals as goal

pub returns-clause-stays : goal.returns-clause-stays
returns-clause-stays g c = one_step _ _ _ c.write_all.ensures.stays
