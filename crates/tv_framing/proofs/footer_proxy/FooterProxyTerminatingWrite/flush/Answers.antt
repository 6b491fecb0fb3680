use Rattle.std.proofs.Common.{refl}
use Rattle.tv_framing.proofs.Proxied.{stays_same}
use Rattle.tv_framing.proofs.footer_proxy.FooterProxyTerminatingWrite.flush.Goals as goal

pub returns-clause-stays : goal.returns-clause-stays
returns-clause-stays g c =
    stays_same g.W.TerminatingWrite g.C.Checksum _ _ _ c.flush.result c.self.view_is c.flush.ensures.stays refl refl c.flush.ensures.faults c.flush.ensures.takes
