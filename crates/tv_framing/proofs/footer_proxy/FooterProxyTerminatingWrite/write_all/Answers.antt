use Rattle.std.proofs.Common.{refl, subst, sym}
use Rattle.tv_framing.specs.Proxies.{SumsUp}
use Rattle.tv_framing.proofs.Proxied.{stays_more, stays_same}
use Rattle.tv_framing.proofs.footer_proxy.FooterProxyTerminatingWrite.write_all.Goals as goal

pub returns-in_err-write_all-clause-stays : goal.returns-in_err-write_all-clause-stays
returns-in_err-write_all-clause-stays g c =
    stays_same g.W.TerminatingWrite g.C.Checksum _ _ _ _ c.self.view_is c.write_all.ensures.stays (sym c.in-Some.is) refl c.in_err-write_all.ensures.faults (record { ok = tt; memory = c.in_err-write_all.ensures.takes.memory })

pub returns-clause-stays : goal.returns-clause-stays
returns-clause-stays g c =
    stays_more g.W.TerminatingWrite g.C.Checksum _ _ _ c.args.bytes.now c.self.view_is c.write_all.ensures.stays
    (λ body sums. c.update.ensures body (subst (λ s. SumsUp g.C.Checksum.has_taken s body) c.in-Some.is sums)) refl c.in_ok-write_all.ensures.takes.ok
