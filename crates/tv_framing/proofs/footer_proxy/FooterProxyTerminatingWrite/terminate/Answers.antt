use Rattle.std.proofs.Common.{◌≡◌, ◌∙◌, subst, sym}
use Rattle.std.specs.Prelude.{IfSome}
use Rattle.tv_framing.specs.Proxies.{SumsUp}
use Rattle.tv_framing.proofs.Parts.{on_ok}
use Rattle.tv_framing.proofs.Proxied.{ends_so, one_step, seals, stays_ended, two_steps}
use Rattle.tv_framing.proofs.footer_proxy.FooterProxyTerminatingWrite.terminate.Goals as goal

pub returns-in_err-write_all-clause-stays : goal.returns-in_err-write_all-clause-stays
returns-in_err-write_all-clause-stays g c =
    stays_ended g.W.TerminatingWrite g.C.Checksum _ _ _ c.self.view_is c.take.ensures.after (one_step _ _ _ c.write_all.ensures.stays)

pub returns-clause-sealed : goal.returns-clause-sealed
returns-clause-sealed g c =
    on_ok c.terminate.result c.terminate.ensures.sealed (λ is.
    seals g.W.TerminatingWrite g.C.Checksum _ _ c.write_all.new.self c.terminate.new.self c.finish.result c.as_slice.result.now c.self.view_is
    (subst (λ s. IfSome s (λ _. c.self.inside.footer_len ≡ 0)) (sym c.in-Some.ensures.value) c.self.invariant) c.write_all.ensures.stays c.in_ok-write_all.ensures.faults.going c.in_ok-write_all.ensures.takes.ok
    (c.as_slice.ensures.value ∙ c.in_ok-footer.ensures.own c.finish.result c.new.ensures.footer)
    (λ body sums. c.finish.ensures body (subst (λ s. SumsUp g.C.Checksum.has_taken s body) (sym c.in-Some.ensures.value) sums)) is)

pub returns-clause-stays : goal.returns-clause-stays
returns-clause-stays g c =
    stays_ended g.W.TerminatingWrite g.C.Checksum _ _ _ c.self.view_is c.take.ensures.after (two_steps _ _ _ _ c.write_all.ensures.stays c.terminate.ensures.stays)

pub returns-clause-footer : goal.returns-clause-footer
returns-clause-footer g c =
    ends_so g.W.TerminatingWrite g.C.Checksum _ _ _ c.write_all.new.self c.finish.result c.as_slice.result.now c.terminate.result c.self.view_is c.terminate.ensures.ends c.in_ok-write_all.ensures.takes.ok
    (c.as_slice.ensures.value ∙ c.in_ok-footer.ensures.own c.finish.result c.new.ensures.footer)
    (λ body sums. c.finish.ensures body (subst (λ s. SumsUp g.C.Checksum.has_taken s body) (sym c.in-Some.ensures.value) sums))
