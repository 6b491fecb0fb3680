use Rattle.std.proofs.Common.{arith}
use Rattle.std.proofs.lemmas.Option.{MatchOption-at_none, MatchOption-at_some}
use Rattle.tv_framing.proofs.FooterEnds.{framed_at, no_footer, of_fault}
use Rattle.tv_framing.proofs.footer.footer_in.Goals as goal

pub returns-in-Some : goal.returns-in-Some
returns-in-Some c =
    let spells = MatchOption-at_some _ _ c.in-Some.footer c.in-Some.is c.in_ok-footer.ensures in
    (omega (arith, c.in_ok-range.ensures.size), framed_at c.args.bytes.now c.in_ok-range.range.start c.in_ok-range.range.end c.in-Some.footer c.in_ok-range.ensures (spells _))

pub returns-in-None : goal.returns-in-None
returns-in-None c =
    let none = MatchOption-at_none _ _ c.in-None.is c.in_ok-footer.ensures in
    of_fault c.refusal.result c.refusal.ensures (λ f is. no_footer c.args.bytes.now c.in_ok-range.range.start c.in_ok-range.range.end f c.in_ok-range.ensures (λ footer. none footer _) is)
