use Rattle.std.proofs.Common.{arith}
use Rattle.tv_base.proofs.VInts.{at_least_before}
use Rattle.tv_base.proofs.vint.number_of.Goals as goal

pub returns-in_err-checked_mul-clause-found : goal.returns-in_err-checked_mul-clause-found
returns-in_err-checked_mul-clause-found c =
    let least = at_least_before _ _ _ _ c.loop-i-test.true c.loop-i.auto.i c.loop-i.invariant in
    λ small. absurd (c.in_err-checked_mul.ensures (omega (arith, least, small)))

pub returns-in_err-number-clause-found : goal.returns-in_err-number-clause-found
returns-in_err-number-clause-found c =
    let least = at_least_before _ _ _ _ c.loop-i-test.true c.loop-i.auto.i c.loop-i.invariant in
    λ small. absurd (c.in_err-number.ensures (omega (arith, least, small, c.in_ok-checked_mul.ensures.1, c.from.ensures)))
