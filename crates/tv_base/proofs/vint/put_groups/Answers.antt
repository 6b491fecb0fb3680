use Rattle.std.proofs.Common.{◌++◌, ◌/◌, ◌%◌, ap, sym, ◌∙◌, arith}
use Rattle.tv_base.proofs.VInts.{spelled_small, step_whole, kept_more}
use Rattle.tv_base.proofs.vint.put_groups.Goals as goal

pub loop-rest-preserved : goal.loop-rest-preserved
loop-rest-preserved c =
    let large = c.loop-rest-test.true in
    rw c.in_ok-push.ensures.items
    record {
      whole = step_whole _ _ c.loop-rest.rest _ _ (omega (arith, large, c.from.ensures)) (ap (λ m. c.loop-rest.rest % m) c.from-in-loop-rest.ensures) (ap (λ m. c.loop-rest.rest / m) c.from-rest.ensures) c.loop-rest.invariant.whole;
      kept = kept_more _ _ _ c.loop-rest.invariant.kept;
    }

pub returns-clause-ok : goal.returns-clause-ok
returns-clause-ok c =
    let small = c.loop-rest-test.false in
    c.in_ok-push-2.ensures.items
    ∙ ap (λ v. c.loop-rest.out.items ++ v) (sym (spelled_small c.loop-rest.rest (omega (arith, small, c.from.ensures))))
    ∙ c.loop-rest.invariant.whole
