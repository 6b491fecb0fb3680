use Rattle.std.proofs.Common.{rules}
use Rattle.tv_base.proofs.MapSteps.{goes_on}
use Rattle.tv_base.proofs.executor.in_turn.Goals as goal

pub loop-arg-preserved : goal.loop-arg-preserved
loop-arg-preserved g c =
    goes_on _ _ _ _ c.loop-arg.values.items c.push.new.self.items c.in-Some.arg c.in_ok-f.field-0 c.loop-arg.invariant
    (search rules) (search rules) (search rules)
