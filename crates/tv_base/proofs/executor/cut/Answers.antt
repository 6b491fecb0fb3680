use Rattle.std.proofs.Common.{rules}
use Rattle.tv_base.proofs.Parts.{same_part, next_part}
use Rattle.tv_base.proofs.executor.cut.Goals as goal
use Rattle.tv_base.proofs.executor.cut.Goals.{then-len+in_ok-push, else-len}

pub loop-arg-preserved : goal.loop-arg-preserved
loop-arg-preserved g c =
    elim c.if-len.branch [
      | then-len+in_ok-push w ↦ next_part (λ part. part.items) c.loop-arg.parts.items c.if-len.parts.items c.loop-arg.part c.push-in-loop-arg.new.self.items
          c.loop-arg.arg-iterator.rest.items c.next.new.self.rest.items c.args.args.items c.in-Some.arg c.loop-arg.invariant
          (search rules) (search rules) (search rules)
      | else-len w ↦ same_part (λ part. part.items) c.if-len.parts.items c.loop-arg.part.items c.push-in-loop-arg.new.self.items
          c.loop-arg.arg-iterator.rest.items c.next.new.self.rest.items c.args.args.items c.in-Some.arg (search rules)
          (search rules) (search rules)
    ]
