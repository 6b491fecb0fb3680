use Rattle.std.proofs.Common.{length, refl, arith}
use Rattle.std.proofs.lemmas.Option.{slice_get_read}
use Rattle.tv_histories.proofs.Mixing.{least_suc, least_all}
use Rattle.tv_histories.proofs.merged.next_caller.Goals as goal

pub loop-caller-preserved : goal.loop-caller-preserved
loop-caller-preserved c =
    least_suc (λ q. q.items) c.args.lists.now c.loop-caller.caller c.loop-caller.least c.index-lists-caller.result c.first_place.result c.lesser-least.result c.loop-caller.invariant
    (slice_get_read c.args.lists.now (length c.args.lists.now) c.loop-caller.caller c.index-lists-caller.result refl (omega arith) c.index-lists-caller.is) c.first_place.ensures.none c.first_place.ensures.some c.lesser-least.ensures.none c.lesser-least.ensures.some

pub returns-in-None-clause-none : goal.returns-in-None-clause-none
returns-in-None-clause-none c = least_all (λ q. q.items) c.args.lists.now c.loop-caller.caller c.loop-caller.least c.loop-caller.invariant (omega arith) c.in-None.is
