use Rattle.std.proofs.Common.{ap, arith}
use Rattle.std.proofs.lemmas.Result.{IfOk-weaker}
use Rattle.tv_managed.proofs.laws.collect_begin_gives_a_number_once.Goals as goal

pub returns : goal.returns
returns g c = IfOk-weaker c.collect_begin.result _ _ (λ number begins. omega (arith, begins.numbered, ap (λ v. v.collections.next) begins.names)) c.collect_begin.ensures.begins
