use Rattle.std.proofs.Common.{refl}
use Rattle.std.proofs.lemmas.Result.{IfOk-weaker}
use Rattle.tv_store.proofs.EventLaws.{bytes_shown}
use Rattle.tv_store.proofs.laws.events.bytes_reads_no_file.Goals as goal

pub returns-clause-shown : goal.returns-clause-shown
returns-clause-shown g c h =
    IfOk-weaker c.apply.result _ _ (λ answer did. bytes_shown g.O.Directory c.args.store.now c.apply.new.self h c.args.number c.args.ord c.args.component answer did) c.apply.ensures.step

pub returns-clause-asks : goal.returns-clause-asks
returns-clause-asks g c = (c.apply.ensures.frame.alone refl).below

pub returns-clause-never : goal.returns-clause-never
returns-clause-never g c = (c.apply.ensures.frame.alone refl).error
