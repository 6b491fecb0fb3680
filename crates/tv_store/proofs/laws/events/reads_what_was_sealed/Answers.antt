use Rattle.std.proofs.lemmas.Result.{IfOk-weaker}
use Rattle.tv_store.proofs.EventLaws.{reads_sealed}
use Rattle.tv_store.proofs.laws.events.reads_what_was_sealed.Goals as goal

pub returns : goal.returns
returns g c h segment body live opened =
    IfOk-weaker c.apply-2.result _ _ (λ answer did. reads_sealed g.O.Directory c.args.store.now c.apply.new.self c.apply-2.new.self h c.args.id c.args.component c.args.bytes segment body live opened _ answer c.in_ok-_wrote.ensures.step did) c.apply-2.ensures.step
