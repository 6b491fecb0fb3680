use Rattle.tv_store.proofs.CrashLaws.{event_survives}
use Rattle.tv_store.proofs.laws.crashes.an_event_survives_a_crash.Goals as goal

pub returns : goal.returns
returns g c tells heard s held whole durable =
    event_survives g.O.Directory c.args.store.now c.apply.new.self c.args.event.now s c.apply.result (c.apply.ensures.survives tells heard s held whole durable)
