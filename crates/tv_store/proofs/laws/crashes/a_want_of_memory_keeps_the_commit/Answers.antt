use Rattle.tv_store.proofs.CrashLaws.{memory_keeps}
use Rattle.tv_store.proofs.laws.crashes.a_want_of_memory_keeps_the_commit.Goals as goal

pub returns : goal.returns
returns g c tells heard s held whole durable =
    memory_keeps g.O.Directory c.args.store.now c.apply.new.self c.args.event.now s c.apply.result (c.apply.ensures.survives tells heard s held whole durable)
