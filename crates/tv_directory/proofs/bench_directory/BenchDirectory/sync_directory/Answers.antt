use Rattle.tv_device.specs.Ram.{ram_states}
use Rattle.tv_directory.proofs.Recorded.{synced}
use Rattle.tv_directory.proofs.bench_directory.BenchDirectory.sync_directory.Goals as goal

pub returns-clause-images : goal.returns-clause-images
returns-clause-images g c =
    let one = synced _ _ (ram_states c.args.self.now.ram) c.settle.ensures.calls in
    record { now = one.now; ok = one.settled; err = tt; no_more = one.no_more; time = one.time }
