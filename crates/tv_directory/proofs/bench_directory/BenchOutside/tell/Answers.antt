use Rattle.tv_device.specs.Ram.{ram_states}
use Rattle.tv_directory.proofs.Recorded.{told}
use Rattle.tv_directory.proofs.bench_directory.BenchOutside.tell.Goals as goal

pub returns-clause-images : goal.returns-clause-images
returns-clause-images g c = told _ (ram_states c.args.self.now.ram) _ c.add.ensures.calls
