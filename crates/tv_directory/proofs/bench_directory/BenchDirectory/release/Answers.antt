use Rattle.std.proofs.Common.{refl, ap}
use Rattle.tv_device.specs.Ram.{ram_states}
use Rattle.tv_directory.proofs.Recorded.{kept_by}
use Rattle.tv_directory.proofs.bench_directory.BenchDirectory.release.Goals as goal

pub returns-clause-images : goal.returns-clause-images
returns-clause-images g c = kept_by _ _ _ _ _ (ap ram_states c.release.ensures.frame) refl (λ n. refl)
