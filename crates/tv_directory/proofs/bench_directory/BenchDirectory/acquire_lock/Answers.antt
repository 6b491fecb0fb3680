use Rattle.std.proofs.Common.{refl, ap}
use Rattle.tv_device.specs.Ram.{ram_states}
use Rattle.tv_directory.proofs.Recorded.{kept_by, unchanged}
use Rattle.tv_directory.proofs.bench_directory.BenchDirectory.acquire_lock.Goals as goal

pub returns-then-refuses-clause-images : goal.returns-then-refuses-clause-images
returns-then-refuses-clause-images g c = unchanged _ _

pub returns-clause-images : goal.returns-clause-images
returns-clause-images g c = kept_by _ _ _ _ _ (ap ram_states c.acquire_lock.ensures.frame) refl (λ n. refl)
