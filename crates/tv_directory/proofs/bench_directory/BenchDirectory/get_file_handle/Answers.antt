use Rattle.std.proofs.Common.{refl, ap}
use Rattle.tv_device.specs.Ram.{ram_states}
use Rattle.tv_directory.proofs.Recorded.{kept_by}
use Rattle.tv_directory.proofs.bench_directory.BenchDirectory.get_file_handle.Goals as goal

pub returns-then-refuses-clause-images : goal.returns-then-refuses-clause-images
returns-then-refuses-clause-images g c =
    let others = c.refused_read.ensures.others in
    kept_by _ _ _ _ _ (ap (λ b. ram_states b.ram) others) (ap (λ b. b.recorded.calls) others) (λ n. refl)

pub returns-clause-images : goal.returns-clause-images
returns-clause-images g c = kept_by _ _ _ _ _ (ap ram_states c.get_file_handle.ensures.frame) refl (λ n. refl)
