use Rattle.std.proofs.Common.{ap}
use Rattle.tv_device.specs.Ram.{ram_states}
use Rattle.tv_directory.proofs.Recorded.{refused_by}
use Rattle.tv_directory.proofs.bench.Bench.record_refused.Goals as goal

pub returns-clause-images : goal.returns-clause-images
returns-clause-images g c =
    let (name, before) = c.in_ok-name.ensures.found in
    refused_by _ _ _ _ _ c.in_ok-name.before _ (ap (λ b. ram_states b.ram) c.before-2.ensures.others) before (rw (c.before-2.ensures.calls, name) at c.add.ensures.calls)
