use Rattle.std.proofs.Common.{subst}
use Rattle.tv_formats.specs.Collections.{Rises}
use Rattle.tv_machine.specs.State.{Readers}
use Rattle.tv_snapshots.proofs.Reloading.{rises_of}
use Rattle.tv_snapshots.proofs.readers.Readers.in_order.Goals as goal

pub returns-clause-order : goal.returns-clause-order
returns-clause-order c = subst (λ (v : Readers). Rises v.readers) c.self.view_is (rises_of c.self.inside.readers.entries c.len-count.ensures.ordered)
