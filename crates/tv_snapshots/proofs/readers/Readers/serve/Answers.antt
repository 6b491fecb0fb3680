use Rattle.std.proofs.Common.{sym, subst}
use Rattle.tv_machine.specs.Living.{HasOneLock}
use Rattle.tv_machine.specs.ReloadEvents.{served}
use Rattle.tv_snapshots.proofs.Reloading.{one_mapped, served_stays}
use Rattle.tv_snapshots.proofs.readers.Readers.serve.Goals as goal

pub invariant_of-self : goal.invariant_of-self
invariant_of-self c =
    let shown = c.args.shown.now in
    subst HasOneLock (sym c.in_ok-self-inside.ensures) (one_mapped c.self.inside.readers.entries (served shown.commit shown.bodies) (served_stays shown.commit shown.bodies) c.self.invariant)
