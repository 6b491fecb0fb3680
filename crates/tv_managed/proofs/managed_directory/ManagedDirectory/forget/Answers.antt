use Rattle.tv_managed.proofs.Removals.{texts_left}
use Rattle.tv_managed.proofs.managed_directory.ManagedDirectory.forget.Goals as goal

pub invariant_of-self : goal.invariant_of-self
invariant_of-self g c = texts_left c.self.inside.managed.keys _ c.args.name.now c.remove.ensures.keys c.self.invariant
