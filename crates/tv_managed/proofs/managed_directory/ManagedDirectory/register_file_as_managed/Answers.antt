use Rattle.std.proofs.Common.{refl}
use Rattle.tv_managed.proofs.Listing.{lists_same}
use Rattle.tv_managed.proofs.managed_directory.ManagedDirectory.register_file_as_managed.Goals as goal

pub returns-then-not-is_managed-clause-images : goal.returns-then-not-is_managed-clause-images
returns-then-not-is_managed-clause-images g c = λ tells. lists_same g.D.Directory c.args.name.now {old = c.args.self.now} {new = c.args.self.now} refl refl
