use Rattle.tv_device.proofs.LockNames.{frees}
use Rattle.tv_device.proofs.ram_calls.RamDirectoryDirectory.release.Goals as goal

pub returns-clause-freed : goal.returns-clause-freed
returns-clause-freed g c =
    rw (← c.into_name.ensures) (frees c.args.self.now.held.entries c.remove-2.new.self.entries c.into_name.result c.remove-2.ensures.updates.1 c.remove-2.ensures.updates.2)
