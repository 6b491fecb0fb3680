use Rattle.std.proofs.Common.{rules}
use Rattle.tv_device.proofs.LockNames.{takes}
use Rattle.tv_device.proofs.ram_directory.RamDirectory.hold.Goals as goal

pub returns-clause-free : goal.returns-clause-free
returns-clause-free g c =
    (search rules, rw (← c.in_ok-key.ensures) (takes c.args.self.now.held.entries c.insert.new.self.entries c.in_ok-key.key tt (search rules) c.in_ok-insert.ensures.updates.1 c.in_ok-insert.ensures.updates.2))
