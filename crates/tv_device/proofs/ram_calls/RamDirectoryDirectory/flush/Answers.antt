use Rattle.tv_device.proofs.ram_calls.RamDirectoryDirectory.flush.Goals as goal

pub returns-clause-states : goal.returns-clause-states
returns-clause-states g c lives =
    let (name, bytes, state) = c.in_ok-name.ensures in
    record { ok = rw (name, state) at c.in_ok-replace.ensures.state; err = tt }
