use Rattle.tv_shared.proofs.racing.race_gated.Given as goal

abbrev pub ghosts-race_named : goal.ghosts-race_named
ghosts-race_named g a =
    let store = g.S.EventStore in
    record { start = store.holds a.store; faults = store.since a.store; sound = store.sound a.store }
