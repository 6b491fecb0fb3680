use Rattle.tv_replay.proofs.AppliedEvents.{some_left}
use Rattle.tv_replay.proofs.replaying.end_of.Goals as goal

pub returns-in-Ok-None-clause-end : goal.returns-in-Ok-None-clause-end
returns-in-Ok-None-clause-end g c = rw c.in-Ok-None.field-0-is at c.in-Ok-None.ensures.event

pub returns-in-Ok-Some-clause-faults : goal.returns-in-Ok-Some-clause-faults
returns-in-Ok-Some-clause-faults g c =
    let taken = rw c.in-Ok-Some.field-0-is at c.in-Ok-Some.ensures.event in
    record { quiet = tt; cause = (c.in-Ok-Some.ensures.faults.quiet, λ rest told. let t = taken rest told in some_left rest t.0 _ t.3) }
