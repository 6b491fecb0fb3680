use Rattle.std.proofs.Common.{ap, ◌∙◌}
use Rattle.tv_replay.specs.ErrorLines.{error_line}
use Rattle.tv_replay.proofs.Runs.{says_this}
use Rattle.tv_replay.proofs.saying.say_error.Goals as goal

pub returns-in-Ok : goal.returns-in-Ok
returns-in-Ok g c =
    let says = says_this (c.as_slice.ensures.value ∙ c.in-Ok.ensures) c.say_line.ensures.says in
    let status = c.status_of.ensures in
    record { lent = says.frame.lent; other = λ one. (status.other one, says); memory = λ three. says_this (ap error_line (status.memory three)) says; statuses = status.statuses }
