use Rattle.std.proofs.Common.{inr}
use Rattle.tv_managed.proofs.Endings.{numbered}
use Rattle.tv_managed.proofs.reading.footer_of.Goals as goal

pub returns-in-Err-Fault-clause-outside : goal.returns-in-Err-Fault-clause-outside
returns-in-Err-Fault-clause-outside c =
    let out = rw c.in-Err-Fault.field-0-is at c.in-Err-Fault.ensures.outside in
    inr (numbered c.args.file out)
