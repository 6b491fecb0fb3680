use Rattle.tv_store.proofs.Locking.{out_openable, out_refused}
use Rattle.tv_store.proofs.opening.locked_out.Goals as goal

pub returns-in-Ok : goal.returns-in-Ok
returns-in-Ok g c =
    out_openable g.O.Directory c.args.outside c.args.schema.now c.in-Ok.directory c.from.result c.from.ensures c.in-Ok.ensures.openable c.in-Ok.ensures.safe

pub returns-in-Err : goal.returns-in-Err
returns-in-Err g c =
    let refused = c.in-Err.refused in
    out_refused g.O.Directory c.args.outside c.args.schema.now refused.directory refused.error c.in-Err.ensures.refused c.in-Err.ensures.safe
