use Rattle.std.proofs.lemmas.Result.{IfOk-weaker, IfErr-weaker}
use Rattle.tv_index.specs.CrashLaws.{looks_settled}
use Rattle.tv_index.proofs.OpenedSafely.{looks_wrapped}
use Rattle.tv_index.proofs.Openings.{not_wrapped_later, wraps_later}
use Rattle.tv_index.proofs.opening.settled.Goals as goal

pub returns-in-Ok : goal.returns-in-Ok
returns-in-Ok g c =
    let synced = c.in-Ok.ensures in
    record {
      wraps = IfOk-weaker c.wrap.result _ _ (λ wrapped h. wraps_later g.D.Directory c.args.directory c.sync_directory.new.self synced.frame synced.faults.quiet wrapped h) c.wrap.ensures.wraps;
      safe = λ t. looks_wrapped g.D.Directory {mid = c.sync_directory.new.self} (λ refused. refused.directory) c.in-Ok.field-0 (synced.images t) c.wrap.result (c.wrap.ensures.tracks t) (c.wrap.ensures.images t);
      refused = IfErr-weaker c.wrap.result _ _ (λ refused h. not_wrapped_later g.D.Directory c.args.directory c.sync_directory.new.self synced.frame synced.faults.quiet refused.directory refused.error h) c.wrap.ensures.refused;
    }

pub returns-in-Err-clause-safe : goal.returns-in-Err-clause-safe
returns-in-Err-clause-safe g c t = looks_settled g.D.Directory (c.in-Err.ensures.images t)
