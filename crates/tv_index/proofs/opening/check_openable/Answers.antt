use Rattle.std.proofs.Common.{sym, subst}
use Rattle.tv_index.specs.CrashLaws.{looks_kept}
use Rattle.tv_index.specs.Crashes.{OnlyLooks}
use Rattle.tv_index.specs.Openable.{FindsOpenable, NotOpenable}
use Rattle.tv_index.proofs.OpenedSafely.{failed_match, looks_further}
use Rattle.tv_index.proofs.Openables.{openable, unlisted, unloaded}
use Rattle.tv_index.proofs.Openings.{failed_as}
use Rattle.tv_index.proofs.opening.check_openable.Goals as goal

pub returns-in_err-directory-clause-refused : goal.returns-in_err-directory-clause-refused
returns-in_err-directory-clause-refused g c =
    let refused = c.in_err-directory.field-0.0 in
    failed_as c.from_residual.result refused (λ r. NotOpenable g.D.Directory c.args.directory c.args.schema.now r.directory r.error) c.from_residual.ensures.1
    (unlisted g.D.Directory c.args.directory c.args.schema.now refused.directory refused.error c.in_err-directory.ensures.refused)

pub returns-in_err-directory-clause-safe : goal.returns-in_err-directory-clause-safe
returns-in_err-directory-clause-safe g c t =
    failed_match c.from_residual.result c.in_err-directory.field-0.0 _ _ c.from_residual.ensures.1 (looks_kept g.D.Directory (c.in_err-directory.ensures.images t))

pub returns-in-Ok-clause-openable : goal.returns-in-Ok-clause-openable
returns-in-Ok-clause-openable g c =
    let wrapped = c.in_ok-directory.ensures.wraps in
    let loaded = c.in-Ok.ensures in
    subst (λ d. FindsOpenable g.D.Directory c.args.directory c.args.schema.now d) (sym c.into_directory.ensures)
    (openable g.D.Directory c.args.directory c.args.schema.now c.in_ok-directory.directory c.load.new.directory wrapped loaded.frame.below c.in-Ok.field-0 loaded.found loaded.faults.quiet)

pub returns-in-Ok-clause-safe : goal.returns-in-Ok-clause-safe
returns-in-Ok-clause-safe g c t =
    subst (λ d. OnlyLooks g.D.Directory c.args.directory d) (sym c.into_directory.ensures)
    (looks_further g.D.Directory (looks_kept g.D.Directory (c.in_ok-directory.ensures.tracks t).keeps) (c.in-Ok.ensures.images t))

pub returns-clause-refused : goal.returns-clause-refused
returns-clause-refused g c =
    let wrapped = c.in_ok-directory.ensures.wraps in
    let failed = c.in-Err.ensures in
    subst (λ d. NotOpenable g.D.Directory c.args.directory c.args.schema.now d c.in-Err.error) (sym c.into_directory-in-Err.ensures)
    (unloaded g.D.Directory c.args.directory c.args.schema.now c.in_ok-directory.directory c.load.new.directory wrapped failed.frame.below c.in-Err.error failed.faults.cause)

pub returns-clause-safe : goal.returns-clause-safe
returns-clause-safe g c t =
    subst (λ d. OnlyLooks g.D.Directory c.args.directory d) (sym c.into_directory-in-Err.ensures)
    (looks_further g.D.Directory (looks_kept g.D.Directory (c.in_ok-directory.ensures.tracks t).keeps) (c.in-Err.ensures.images t))
