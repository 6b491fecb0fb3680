use Rattle.tv_base.specs.declared.error.TantivyError.TheVariants as errors
use Rattle.tv_index.specs.NewForms.{form_with}
use Rattle.tv_index.proofs.OpenedSafely.{makes_behind, makes_read, makes_saved, makes_unsaved}
use Rattle.tv_index.proofs.Openings.{creates_none, failed_as, loads_none, no_bytes}
use Rattle.tv_index.proofs.opening.load_or_create.Goals as goal

pub returns-in_err-create-clause-err : goal.returns-in_err-create-clause-err
returns-in_err-create-clause-err g c =
    let loaded = c.in_ok-meta.ensures in
    let failed = c.in_err-create.ensures in
    creates_none g.D.Directory c.args.directory.now c.load.new.directory c.create.new.directory (form_with c.args.settings c.args.schema.now) c.from_residual-in_err-create.result c.in_err-create.field-0.0
    c.from_residual-in_err-create.ensures.1 (λ t. loads_none c.args.schema.now _ c.in_ok-meta.field-0 c.in_default.is (loaded.found t)) loaded.frame.below loaded.faults.quiet
    failed.others failed.leaves failed.faults.cause failed.frame

pub returns-in_err-meta-clause-safe : goal.returns-in_err-meta-clause-safe
returns-in_err-meta-clause-safe g c t = makes_read g.D.Directory _ _ c.from_residual.result c.in_err-meta.ensures.frame.names (c.in_err-meta.ensures.images t)

pub returns-in-Some-clause-safe : goal.returns-in-Some-clause-safe
returns-in-Some-clause-safe g c t = makes_read g.D.Directory _ _ _ c.in_ok-meta.ensures.frame.names (c.in_ok-meta.ensures.images t)

pub returns-in_err-meta-2-clause-safe : goal.returns-in_err-meta-2-clause-safe
returns-in_err-meta-2-clause-safe g c t = makes_read g.D.Directory _ _ c.from_residual-in_err-meta-2.result c.in_ok-meta.ensures.frame.names (c.in_ok-meta.ensures.images t)

pub returns-in_err-create-clause-safe : goal.returns-in_err-create-clause-safe
returns-in_err-create-clause-safe g c t =
    let loaded = c.in_ok-meta.ensures in
    let answer = c.from_residual-in_err-create in
    makes_behind g.D.Directory _ (Unit {0}) _ answer.result (λ u told. loads_none c.args.schema.now _ c.in_ok-meta.field-0 c.in_default.is (loaded.found told)) loaded.frame.names (loaded.images t)
    (makes_unsaved g.D.Directory _ (Unit {0}) tt c.in_err-create.field-0.0 answer.result answer.ensures.0 answer.ensures.1 (c.in_err-create.ensures.safe t))

pub returns-clause-safe : goal.returns-clause-safe
returns-clause-safe g c t =
    let loaded = c.in_ok-meta.ensures in
    makes_behind g.D.Directory _ (Unit {0}) _ _ (λ u told. loads_none c.args.schema.now _ c.in_ok-meta.field-0 c.in_default.is (loaded.found told)) loaded.frame.names (loaded.images t)
    (makes_saved g.D.Directory _ (Unit {0}) tt _ _ (c.in_ok-create.ensures.safe t))

pub returns-in_err-meta-clause-spares : goal.returns-in_err-meta-clause-spares
returns-in_err-meta-clause-spares g c t =
    failed_as c.from_residual.result c.in_err-meta.field-0.0 _ c.from_residual.ensures.1 (λ bytes. c.in_err-meta.ensures.images t)

pub returns-in_err-meta-2-clause-spares : goal.returns-in_err-meta-2-clause-spares
returns-in_err-meta-2-clause-spares g c t =
    failed_as c.from_residual-in_err-meta-2.result errors.Memory _ c.from_residual-in_err-meta-2.ensures.1 (λ bytes. absurd bytes)

pub returns-in_err-create-clause-spares : goal.returns-in_err-create-clause-spares
returns-in_err-create-clause-spares g c t =
    failed_as c.from_residual-in_err-create.result _ _ c.from_residual-in_err-create.ensures.1 (λ bytes. absurd (no_bytes c.in_err-create.field-0.0 bytes))
