use Rattle.std.proofs.Common.{◌∙◌, subst, sym}
use Rattle.tv_formats.specs.Names.{meta_name}
use Rattle.tv_index.specs.Crashes.{LacksMeta, MakesNone, OnlyLooks}
use Rattle.tv_index.specs.NewForms.{form_with, new_text}
use Rattle.tv_index.proofs.OpenedSafely.{failed_match, looks_further, made_none, made_opened, made_refused}
use Rattle.tv_index.proofs.Openings.{failed_as, not_loaded, wrap_fails}
use Rattle.tv_index.proofs.opening.open_or_create_with.Goals as goal

pub returns-in_err-directory-clause-refused : goal.returns-in_err-directory-clause-refused
returns-in_err-directory-clause-refused g c =
    wrap_fails g.D.Directory c.args.directory (form_with c.args.settings c.args.schema.now) c.from_residual.result c.in_err-directory.field-0.0
    c.from_residual.ensures.1 c.in_err-directory.ensures.refused

pub returns-in-Err-clause-refused : goal.returns-in-Err-clause-refused
returns-in-Err-clause-refused g c =
    not_loaded g.D.Directory c.args.directory (form_with c.args.settings c.args.schema.now) c.in_ok-directory.directory c.in_ok-directory.ensures.wraps
    c.load_or_create.new.directory.0 c.into_directory.result c.in-Err.error c.into_directory.ensures c.in-Err.ensures.err

pub returns-in_err-directory-clause-safe : goal.returns-in_err-directory-clause-safe
returns-in_err-directory-clause-safe g c t =
    failed_match c.from_residual.result c.in_err-directory.field-0.0 _ _ c.from_residual.ensures.1 (made_none g.D.Directory _ _ _ (c.in_err-directory.ensures.safe t))

pub returns-in-Ok-clause-safe : goal.returns-in-Ok-clause-safe
returns-in-Ok-clause-safe g c t =
    let settled = c.in_ok-directory.ensures in
    made_opened g.D.Directory _ (LacksMeta g.D.Directory c.in_ok-directory.directory.0) _ (λ absent told. sym (settled.wraps.frame.content told meta_name) ∙ absent told) (settled.safe t).0 (settled.safe t).1 _ (c.in-Ok.ensures.safe t)

pub returns-in-Err-clause-safe : goal.returns-in-Err-clause-safe
returns-in-Err-clause-safe g c t =
    let settled = c.in_ok-directory.ensures in
    subst (λ directory. MakesNone g.D.Directory (LacksMeta g.D.Directory c.args.directory) (new_text (form_with c.args.settings c.args.schema.now)) c.args.directory directory c.in-Err.error) (sym c.into_directory.ensures)
    (made_refused g.D.Directory _ (LacksMeta g.D.Directory c.in_ok-directory.directory.0) _ (λ absent told. sym (settled.wraps.frame.content told meta_name) ∙ absent told) (settled.safe t).0 (settled.safe t).1 c.in-Err.error (c.in-Err.ensures.safe t))

pub returns-in_err-directory-clause-spares : goal.returns-in_err-directory-clause-spares
returns-in_err-directory-clause-spares g c t =
    failed_as c.from_residual.result c.in_err-directory.field-0.0 _ c.from_residual.ensures.1 (λ bytes. c.in_err-directory.ensures.safe t)

pub returns-in-Err-clause-spares : goal.returns-in-Err-clause-spares
returns-in-Err-clause-spares g c t bytes =
    subst (λ directory. OnlyLooks g.D.Directory c.args.directory directory) (sym c.into_directory.ensures)
    (looks_further g.D.Directory (c.in_ok-directory.ensures.safe t).0 (c.in-Err.ensures.spares t bytes))
