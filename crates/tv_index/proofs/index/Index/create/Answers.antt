use Rattle.std.proofs.Common.{Err, refl, subst, sym}
use Rattle.tv_index.specs.Crashes.{MakesNone}
use Rattle.tv_index.specs.Indexes.{NotCreated}
use Rattle.tv_index.specs.NewForms.{form_with, new_text}
use Rattle.tv_index.proofs.Created.{creates, not_created, not_listed}
use Rattle.tv_index.proofs.OpenedSafely.{failed_match, made_none, made_opened, made_refused, makes_saved, makes_unsaved}
use Rattle.tv_index.proofs.Openings.{failed_as}
use Rattle.tv_index.proofs.index.Index.create.Goals as goal

pub returns-in_err-directory-clause-refused : goal.returns-in_err-directory-clause-refused
returns-in_err-directory-clause-refused g c =
    let refused = c.in_err-directory.field-0.0 in
    failed_as c.from_residual.result refused (λ r. NotCreated g.D.Directory c.args.directory (form_with c.args.settings c.args.schema) r.directory r.error) c.from_residual.ensures.1
    (not_listed g.D.Directory c.args.directory (form_with c.args.settings c.args.schema) refused.directory refused.error c.in_err-directory.ensures.refused)

pub returns-in-Ok-clause-created : goal.returns-in-Ok-clause-created
returns-in-Ok-clause-created g c =
    let made = c.in-Ok.ensures in
    rw c.from_parts.ensures (creates g.D.Directory c.args.directory c.in_ok-directory.directory c.create.new.directory c.in_ok-directory.ensures.wraps made.others c.args.settings c.args.schema _ made.saves made.faults.quiet made.frame)

pub returns-in-Err-clause-refused : goal.returns-in-Err-clause-refused
returns-in-Err-clause-refused g c =
    let failed = c.in-Err.ensures in
    let form = form_with c.args.settings c.args.schema in
    subst (λ directory. NotCreated g.D.Directory c.args.directory form directory c.from.result) (sym c.into_directory.ensures)
    (subst (λ error. NotCreated g.D.Directory c.args.directory form c.create.new.directory.0 error) (sym c.from.ensures)
    (not_created g.D.Directory c.args.directory c.in_ok-directory.directory c.create.new.directory c.in_ok-directory.ensures.wraps failed.others form c.in-Err.error failed.leaves failed.faults.cause failed.frame))

pub returns-in_err-directory-clause-safe : goal.returns-in_err-directory-clause-safe
returns-in_err-directory-clause-safe g c t =
    failed_match c.from_residual.result c.in_err-directory.field-0.0 _ _ c.from_residual.ensures.1 (made_none g.D.Directory _ _ _ (c.in_err-directory.ensures.safe t))

pub returns-in-Ok-clause-safe : goal.returns-in-Ok-clause-safe
returns-in-Ok-clause-safe g c t =
    let safe = c.in_ok-directory.ensures.safe t in
    rw c.from_parts.ensures (made_opened g.D.Directory _ {A = Unit {0}} (Unit {0}) (Unit {0}) (λ u. u) safe.0 safe.1 tt (makes_saved g.D.Directory _ (Unit {0}) tt {A = Unit {0}} tt _ (c.in-Ok.ensures.safe t)))

pub returns-in-Err-clause-safe : goal.returns-in-Err-clause-safe
returns-in-Err-clause-safe g c t =
    let safe = c.in_ok-directory.ensures.safe t in
    subst (λ directory. MakesNone g.D.Directory (Unit {0}) (new_text (form_with c.args.settings c.args.schema)) c.args.directory directory c.from.result) (sym c.into_directory.ensures)
    (made_refused g.D.Directory _ {A = Unit {0}} (Unit {0}) (Unit {0}) (λ u. u) safe.0 safe.1 c.from.result (makes_unsaved g.D.Directory _ (Unit {0}) tt {A = Unit {0}} c.in-Err.error (Err c.from.result) refl c.from.ensures (c.in-Err.ensures.safe t)))
