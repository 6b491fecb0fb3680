use Rattle.std.proofs.Common.{ℕ, Ok, Err, refl, subst}
use Rattle.std.specs.Prelude.{IsSome}
use Rattle.std.proofs.lemmas.Result.{err_from_is_err_and}
use Rattle.tv_base.specs.declared.error.TantivyError.TheVariants as errors
use Rattle.tv_device.specs.View.{OnlyReads}
use Rattle.tv_formats.specs.Files.{Rose}
use Rattle.tv_machine.specs.Machine.{catalog_step}
use Rattle.tv_store.specs.Acting.{Acts}
use Rattle.tv_store.specs.Applying.{AsksNoFile}
use Rattle.tv_store.proofs.AppliedSafely.{failed_survives, io_isnt_memory, told_survives, untold_survives}
use Rattle.tv_store.specs.Durable.{ActsSafely, IsDurable, store_files}
use Rattle.tv_store.specs.Kept.{IsHeld}
use Rattle.tv_store.proofs.Applied.{closed, frame_failed, frame_tried, grows_failed, faults_failed, grows_told, tells_untold, grows_untold, undisturbed, leaves_untold, step_told}
use Rattle.tv_store.proofs.index_store.IndexStore.apply.Goals as goal

pub returns-in_err-answer-clause-grows : goal.returns-in_err-answer-clause-grows
returns-in_err-answer-clause-grows g c =
    let e = err_from_is_err_and c.from_residual.result c.from_residual.ensures.1 in
    rw (e.1, e.2) (grows_failed g.O.Directory c.args.self.now c.act.new.self c.args.event.now c.in_err-answer.field-0.0
    (subst (λ v. Acts g.O.Directory (closed v) c.act.new.self c.args.event.now (Err c.in_err-answer.field-0.0)) c.self.view_is c.in_err-answer.ensures.acts))

pub returns-in_err-answer-clause-faults : goal.returns-in_err-answer-clause-faults
returns-in_err-answer-clause-faults g c =
    let e = err_from_is_err_and c.from_residual.result c.from_residual.ensures.1 in
    rw (e.1, e.2) (faults_failed g.O.Directory c.args.self.now c.act.new.self c.args.event.now c.in_err-answer.field-0.0
    (subst (λ v. Acts g.O.Directory (closed v) c.act.new.self c.args.event.now (Err c.in_err-answer.field-0.0)) c.self.view_is c.in_err-answer.ensures.acts))

pub returns-in_err-tell-clause-tells : goal.returns-in_err-tell-clause-tells
returns-in_err-tell-clause-tells g c =
    let acted = subst (λ v. Acts g.O.Directory (closed v) c.act.new.self c.args.event.now (Ok c.in_ok-answer.answer)) c.self.view_is c.in_ok-answer.ensures.acts in
    let did = c.in_err-tell.ensures in
    let e = err_from_is_err_and c.from_residual-in_err-tell.result c.from_residual-in_err-tell.ensures.1 in
    rw (e.1, e.2) (tells_untold g.O.Directory c.args.self.now c.act.new.self c.tell.new.self c.args.event.now c.in_ok-answer.answer acted did.kept did.frame c.in_err-tell.field-0.0 (errors.IoError c.in_err-tell.field-0.0) did.tells)

pub returns-in_err-tell-clause-grows : goal.returns-in_err-tell-clause-grows
returns-in_err-tell-clause-grows g c =
    let acted = subst (λ v. Acts g.O.Directory (closed v) c.act.new.self c.args.event.now (Ok c.in_ok-answer.answer)) c.self.view_is c.in_ok-answer.ensures.acts in
    let did = c.in_err-tell.ensures in
    let e = err_from_is_err_and c.from_residual-in_err-tell.result c.from_residual-in_err-tell.ensures.1 in
    rw (e.1, e.2) (grows_untold g.O.Directory c.args.self.now c.act.new.self c.tell.new.self c.args.event.now c.in_ok-answer.answer acted did.kept did.frame c.in_err-tell.field-0.0 (errors.IoError c.in_err-tell.field-0.0) did.tells)

pub returns-clause-grows : goal.returns-clause-grows
returns-clause-grows g c =
    let acted = subst (λ v. Acts g.O.Directory (closed v) c.act.new.self c.args.event.now (Ok c.in_ok-answer.answer)) c.self.view_is c.in_ok-answer.ensures.acts in
    let did = c.in_ok-tell.ensures in
    grows_told g.O.Directory c.args.self.now c.act.new.self c.tell.new.self c.args.event.now c.in_ok-answer.answer acted did.kept did.frame

pub returns-in_err-answer-clause-complete : goal.returns-in_err-answer-clause-complete
returns-in_err-answer-clause-complete g c u =
    let acted = subst (λ v. Acts g.O.Directory (closed v) c.act.new.self c.args.event.now (Err c.in_err-answer.field-0.0)) c.self.view_is c.in_err-answer.ensures.acts in
    let e = err_from_is_err_and c.from_residual.result c.from_residual.ensures.1 in
    rw (e.1, e.2) (undisturbed g.O.Directory c.args.self.now c.act.new.self c.args.event.now u c.in_err-answer.field-0.0 acted.faults.cause)

pub returns-in_err-tell-clause-complete : goal.returns-in_err-tell-clause-complete
returns-in_err-tell-clause-complete g c u =
    let acted = subst (λ v. Acts g.O.Directory (closed v) c.act.new.self c.args.event.now (Ok c.in_ok-answer.answer)) c.self.view_is c.in_ok-answer.ensures.acts in
    absurd (u.quiet (subst (λ (n : ℕ). Rose n (g.O.Directory.view c.tell.new.self.outside).faults) acted.faults.quiet c.in_err-tell.ensures.faults.cause.1))

pub returns-in_err-tell-clause-leaves : goal.returns-in_err-tell-clause-leaves
returns-in_err-tell-clause-leaves g c =
    let acted = subst (λ v. Acts g.O.Directory (closed v) c.act.new.self c.args.event.now (Ok c.in_ok-answer.answer)) c.self.view_is c.in_ok-answer.ensures.acts in
    let did = c.in_err-tell.ensures in
    let e = err_from_is_err_and c.from_residual-in_err-tell.result c.from_residual-in_err-tell.ensures.1 in
    rw (e.1, e.2) (leaves_untold g.O.Directory c.args.self.now c.act.new.self c.tell.new.self c.args.event.now c.in_ok-answer.answer acted did.kept did.frame c.in_err-tell.field-0.0 did.tells did.faults.cause.1)

pub returns-clause-step : goal.returns-clause-step
returns-clause-step g c =
    let acted = subst (λ v. Acts g.O.Directory (closed v) c.act.new.self c.args.event.now (Ok c.in_ok-answer.answer)) c.self.view_is c.in_ok-answer.ensures.acts in
    let did = c.in_ok-tell.ensures in
    step_told g.O.Directory c.args.self.now c.act.new.self c.tell.new.self c.args.event.now c.in_ok-answer.answer acted did.kept did.frame

pub returns-in_err-answer-clause-frame : goal.returns-in_err-answer-clause-frame
returns-in_err-answer-clause-frame g c =
    let D = g.O.Directory in
    let event = c.args.event.now in
    let acted = subst (λ v. Acts D (closed v) c.act.new.self event (Err c.in_err-answer.field-0.0)) c.self.view_is c.in_err-answer.ensures.acts in
    let alone = subst (λ v. IsSome (catalog_step v.kept.catalog v.kept.managed event) → AsksNoFile (OnlyReads D.told) D (closed v) c.act.new.self (Err c.in_err-answer.field-0.0)) c.self.view_is c.in_err-answer.ensures.alone in
    let e = err_from_is_err_and c.from_residual.result c.from_residual.ensures.1 in
    rw (e.1, e.2) (frame_failed D c.args.self.now c.act.new.self event (Err c.in_err-answer.field-0.0) acted alone c.in_err-answer.field-0.0 refl)

pub returns-in_err-tell-clause-frame : goal.returns-in_err-tell-clause-frame
returns-in_err-tell-clause-frame g c =
    let D = g.O.Directory in
    let event = c.args.event.now in
    let acted = subst (λ v. Acts D (closed v) c.act.new.self event (Ok c.in_ok-answer.answer)) c.self.view_is c.in_ok-answer.ensures.acts in
    let alone = subst (λ v. IsSome (catalog_step v.kept.catalog v.kept.managed event) → AsksNoFile (OnlyReads D.told) D (closed v) c.act.new.self (Ok c.in_ok-answer.answer)) c.self.view_is c.in_ok-answer.ensures.alone in
    let did = c.in_err-tell.ensures in
    let e = err_from_is_err_and c.from_residual-in_err-tell.result c.from_residual-in_err-tell.ensures.1 in
    rw (e.1, e.2) (frame_tried D c.args.self.now c.act.new.self event (Ok c.in_ok-answer.answer) acted alone c.tell.new.self (Err (errors.IoError c.in_err-tell.field-0.0)) did.kept did.open did.frame (λ never. never))

pub returns-clause-frame : goal.returns-clause-frame
returns-clause-frame g c =
    let D = g.O.Directory in
    let event = c.args.event.now in
    let acted = subst (λ v. Acts D (closed v) c.act.new.self event (Ok c.in_ok-answer.answer)) c.self.view_is c.in_ok-answer.ensures.acts in
    let alone = subst (λ v. IsSome (catalog_step v.kept.catalog v.kept.managed event) → AsksNoFile (OnlyReads D.told) D (closed v) c.act.new.self (Ok c.in_ok-answer.answer)) c.self.view_is c.in_ok-answer.ensures.alone in
    let did = c.in_ok-tell.ensures in
    frame_tried D c.args.self.now c.act.new.self event (Ok c.in_ok-answer.answer) acted alone c.tell.new.self (Ok c.in_ok-answer.answer) did.kept did.open did.frame tt

pub returns-in_err-answer-clause-survives : goal.returns-in_err-answer-clause-survives
returns-in_err-answer-clause-survives g c tells heard s h whole durable =
    let D = g.O.Directory in
    let event = c.args.event.now in
    let acted = subst (λ v. Acts D (closed v) c.act.new.self event (Err c.in_err-answer.field-0.0)) c.self.view_is c.in_err-answer.ensures.acts in
    let safe = subst (λ v. IsHeld D v s → IsDurable D (store_files v) s → ActsSafely D (closed v) c.act.new.self event s (Err c.in_err-answer.field-0.0)) c.self.view_is (λ held d. c.in_err-answer.ensures.images tells s held whole d) h durable in
    let e = err_from_is_err_and c.from_residual.result c.from_residual.ensures.1 in
    rw (e.1, e.2) (failed_survives D c.args.self.now c.act.new.self event s c.in_err-answer.field-0.0 acted safe)

pub returns-in_err-tell-clause-survives : goal.returns-in_err-tell-clause-survives
returns-in_err-tell-clause-survives g c tells heard s h whole durable =
    let D = g.O.Directory in
    let event = c.args.event.now in
    let did = c.in_err-tell.ensures in
    let acted = subst (λ v. Acts D (closed v) c.act.new.self event (Ok c.in_ok-answer.answer)) c.self.view_is c.in_ok-answer.ensures.acts in
    let safe = subst (λ v. IsHeld D v s → IsDurable D (store_files v) s → ActsSafely D (closed v) c.act.new.self event s (Ok c.in_ok-answer.answer)) c.self.view_is (λ held d. c.in_ok-answer.ensures.images tells s held whole d) h durable in
    let fault = c.in_err-tell.field-0.0 in
    let e = err_from_is_err_and c.from_residual-in_err-tell.result c.from_residual-in_err-tell.ensures.1 in
    rw (e.1, e.2)
    (untold_survives D c.args.self.now c.act.new.self event s c.tell.new.self c.in_ok-answer.answer acted safe did.kept did.frame (did.images tells) fault (errors.IoError fault) (io_isnt_memory fault) did.tells heard)

pub returns-clause-survives : goal.returns-clause-survives
returns-clause-survives g c tells heard s h whole durable =
    let D = g.O.Directory in
    let event = c.args.event.now in
    let did = c.in_ok-tell.ensures in
    let acted = subst (λ v. Acts D (closed v) c.act.new.self event (Ok c.in_ok-answer.answer)) c.self.view_is c.in_ok-answer.ensures.acts in
    let safe = subst (λ v. IsHeld D v s → IsDurable D (store_files v) s → ActsSafely D (closed v) c.act.new.self event s (Ok c.in_ok-answer.answer)) c.self.view_is (λ held d. c.in_ok-answer.ensures.images tells s held whole d) h durable in
    told_survives D c.args.self.now c.act.new.self event s c.tell.new.self c.in_ok-answer.answer acted safe did.kept did.frame (did.images tells) tt did.tells
    (g.met.O.Directory.stands c.act.new.self.outside tells) (g.met.O.Directory.stands c.tell.new.self.outside tells) (g.met.O.Directory.tells_more tells) heard
