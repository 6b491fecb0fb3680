use Rattle.std.proofs.Common.{subst, ◌∙◌}
use Rattle.tv_device.specs.Calls.{Frees}
use Rattle.tv_store.proofs.FreedLocks.{frees_one}
use Rattle.tv_store.proofs.Opened.{opened, refused_with, unbegun}
use Rattle.tv_store.proofs.OpenedSafely.{survives_begun, survives_refused, survives_with}
use Rattle.tv_store.proofs.index_store.open_index.Goals as goal

pub returns-in_err-opening : goal.returns-in_err-opening
returns-in_err-opening g c =
    let D = g.O.Directory in
    let refused = c.in_err-opening.field-0.0 in
    record {
      opens = refused_with D c.args.outside c.args.schema.now c.from_residual.result refused c.from_residual.ensures.1 c.in_err-opening.ensures.refused;
      survives =
          survives_with D (λ tells. g.met.O.Directory.tells_more tells) (λ d tells. g.met.O.Directory.stands d tells) c.args.outside c.args.schema.now c.from_residual.result refused
          c.from_residual.ensures.1 c.in_err-opening.ensures.survives;
    }

pub returns-in-Ok : goal.returns-in-Ok
returns-in-Ok g c =
    let D = g.O.Directory in
    let found = c.in_ok-opening.field-0 in
    record {
      opens = opened D c.args.outside c.args.schema.now found.opening found.files c.in_ok-opening.ensures.found c.in-Ok.catalog c.in-Ok.ensures.catalog c.begin.new.files c.in-Ok.ensures.opens;
      survives =
          survives_begun D (λ tells. g.met.O.Directory.tells_more tells) (λ d tells. g.met.O.Directory.stands d tells) c.args.outside c.args.schema.now found.opening found.files
          c.in_ok-opening.ensures.found c.in-Ok.catalog c.in-Ok.ensures.catalog c.begin.new.files c.in-Ok.ensures.opens;
    }

pub returns-in-Err : goal.returns-in-Err
returns-in-Err g c =
    let D = g.O.Directory in
    let found = c.in_ok-opening.field-0 in
    let refusal =
    unbegun D c.args.outside c.args.schema.now found.opening found.files c.in_ok-opening.ensures.found c.begin.new.files c.in-Err.error c.in-Err.ensures.opens c.close.result
    (subst (λ n. Frees D.told n (D.view c.begin.new.files.outside) (D.view c.close.result)) c.in_ok-opening.ensures.lock
    (frees_one D.told found.lock c.begin.new.files.locked (D.view c.begin.new.files.outside) (D.view c.close.result) (c.in-Err.ensures.opens.frame.managed.locked ∙ c.in_ok-opening.ensures.found.found.unlocked) c.close.ensures.frees)) c.close.ensures.images in
    record {
      opens = refusal;
      survives =
          survives_refused D (λ tells. g.met.O.Directory.tells_more tells) (λ d tells. g.met.O.Directory.stands d tells) c.args.outside c.args.schema.now
          (record { error = c.in-Err.error; directory = c.close.result }) found.files.form.schema c.in_ok-opening.ensures.found.spelled refusal;
    }
