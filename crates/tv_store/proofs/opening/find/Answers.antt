use Rattle.std.proofs.Common.{Err, subst}
use Rattle.tv_device.specs.Calls.{Frees}
use Rattle.tv_formats.proofs.Results.{handed_on}
use Rattle.tv_store.specs.Opening.{OpensOrRefuses}
use Rattle.tv_store.specs.Surviving.{SurvivesOpening}
use Rattle.tv_store.proofs.OpenedSafely.{survives_refused, survives_undone}
use Rattle.tv_store.proofs.Unfound.{given_back, unspelled}
use Rattle.tv_store.proofs.opening.find.Goals as goal

pub returns-in-Err-clause-refused : goal.returns-in-Err-clause-refused
returns-in-Err-clause-refused g c = unspelled g.O.Directory c.args.outside c.args.schema.now c.in-Err.error c.in-Err.ensures.err

pub returns-in_err-outside-clause-refused : goal.returns-in_err-outside-clause-refused
returns-in_err-outside-clause-refused g c =
    handed_on c.from_residual.result c.in_err-outside.field-0.0 (λ refused. OpensOrRefuses g.O.Directory c.args.outside c.args.schema.now (Err refused)) c.from_residual.ensures.1
    (c.in_err-outside.ensures.refused c.args.schema.now c.in-Ok.ensures.ok)

pub returns-clause-refused : goal.returns-clause-refused
returns-clause-refused g c =
    let D = g.O.Directory in
    let found = c.in-Err-find_files.field-0.directory in
    given_back D c.args.outside c.args.schema.now c.in_ok-outside.outside found c.release.new.self c.in-Ok.schema c.in-Err-find_files.field-0.error c.in-Ok.ensures.ok c.in_ok-outside.ensures.locked c.in-Err-find_files.ensures.none
    (subst (λ n. Frees D.told n (D.view found) (D.view c.release.new.self)) c.in_ok-outside.ensures.name c.release.ensures.frees) c.release.ensures.images

pub returns-in-Err-clause-survives : goal.returns-in-Err-clause-survives
returns-in-Err-clause-survives g c =
    let D = g.O.Directory in
    survives_undone D (λ tells. g.met.O.Directory.tells_more tells) (λ d tells. g.met.O.Directory.stands d tells) c.args.outside c.args.schema.now c.in-Err.error

pub returns-in_err-outside-clause-survives : goal.returns-in_err-outside-clause-survives
returns-in_err-outside-clause-survives g c =
    let D = g.O.Directory in
    let refused = c.in_err-outside.field-0.0 in
    handed_on c.from_residual.result refused (λ r. SurvivesOpening D c.args.outside c.args.schema.now (Err r)) c.from_residual.ensures.1
    (survives_refused D (λ tells. g.met.O.Directory.tells_more tells) (λ d tells. g.met.O.Directory.stands d tells) c.args.outside c.args.schema.now refused c.in-Ok.schema c.in-Ok.ensures.ok
    (c.in_err-outside.ensures.refused c.args.schema.now c.in-Ok.ensures.ok))

pub returns-clause-survives : goal.returns-clause-survives
returns-clause-survives g c =
    let D = g.O.Directory in
    let found = c.in-Err-find_files.field-0.directory in
    let error = c.in-Err-find_files.field-0.error in
    let now = c.release.new.self in
    survives_refused D (λ tells. g.met.O.Directory.tells_more tells) (λ d tells. g.met.O.Directory.stands d tells) c.args.outside c.args.schema.now (record { error = error; directory = now }) c.in-Ok.schema c.in-Ok.ensures.ok
    (given_back D c.args.outside c.args.schema.now c.in_ok-outside.outside found now c.in-Ok.schema error c.in-Ok.ensures.ok c.in_ok-outside.ensures.locked c.in-Err-find_files.ensures.none
    (subst (λ n. Frees D.told n (D.view found) (D.view now)) c.in_ok-outside.ensures.name c.release.ensures.frees) c.release.ensures.images)
