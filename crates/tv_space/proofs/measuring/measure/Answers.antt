use Rattle.std.proofs.Common.{sym}
use Rattle.tv_managed.specs.TrackLaws.{keeps_then}
use Rattle.tv_space.proofs.Earlier.{measure_faults, measures}
use Rattle.tv_space.proofs.measuring.measure.Goals as goal

pub returns-clause-report : goal.returns-clause-report
returns-clause-report g c t =
    let D = g.D.Directory in
    let wrapped = c.in-Ok.ensures.wraps in
    let report = rw c.from_parts-index.ensures at c.space_report-outcome.ensures.report in
    measures D c.args.directory c.in-Ok.managed.0 c.into_directory.result c.args.schema wrapped.frame wrapped.quiet (λ text. text.items) c.space_report-outcome.result t (c.in-Ok.managed.1.managed, wrapped.names t) (report t)

pub returns-clause-faults : goal.returns-clause-faults
returns-clause-faults g c =
    let D = g.D.Directory in
    let wrapped = c.in-Ok.ensures.wraps in
    let faults = rw (c.from_parts-index.ensures, sym c.into_directory.ensures) at c.space_report-outcome.ensures.faults in
    measure_faults D c.args.directory c.in-Ok.managed.0 c.into_directory.result c.args.schema wrapped.frame wrapped.quiet c.space_report-outcome.result (λ t. (c.in-Ok.managed.1.managed, wrapped.names t)) faults

pub returns-clause-images : goal.returns-clause-images
returns-clause-images g c t =
    let images = rw (c.from_parts-index.ensures, sym c.into_directory.ensures) at c.space_report-outcome.ensures.images in
    keeps_then (c.in-Ok.ensures.tracks t).keeps (images t)
