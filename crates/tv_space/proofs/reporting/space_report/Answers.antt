use Rattle.std.proofs.Common.{◌∙◌, map, string_bytes}
use Rattle.tv_base.specs.Errors.{of_io}
use Rattle.tv_space.proofs.CommitReports.{report_faults, reports_so, unmeasured, unread}
use Rattle.tv_space.proofs.reporting.space_report.Goals as goal

pub returns-in_err-segments-clause-faults : goal.returns-in_err-segments-clause-faults
returns-in_err-segments-clause-faults g c =
    let D = g.D.Directory in
    let old = c.args.index.now in
    let mid = c.load_untracked_metas.new.self.directory.0 in
    let new = c.read_segments.new.index.directory.0 in
    let loaded = c.in_ok-meta.ensures in
    let why = c.in_err-segments.field-0.0 in
    report_faults D old.directory.0 new old.schema c.from_residual-in_err-segments.result why c.from_residual-in_err-segments.ensures.1
    (unread D old.directory.0 mid new old.schema c.in_ok-meta.meta loaded.meta loaded.frame.form.directory.below loaded.faults.quiet c.as_slice.result.now c.as_slice.ensures.value why c.in_err-segments.ensures.faults.cause)

pub returns-in_err-reports-clause-faults : goal.returns-in_err-reports-clause-faults
returns-in_err-reports-clause-faults g c =
    let D = g.D.Directory in
    let old = c.args.index.now in
    let mid = c.load_untracked_metas.new.self.directory.0 in
    let new = c.read_segments.new.index.directory.0 in
    let loaded = c.in_ok-meta.ensures in
    let read = c.in_ok-segments.ensures in
    let why = c.in_err-reports.field-0.0 in
    let schema = c.schema.ensures ∙ read.frame.form.schema ∙ loaded.frame.form.schema in
    report_faults D old.directory.0 new old.schema c.from_residual-in_err-reports.result (of_io why) c.from_residual-in_err-reports.ensures.1
    (unmeasured D old.directory.0 mid new old.schema c.in_ok-meta.meta loaded.meta loaded.frame.form.directory.below loaded.faults.quiet c.as_slice.result.now c.as_slice.ensures.value
    c.schema.result.now (map string_bytes c.names.result.now) schema c.names.ensures.names c.in_ok-segments.segments.items c.as_slice-2.result.now read.segments c.as_slice-2.ensures.value read.bodies
    (read.faults.quiet ∙ loaded.faults.quiet) why c.in_err-reports.ensures.err c.in_err-reports.ensures.outside)

pub returns-clause-report : goal.returns-clause-report
returns-clause-report g c t =
    let D = g.D.Directory in
    let old = c.args.index.now in
    let mid = c.load_untracked_metas.new.self.directory.0 in
    let new = c.read_segments.new.index.directory.0 in
    let loaded = c.in_ok-meta.ensures in
    let read = c.in_ok-segments.ensures in
    let schema = c.schema.ensures ∙ read.frame.form.schema ∙ loaded.frame.form.schema in
    reports_so D old.directory.0 mid new old.schema c.in_ok-meta.meta loaded.meta loaded.frame.form.directory.below loaded.faults.quiet c.as_slice.result.now c.as_slice.ensures.value
    c.schema.result.now (map string_bytes c.names.result.now) schema c.names.ensures.names c.in_ok-segments.segments.items c.as_slice-2.result.now read.segments c.as_slice-2.ensures.value read.bodies
    t c.in_ok-reports.reports.items c.as_slice-3.result.now _ c.in_ok-reports.ensures.each c.as_slice-3.ensures.value c.in_ok-report_text.ensures
