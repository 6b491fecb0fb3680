use Rattle.std.proofs.Common.{refl, subst, ap, ◌∙◌}
use Rattle.tv_managed.proofs.Giving.{read_from}
use Rattle.tv_managed.specs.TrackLaws.{safe_read}
use Rattle.tv_device.specs.Calls.{Appends, IoFaults, Touches}
use Rattle.tv_managed.specs.Writers.{HandsOn}
use Rattle.tv_managed.proofs.Writing.{appends_on, hands_on_refused, hands_on_written, io_on, names_kept}
use Rattle.tv_managed.proofs.Results.{handed}
use Rattle.tv_managed.proofs.managed_directory.ManagedDirectory.write.Goals as goal

pub returns-in_err-write-clause-safe : goal.returns-in_err-write-clause-safe
returns-in_err-write-clause-safe g c = λ tells. read_from g.D.Directory c.self.view_is (safe_read g.D.Directory refl (c.in_err-write.ensures.images tells))

pub returns-clause-safe : goal.returns-clause-safe
returns-clause-safe g c = λ tells. read_from g.D.Directory c.self.view_is (safe_read g.D.Directory refl (c.in_ok-write.ensures.images tells))

pub returns-in_err-write-clause-appends : goal.returns-in_err-write-clause-appends
returns-in_err-write-clause-appends g c =
    let state_of = g.D.Directory.state_of in
    handed (Appends (state_of c.args.writer.now.writer) (state_of c.write.new.writer) c.args.bytes.now) c.from_residual.result _ c.from_residual.ensures.1 (appends_on c.in_err-write.ensures.appends)

pub returns-in_err-write-clause-hands_on : goal.returns-in_err-write-clause-hands_on
returns-in_err-write-clause-hands_on g c =
    handed (HandsOn g.D.Directory c.args.self.now.0 c.write.new.self c.args.writer.now (record { writer = c.write.new.writer; checksum = c.args.writer.now.checksum })) c.from_residual.result _ c.from_residual.ensures.1
    (hands_on_refused g.D.Directory c.self.view_is c.in_err-write.ensures.hands_back c.in_err-write.ensures.appends)

pub returns-in_err-write-clause-touches : goal.returns-in_err-write-clause-touches
returns-in_err-write-clause-touches g c =
    let D = g.D.Directory in
    subst (λ v. Touches D.told (D.view v.0) (D.view c.write.new.self) D.state_of c.args.writer.now.writer) c.self.view_is c.write.ensures.touches

pub returns-in_err-write-clause-faults : goal.returns-in_err-write-clause-faults
returns-in_err-write-clause-faults g c =
    let D = g.D.Directory in
    handed (IoFaults (D.view c.args.self.now.0) (D.view c.write.new.self)) c.from_residual.result _ c.from_residual.ensures.1 (io_on D c.self.view_is c.in_err-write.ensures.faults)

pub returns-in_err-write-clause-frame : goal.returns-in_err-write-clause-frame
returns-in_err-write-clause-frame g c = names_kept g.D.Directory c.self.view_is c.write.ensures.frame

pub returns-clause-hands_on : goal.returns-clause-hands_on
returns-clause-hands_on g c = hands_on_written g.D.Directory _ c.self.view_is c.in_ok-write.ensures.hands_back c.in_ok-write.ensures.appends c.update.ensures

pub returns-clause-touches : goal.returns-clause-touches
returns-clause-touches g c =
    let D = g.D.Directory in
    subst (λ v. Touches D.told (D.view v.0) (D.view c.write.new.self) D.state_of c.args.writer.now.writer) c.self.view_is c.write.ensures.touches

pub returns-clause-faults : goal.returns-clause-faults
returns-clause-faults g c = record { quiet = c.in_ok-write.ensures.faults.quiet ∙ ap (λ v. (g.D.Directory.view v.0).faults) c.self.view_is; cause = tt }

pub returns-clause-frame : goal.returns-clause-frame
returns-clause-frame g c = names_kept g.D.Directory c.self.view_is c.write.ensures.frame
