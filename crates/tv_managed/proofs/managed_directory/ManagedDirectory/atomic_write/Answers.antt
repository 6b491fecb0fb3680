use Rattle.std.proofs.Common.{refl, ap, subst, ◌∙◌}
use Rattle.std.proofs.lemmas.Result.{IfOk-from_err, on_ok_weaker}
use Rattle.tv_formats.specs.Disk.{Sealed}
use Rattle.tv_formats.specs.Files.{KeepsOthers}
use Rattle.tv_formats.proofs.Results.{handed_on}
use Rattle.tv_managed.proofs.Collections.{done_held}
use Rattle.tv_managed.proofs.Making.{manages_by, manages_unlisted, others_written}
use Rattle.tv_managed.proofs.Giving.{given_safely, gives_safely, listed_safely, wanted_given, wanted_list}
use Rattle.tv_device.specs.Calls.{IoFaults}
use Rattle.tv_device.specs.TouchLaws.{others_given}
use Rattle.tv_managed.specs.Frames.{KeptButNotes}
use Rattle.tv_managed.specs.Managed.{GivesFile}
use Rattle.tv_managed.proofs.Writing.{gives_listed, gives_written, io_then, notes_listed, notes_written}
use Rattle.tv_managed.proofs.Results.{handed}
use Rattle.tv_managed.proofs.managed_directory.ManagedDirectory.atomic_write.Goals as goal

pub returns-clause-manages : goal.returns-clause-manages
returns-clause-manages g c =
    let D = g.D.Directory in
    manages_by D {old = c.args.self.now} {asked = c.args.self.now} (λ tells n. refl) refl c.in_ok-register_file_as_managed.ensures.list (ap (λ v. v.1) c.self.view_is)
    (λ tells. subst (λ v. KeepsOthers (D.view v.0).reads (D.view c.atomic_write.new.self).reads c.args.name.now) c.self.view_is
    (others_written c.atomic_write.result (D.view c.self.inside.directory).reads (D.view c.atomic_write.new.self).reads c.args.name.now _ (c.atomic_write.ensures.gives.ok tells) (c.atomic_write.ensures.gives.err tells)))
    c.requires.other c.atomic_write.result
    (λ undotted. done_held c.args.self.now.1.collections.unfinished c.args.name.now (c.requires.free undotted))

pub returns-in_err-register_file_as_managed-clause-manages : goal.returns-in_err-register_file_as_managed-clause-manages
returns-in_err-register_file_as_managed-clause-manages g c =
    manages_unlisted g.D.Directory {old = c.args.self.now} {asked = c.args.self.now} c.from_residual.result c.from_residual.ensures.0 (λ tells n. refl) refl c.in_err-register_file_as_managed.ensures.list

pub returns-in_err-register_file_as_managed-clause-safe : goal.returns-in_err-register_file_as_managed-clause-safe
returns-in_err-register_file_as_managed-clause-safe g c = λ tells.
    let D = g.D.Directory in
    let e = c.in_err-register_file_as_managed.ensures in
    let lists = e.images tells in
    gives_safely D (listed_safely D (Sealed c.args.bytes.now) lists) (handed_on c.from_residual.result _ _ c.from_residual.ensures.1 (wanted_list _ _ _ e.faults.cause lists.moments)) (IfOk-from_err c.from_residual.result _ c.from_residual.ensures.0)

pub returns-clause-safe : goal.returns-clause-safe
returns-clause-safe g c = λ tells.
    let D = g.D.Directory in
    let gives = c.atomic_write.ensures.images tells in
    let lists = c.in_ok-register_file_as_managed.ensures.images tells in
    gives_safely D (given_safely D lists c.self.view_is c.in_ok-register_file_as_managed.ensures.list.names c.requires.other
    (λ undotted. done_held c.args.self.now.1.collections.unfinished c.args.name.now (c.requires.free undotted)) gives.time gives.no_more (others_given c.atomic_write.result gives))
    (wanted_given D c.atomic_write.result lists c.self.view_is gives) (on_ok_weaker c.atomic_write.result (λ sets. sets.now) gives.ok)

pub returns-in_err-register_file_as_managed-clause-gives : goal.returns-in_err-register_file_as_managed-clause-gives
returns-in_err-register_file_as_managed-clause-gives g c =
    let e = c.in_err-register_file_as_managed.ensures in
    handed (GivesFile g.D.Directory c.args.self.now.0 c.register_file_as_managed.new.self.0 c.args.name.now c.args.bytes.now) c.from_residual.result _ c.from_residual.ensures.1
    (gives_listed g.D.Directory {old = c.args.self.now} {new = c.register_file_as_managed.new.self} c.requires.other e.list e.faults)

pub returns-in_err-register_file_as_managed-clause-faults : goal.returns-in_err-register_file_as_managed-clause-faults
returns-in_err-register_file_as_managed-clause-faults g c =
    let D = g.D.Directory in
    handed (IoFaults (D.view c.args.self.now.0) (D.view c.register_file_as_managed.new.self.0)) c.from_residual.result _ c.from_residual.ensures.1 (record { quiet = tt; cause = c.in_err-register_file_as_managed.ensures.faults.cause })

pub returns-in_err-register_file_as_managed-clause-frame : goal.returns-in_err-register_file_as_managed-clause-frame
returns-in_err-register_file_as_managed-clause-frame g c =
    let D = g.D.Directory in
    let e = c.in_err-register_file_as_managed.ensures in
    handed (KeptButNotes D.told (D.view c.args.self.now.0) (D.view c.register_file_as_managed.new.self.0) c.args.name.now) c.from_residual.result _ c.from_residual.ensures.1
    (notes_listed D c.args.self.now c.register_file_as_managed.new.self e.list.frame e.faults)

pub returns-clause-gives : goal.returns-clause-gives
returns-clause-gives g c = gives_written g.D.Directory {old = c.args.self.now} c.atomic_write.result c.requires.other c.in_ok-register_file_as_managed.ensures.list c.self.view_is c.atomic_write.ensures.gives

pub returns-clause-faults : goal.returns-clause-faults
returns-clause-faults g c =
    let D = g.D.Directory in
    io_then c.atomic_write.result (ap (λ v. (D.view v.0).faults) c.self.view_is ∙ c.in_ok-register_file_as_managed.ensures.faults.quiet) c.atomic_write.ensures.faults

pub returns-clause-frame : goal.returns-clause-frame
returns-clause-frame g c = notes_written g.D.Directory c.args.self.now c.atomic_write.result c.in_ok-register_file_as_managed.ensures.list.frame c.self.view_is c.atomic_write.ensures.frame c.atomic_write.ensures.notes
