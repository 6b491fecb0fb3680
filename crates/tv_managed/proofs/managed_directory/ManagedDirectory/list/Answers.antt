use Rattle.std.proofs.Common.{refl}
use Rattle.tv_managed.proofs.Listing.{lists_same}
use Rattle.tv_managed.specs.Frames.{MakeFaults}
use Rattle.tv_managed.specs.Managed.{HasListed}
use Rattle.tv_managed.proofs.Writing.{listed_err, listed_none, listed_ok}
use Rattle.tv_managed.proofs.Results.{handed}
use Rattle.tv_managed.proofs.managed_directory.ManagedDirectory.list.Goals as goal

pub returns-in_err-filepath-clause-images : goal.returns-in_err-filepath-clause-images
returns-in_err-filepath-clause-images g c = λ tells. lists_same g.D.Directory c.args.name.now {old = c.args.self.now} {new = c.args.self.now} refl refl

pub returns-in_err-filepath-clause-list : goal.returns-in_err-filepath-clause-list
returns-in_err-filepath-clause-list g c =
    handed (HasListed g.D.Directory c.args.self.now c.args.self.now c.args.name.now) c.from_residual.result _ c.from_residual.ensures.1 (listed_none g.D.Directory c.args.self.now c.args.name.now _)

pub returns-in_err-filepath-clause-faults : goal.returns-in_err-filepath-clause-faults
returns-in_err-filepath-clause-faults g c =
    let view = g.D.Directory.view c.args.self.now.0 in
    handed (MakeFaults view view c.args.name.now) c.from_residual.result _ c.from_residual.ensures.1 (record { quiet = tt; cause = refl })

pub returns-in-Ok-clause-list : goal.returns-in-Ok-clause-list
returns-in-Ok-clause-list g c = listed_ok g.D.Directory _ c.in-Ok.ensures.list

pub returns-in-Ok-clause-faults : goal.returns-in-Ok-clause-faults
returns-in-Ok-clause-faults g c = record { quiet = c.in-Ok.ensures.faults.quiet; cause = tt }

pub returns-in-Ok-clause-images : goal.returns-in-Ok-clause-images
returns-in-Ok-clause-images g c = c.register_file_as_managed.ensures.images

pub returns-in-Err-Memory-clause-list : goal.returns-in-Err-Memory-clause-list
returns-in-Err-Memory-clause-list g c = listed_err g.D.Directory _ c.in-Err-Memory.ensures.list

pub returns-in-Err-Memory-clause-images : goal.returns-in-Err-Memory-clause-images
returns-in-Err-Memory-clause-images g c = c.register_file_as_managed.ensures.images

pub returns-in-Err-Fault-clause-list : goal.returns-in-Err-Fault-clause-list
returns-in-Err-Fault-clause-list g c = listed_err g.D.Directory _ c.in-Err-Fault.ensures.list

pub returns-in-Err-Fault-clause-images : goal.returns-in-Err-Fault-clause-images
returns-in-Err-Fault-clause-images g c = c.register_file_as_managed.ensures.images
