use Rattle.tv_managed.proofs.Deleting.{changes_nothing, only_deletes, state_absent, state_done, state_refused, state_wanted, tries_absent, tries_done, tries_refused}
use Rattle.tv_managed.proofs.Stepping.{plain_other}
use Rattle.tv_managed.proofs.collecting.delete_managed.Goals as goal

pub returns-in-Ok-clause-tried : goal.returns-in-Ok-clause-tried
returns-in-Ok-clause-tried g c names = tries_done g.D.Directory c.in-Ok.ensures.deletes c.in-Ok.ensures.writers c.in-Ok.ensures.faults

pub returns-in-Ok-clause-only : goal.returns-in-Ok-clause-only
returns-in-Ok-clause-only g c names = only_deletes g.D.Directory c.delete.result (plain_other c.args.name.now c.requires) c.delete.ensures.deletes c.delete.ensures.faults c.delete.ensures.frame

pub returns-in-Ok-clause-images : goal.returns-in-Ok-clause-images
returns-in-Ok-clause-images g c tells = state_done (c.in-Ok.ensures.images tells)

pub returns-in-Err-FileDoesNotExist-clause-tried : goal.returns-in-Err-FileDoesNotExist-clause-tried
returns-in-Err-FileDoesNotExist-clause-tried g c names =
    let e = c.in-Err-FileDoesNotExist in
    tries_absent g.D.Directory e.field-0-is e.ensures.deletes e.ensures.writers e.ensures.faults

pub returns-in-Err-FileDoesNotExist-clause-only : goal.returns-in-Err-FileDoesNotExist-clause-only
returns-in-Err-FileDoesNotExist-clause-only g c names = only_deletes g.D.Directory c.delete.result (plain_other c.args.name.now c.requires) c.delete.ensures.deletes c.delete.ensures.faults c.delete.ensures.frame

pub returns-in-Err-FileDoesNotExist-clause-images : goal.returns-in-Err-FileDoesNotExist-clause-images
returns-in-Err-FileDoesNotExist-clause-images g c tells = state_absent c.in-Err-FileDoesNotExist.field-0-is (c.in-Err-FileDoesNotExist.ensures.images tells)

pub returns-in-Err-IoError-clause-tried : goal.returns-in-Err-IoError-clause-tried
returns-in-Err-IoError-clause-tried g c names =
    let e = c.in-Err-IoError in
    tries_refused g.D.Directory e.field-0-is e.ensures.deletes e.ensures.writers e.ensures.faults

pub returns-in-Err-IoError-clause-only : goal.returns-in-Err-IoError-clause-only
returns-in-Err-IoError-clause-only g c names = only_deletes g.D.Directory c.delete.result (plain_other c.args.name.now c.requires) c.delete.ensures.deletes c.delete.ensures.faults c.delete.ensures.frame

pub returns-in-Err-IoError-clause-images : goal.returns-in-Err-IoError-clause-images
returns-in-Err-IoError-clause-images g c tells = state_refused c.in-Err-IoError.field-0-is (c.in-Err-IoError.ensures.images tells)

pub returns-clause-err : goal.returns-clause-err
returns-clause-err g c names =
    let e = c.in-Err-Memory in
    changes_nothing g.D.Directory e.field-0-is e.ensures.deletes e.ensures.writers e.ensures.faults c.delete.ensures.frame

pub returns-clause-only : goal.returns-clause-only
returns-clause-only g c names = only_deletes g.D.Directory c.delete.result (plain_other c.args.name.now c.requires) c.delete.ensures.deletes c.delete.ensures.faults c.delete.ensures.frame

pub returns-clause-images : goal.returns-clause-images
returns-clause-images g c tells = state_wanted _ c.in-Err-Memory.field-0-is (c.in-Err-Memory.ensures.images tells)
