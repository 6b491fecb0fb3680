use Rattle.std.proofs.Common.{◌≤◌, refl, subst}
use Rattle.tv_base.specs.Texts.{last}
use Rattle.tv_files.proofs.Untold.{delete_faults, may_delete, refused_no_less}
use Rattle.tv_files.proofs.folder_directory.MmapDirectoryDirectory.delete.Goals as goal

pub returns-in_default-clause-deletes : goal.returns-in_default-clause-deletes
returns-in_default-clause-deletes g c = record { ok = λ t. absurd t; err = λ t. absurd t }

pub returns-in_default-clause-writers : goal.returns-in_default-clause-writers
returns-in_default-clause-writers g c = record { lost = λ t. absurd t; others = λ t. absurd t; kept = λ t. absurd t }

pub returns-in_default-clause-faults : goal.returns-in_default-clause-faults
returns-in_default-clause-faults g c = record { quiet = tt; cause = refl; fits = subst (λ f. f.refusals ≤ last) c.self.view_is c.self.invariant; faults = refl }

pub returns-in_default-clause-images : goal.returns-in_default-clause-images
returns-in_default-clause-images g c = λ t. absurd t

pub returns-in-Ok-remove-clause-deletes : goal.returns-in-Ok-remove-clause-deletes
returns-in-Ok-remove-clause-deletes g c = record { ok = λ t. absurd t; err = λ t. absurd t }

pub returns-in-Ok-remove-clause-writers : goal.returns-in-Ok-remove-clause-writers
returns-in-Ok-remove-clause-writers g c = record { lost = λ t. absurd t; others = λ t. absurd t; kept = λ t. absurd t }

pub returns-in-Ok-remove-clause-faults : goal.returns-in-Ok-remove-clause-faults
returns-in-Ok-remove-clause-faults g c = record { quiet = refl; cause = tt; fits = subst (λ f. f.refusals ≤ last) c.self.view_is c.self.invariant; faults = refl }

pub returns-in-Ok-remove-clause-images : goal.returns-in-Ok-remove-clause-images
returns-in-Ok-remove-clause-images g c = λ t. absurd t

pub returns-in-Err-clause-deletes : goal.returns-in-Err-clause-deletes
returns-in-Err-clause-deletes g c = record { ok = λ t. absurd t; err = λ t. absurd t }

pub returns-in-Err-clause-writers : goal.returns-in-Err-clause-writers
returns-in-Err-clause-writers g c = record { lost = λ t. absurd t; others = λ t. absurd t; kept = λ t. absurd t }

pub returns-in-Err-clause-faults : goal.returns-in-Err-clause-faults
returns-in-Err-clause-faults g c =
    delete_faults _ _ _ _ _ (subst (λ f. f.refusals ≤ last) c.self.view_is c.self.invariant) c.not_deleted.ensures.kept (rw c.in-Ok.ensures at c.not_deleted.ensures.cause)

pub returns-in-Err-clause-frame : goal.returns-in-Err-clause-frame
returns-in-Err-clause-frame g c =
    may_delete _ _ _ (refused_no_less _ _ _ _ (subst (λ f. f.refusals ≤ last) c.self.view_is c.self.invariant) c.not_deleted.ensures.cause) c.not_deleted.ensures.kept

pub returns-in-Err-clause-images : goal.returns-in-Err-clause-images
returns-in-Err-clause-images g c = λ t. absurd t
