use Rattle.std.proofs.Common.{refl}
use Rattle.tv_files.proofs.Untold.{only_reads, open_faults}
use Rattle.tv_files.proofs.folder_directory.MmapDirectoryDirectory.open_write.Goals as goal

pub returns-in_err-key-clause-makes : goal.returns-in_err-key-clause-makes
returns-in_err-key-clause-makes g c = record { ok = λ t. absurd t; err = λ t. absurd t }

pub returns-in_err-key-clause-images : goal.returns-in_err-key-clause-images
returns-in_err-key-clause-images g c = λ t. absurd t

pub returns-in-Ok-clause-makes : goal.returns-in-Ok-clause-makes
returns-in-Ok-clause-makes g c = record { ok = λ t. absurd t; err = λ t. absurd t }

pub returns-in-Ok-clause-faults : goal.returns-in-Ok-clause-faults
returns-in-Ok-clause-faults g c = record { quiet = refl; cause = tt }

pub returns-in-Ok-clause-images : goal.returns-in-Ok-clause-images
returns-in-Ok-clause-images g c = λ t. absurd t

pub returns-in-Err-clause-writer : goal.returns-in-Err-clause-writer
returns-in-Err-clause-writer g c = tt

pub returns-in-Err-clause-makes : goal.returns-in-Err-clause-makes
returns-in-Err-clause-makes g c = record { ok = λ t. absurd t; err = λ t. absurd t }

pub returns-in-Err-clause-faults : goal.returns-in-Err-clause-faults
returns-in-Err-clause-faults g c = open_faults _ _ _ _ _ (rw c.in_ok-key.ensures at c.not_made.ensures.cause)

pub returns-in-Err-clause-frame : goal.returns-in-Err-clause-frame
returns-in-Err-clause-frame g c = (only_reads _ _ _ c.not_made.ensures.kept).kept

pub returns-in-Err-clause-images : goal.returns-in-Err-clause-images
returns-in-Err-clause-images g c = λ t. absurd t
