use Rattle.std.proofs.Common.{List, ℕ, Result, Ok, Err}
use Rattle.tv_base.specs.declared.io.IoError.{IoError}
use Rattle.tv_base.specs.declared.io.IoError.TheVariants as io
use Rattle.tv_formats.specs.Disk.{Disk, DiskState, possible_now}
use Rattle.tv_device.specs.Images.{GivesState}
use Rattle.tv_device.proofs.laws.a_crash_may_undo_a_write.Goals as goal

-- what was possible stays so, whatever the call answers
still : {A : Type 0} {old new : Disk} {name : List ℕ} {state : DiskState} (result : Result A IoError)
    → GivesState old new name state result → (n : List ℕ) (s : DiskState) → possible_now old n s → possible_now new n s
still (Ok x) gives = gives.ok.possible.kept.each
still (Err (io.Fault fault)) gives = gives.err.1.possible.kept.each
still (Err io.Memory) gives = gives.err.possible.no_fewer.each

pub returns : goal.returns
returns g c tells =
    still _ (c.atomic_write.ensures.images tells) _ _
    ((g.met.D.Directory.stands c.args.directory.now tells).possible c.args.name.now)
