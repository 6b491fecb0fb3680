use Rattle.std.proofs.Common.{⊎_elim, subst}
use Rattle.tv_formats.specs.Disk.{IsThere}
use Rattle.tv_managed.proofs.laws.open_write_unseals_no_file_that_is_there.Goals as goal

pub returns : goal.returns
returns g c tells there x image from upto left =
    let gains = (c.open_write.ensures.safe tells).states.moments.each x from upto in
    record { each = λ n. let it = left.each n in (it.0, ⊎_elim (λ before. before) (λ gained. absurd (subst IsThere gained.0.0 there)) (gains.each n it.0 it.1), it.2) }
