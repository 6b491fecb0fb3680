use Rattle.std.proofs.Common.{ap}
use Rattle.tv_registers.proofs.PutBack.{found_other}
use Rattle.tv_registers.proofs.laws.ends_one_merge_alone.Goals as goal

pub returns : goal.returns
returns c number apart = found_other number c.args.op.number c.args.merges.now.entries c.release.new.self.entries apart (ap (λ m. m.entries) c.release.ensures)
