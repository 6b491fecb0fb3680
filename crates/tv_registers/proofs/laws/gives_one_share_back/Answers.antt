use Rattle.tv_registers.proofs.PutBack.{found_other}
use Rattle.tv_registers.proofs.laws.gives_one_share_back.Goals as goal

pub returns : goal.returns
returns c number apart = found_other number c.args.entry.meta.0 c.args.inventory.now c.release.new.inventory apart c.release.ensures.released
