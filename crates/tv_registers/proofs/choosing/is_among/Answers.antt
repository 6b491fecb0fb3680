use Rattle.std.proofs.Common.{◌∙◌}
use Rattle.tv_registers.proofs.Chosen.{had}
use Rattle.tv_registers.proofs.choosing.is_among.Goals as goal

pub returns : goal.returns
returns c = c.contains.ensures ∙ had c.args.ids.now.keys c.args.id.now
