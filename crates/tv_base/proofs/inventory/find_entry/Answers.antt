use Rattle.std.proofs.Common.{sym}
use Rattle.tv_base.proofs.KeyedLaws.{looked}
use Rattle.tv_base.proofs.inventory.find_entry.Goals as goal

pub returns : goal.returns
returns g c = sym (looked c.args.number c.args.entries.now.entries _ c.requires c.get.ensures.value)
