use Rattle.tv_index.proofs.Promised.{spares}
use Rattle.tv_index.proofs.laws.open_or_create_spares_an_index.Goals as goal

pub returns : goal.returns
returns g c = spares g.D.Directory c.args.directory _ c.open_or_create.result c.open_or_create.ensures.opened c.open_or_create.ensures.refused
