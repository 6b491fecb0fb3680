use Rattle.tv_index.proofs.OpenedSafely.{opened_settled}
use Rattle.tv_index.proofs.laws.an_opening_leaves_a_settled_disk.Goals as goal

pub returns : goal.returns
returns g c tells = opened_settled g.D.Directory _ _ c.args.directory (λ index. index.directory) c.open_or_create.result (c.open_or_create.ensures.safe tells)
