use Rattle.tv_index.proofs.Indexes.{all_within}
use Rattle.tv_index.proofs.index.Index.load_metas.Goals as goal

pub track-requires : goal.track-requires
track-requires g c = record { within = all_within c.in_ok-meta.meta c.in_ok-meta.ensures.meta.has.is_commit }
