use Rattle.tv_metas.proofs.Promised.{same_means}
use Rattle.tv_metas.proofs.laws.same_schemas_have_one_tree.Goals as goal

pub returns-clause-means : goal.returns-clause-means
returns-clause-means c is = same_means c.args.schema.now c.args.other.now c.text-other.ensures.form (c.same.ensures.same.0 is)
