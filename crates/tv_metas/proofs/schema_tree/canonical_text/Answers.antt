use Rattle.std.proofs.Common.{arith}
use Rattle.serde_json.specs.View.{view}
use Rattle.tv_metas.proofs.BoundedTrees.{shallow}
use Rattle.tv_metas.proofs.schema_tree.canonical_text.Goals as goal

pub returns-clause-text : goal.returns-clause-text
returns-clause-text c = c.in_ok-text.ensures.text (shallow 32 (view c.args.tree.now) c.requires).no_float

pub returns-clause-reads : goal.returns-clause-reads
returns-clause-reads c = let s = shallow 32 (view c.args.tree.now) c.requires in c.in_ok-text.ensures.reads_back (omega (arith, s.depth))
