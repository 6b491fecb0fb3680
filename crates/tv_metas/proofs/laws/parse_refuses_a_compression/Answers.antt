use Rattle.std.proofs.Common.{ap}
use Rattle.std.specs.Prelude.{is_some}
use Rattle.tv_metas.proofs.Promised.{compressions_mean_nothing, refused_as_corrupt}
use Rattle.tv_metas.proofs.laws.parse_refuses_a_compression.Goals as goal

pub returns : goal.returns
returns c h = refused_as_corrupt _ c.args.bytes.now c.parse.result (compressions_mean_nothing c.args.bytes.now h) (ap is_some h.parsed) c.parse.ensures.ok c.parse.ensures.err
