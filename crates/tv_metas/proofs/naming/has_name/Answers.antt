use Rattle.std.proofs.Common.{◌∙◌}
use Rattle.tv_formats.proofs.TextSets.{bytes_had}
use Rattle.tv_metas.proofs.naming.has_name.Goals as goal

pub returns : goal.returns
returns c = c.contains.ensures ∙ bytes_had c.args.names.now.keys c.args.name.now
