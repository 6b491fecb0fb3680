use Rattle.std.proofs.Common.{rules}
use Rattle.tv_metas.proofs.Promised.{reads_back}
use Rattle.tv_metas.proofs.laws.parse_reads_what_is_printed.Goals as goal

pub returns : goal.returns
returns c = reads_back c.args.meta.now c.as_slice.result.now c.parse.result c.text-schema.ensures.form (search rules) (search rules) c.parse.ensures.ok c.parse.ensures.schema c.parse.ensures.err
