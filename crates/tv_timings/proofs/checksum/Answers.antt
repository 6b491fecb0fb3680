use Rattle.std.proofs.Common.{[]}
use Rattle.tv_timings.proofs.checksum.Goals as goal

pub returns : goal.returns
returns c = c.finish.ensures c.args.bytes.now (c.update.ensures [] c.start-checksum.ensures)
