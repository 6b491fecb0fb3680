use Rattle.std.proofs.Common.{arith}
use Rattle.tv_histories.proofs.Races.{raced, some_entry}
use Rattle.tv_histories.proofs.interleaving.is_interleaving.Goals as goal

pub returns-then-entries-receipts-clause-race : goal.returns-then-entries-receipts-clause-race
returns-then-entries-receipts-clause-race c =
    let l = c.len-receipts.ensures in
    let e = c.if-entries-receipts.true in
    let n = some_entry c.args.history.now c.requires.reads in
    raced _ c.args.merged.now.callers.items c.args.merged.now.receipts.items c.args.history.now
    c.requires.merged c.requires.stand (omega arith) c.requires.reads
