use Rattle.std.proofs.Common.{drop, arith, ◌+◌}
use Rattle.tv_catalog.proofs.SharedLaws.{drop_here}
use Rattle.tv_store.proofs.Removals.{one_out}
use Rattle.tv_store.proofs.files_collecting.remove_names.Goals as goal

pub loop-name-preserved : goal.loop-name-preserved
loop-name-preserved c n =
    let names = c.args.names.now in
    let next = drop_here names c.loop-name.name-index c.name-item.result (omega arith) c.name-item.is in
    one_out c.loop-name.set.keys c.remove-there.new.self.keys c.name-item.result (drop c.loop-name.name-index names) (drop (c.loop-name.name-index + 1) names) n _ next (c.remove-there.ensures.updates.0 n) (c.loop-name.invariant n)
