use Rattle.std.proofs.Common.{◌≡◌, ◌++◌, map, drop}
use Rattle.tv_histories.specs.declared.entry.Receipt.{Receipt}
use Rattle.tv_shared.proofs.racing.run_script.Given as goal

abbrev pub invariant-loop-event : goal.invariant-loop-event
invariant-loop-event g l = map (λ (r : Receipt). r.event) l.receipts.items ++ drop l.event-index l.events ≡ l.events
