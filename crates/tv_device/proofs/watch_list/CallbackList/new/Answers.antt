use Rattle.std.proofs.Common.{ap}
use Rattle.tv_device.proofs.WatchLists.{apart_none}
use Rattle.tv_device.proofs.watch_list.CallbackList.new.Goals as goal

pub invariant_of-result : goal.invariant_of-result
invariant_of-result g c = apart_none c.new.result.entries (ap (λ state. state.entries) c.new.ensures.empty)
