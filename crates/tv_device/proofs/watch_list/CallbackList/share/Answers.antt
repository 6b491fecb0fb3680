use Rattle.tv_device.proofs.WatchLists.{apart_shared}
use Rattle.tv_device.proofs.watch_list.CallbackList.share.Goals as goal

pub invariant_of-self-2 : goal.invariant_of-self-2
invariant_of-self-2 g c =
    rw c.in_ok-share.ensures.ok (apart_shared c.new.result c.self.inside.entries.entries c.self.invariant)
