use Rattle.std.proofs.Common.{refl}
use Rattle.tv_device.proofs.WatchLists.{apart_more}
use Rattle.tv_device.proofs.watch_list.CallbackList.subscribe.Goals as goal

pub invariant_of-self-2 : goal.invariant_of-self-2
invariant_of-self-2 g c =
    rw c.in_ok-ticket.ensures.ok (apart_more c.in_ok-ticket.ticket c.self.inside.entries.entries _ refl c.in_ok-ticket.ensures.fresh c.self.invariant)
