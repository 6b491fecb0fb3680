use Rattle.std.proofs.Common.{ap, refl}
use Rattle.tv_device.proofs.WatchLists.{none_seen, watched}
use Rattle.tv_device.proofs.watch_list.Watchers.watch.Goals as goal

pub returns-clause-ok : goal.returns-clause-ok
returns-clause-ok g c =
    let n = c.in_ok-ticket.ticket in
    (n, cc, none_seen g.C.WatchCall.calls n c.args.self.now.list.entries c.in_ok-ticket.ensures.fresh, watched g.C.WatchCall.calls c.args.self.now (record c.args.self.now { list = c.track.new.self }) n c.args.callback (ap (λ state. state.entries) c.in_ok-ticket.ensures.ok) refl)
