use Rattle.std.proofs.Common.{Some, ap, refl}
use Rattle.tv_device.proofs.WatchLists.{unwatched}
use Rattle.tv_device.proofs.watch_list.Watchers.unwatch.Goals as goal

pub returns-in-Some : goal.returns-in-Some
returns-in-Some g c =
    rw (← c.number.ensures.number, c.in-Some.is)
    record { unsubscribed = unwatched g.C.WatchCall.calls c.args.self.now (record c.args.self.now { list = c.release.new.self }) (Some c.in-Some.number) (ap (λ state. state.entries) (rw c.new.ensures.number at c.release.ensures.released)) refl }
