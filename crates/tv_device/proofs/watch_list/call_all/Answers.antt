use Rattle.std.proofs.Common.{◌≡◌}
use Rattle.tv_device.specs.Watch.{called}
use Rattle.tv_device.proofs.WatchLists.{apart_visited, none_visited, seen_after}
use Rattle.tv_device.proofs.watch_list.call_all.Goals as goal

pub returns : goal.returns
returns g c =
    let all = c.visit_all.ensures.visited in
    record {
      called = seen_after g.C.WatchCall.calls _ _ all;
      gone = λ n none. none_visited (λ a b. g.C.WatchCall.calls b.callback ≡ called (g.C.WatchCall.calls a.callback)) n _ _ all none;
      apart = apart_visited (λ a b. g.C.WatchCall.calls b.callback ≡ called (g.C.WatchCall.calls a.callback)) _ _ all;
    }
