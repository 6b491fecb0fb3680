use Rattle.std.proofs.Common.{subst}
use Rattle.tv_device.specs.Calls.{Frees}
use Rattle.tv_store.proofs.FreedLocks.{frees_both}
use Rattle.tv_store.proofs.index_store.close.Goals as goal

pub returns-clause-frees : goal.returns-clause-frees
returns-clause-frees g c =
    let D = g.O.Directory in
    frees_both D.told c.args.lock c.args.files.locked (D.view c.args.files.outside) (D.view c.give_back.new.self.outside) (D.view c.release.new.self) c.give_back.ensures.gives.below
    (subst (λ o. Frees D.told c.args.lock (D.view o) (D.view c.release.new.self)) c.into_outside-directory.ensures c.release.ensures.frees)
