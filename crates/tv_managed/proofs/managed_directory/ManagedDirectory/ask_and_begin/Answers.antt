use Rattle.std.proofs.lemmas.Result.{IfOk-from_err, IfOk-weaker}
use Rattle.tv_managed.specs.Collecting.{names_of, taken_by, CollectFaults}
use Rattle.tv_managed.proofs.Beginning.{begun_safely}
use Rattle.tv_managed.proofs.Giving.{settles_asked, settles_none}
use Rattle.tv_managed.specs.TrackLaws.{listed_read, track_read}
use Rattle.tv_managed.proofs.Failing.{collect_begun, collect_locked}
use Rattle.tv_device.specs.ViewLaws.{reads_then}
use Rattle.tv_managed.proofs.Results.{handed}
use Rattle.tv_managed.proofs.managed_directory.ManagedDirectory.ask_and_begin.Goals as goal

pub returns-in_err-living-clause-safe : goal.returns-in_err-living-clause-safe
returns-in_err-living-clause-safe g c = λ tells.
    let asks = c.in_err-living.ensures.asks in
    record { tracks = track_read g.D.Directory asks.frame.names (asks.images tells); listed = listed_read g.D.Directory c.args.self.now c.under_meta_lock.new.self asks.frame.names (asks.images tells); states = settles_none (asks.images tells) (IfOk-from_err c.from_residual.result _ c.from_residual.ensures.0) }

pub returns-clause-begins : goal.returns-clause-begins
returns-clause-begins g c =
    let names = c.in_ok-living.ensures.asks.frame.names in
    IfOk-weaker c.begin_beside.result _ _ (λ number begins. (c.in_ok-living.living, c.in_ok-living.ensures.answer, begins)) (rw names at c.begin_beside.ensures.begins)

pub returns-clause-safe : goal.returns-clause-safe
returns-clause-safe g c = λ tells.
    let asks = c.in_ok-living.ensures.asks in
    let settles = settles_asked (asks.images tells) (c.begin_beside.ensures.images tells) in
    begun_safely g.D.Directory (taken_by (names_of c.in_ok-living.living.keys) c.args.self.now.1) {old = c.args.self.now} {new = c.begin_beside.new.self} c.begin_beside.result settles (rw asks.frame.names at c.begin_beside.ensures.begins) (rw asks.frame.names at c.begin_beside.ensures.err)

pub returns-in_err-living-clause-faults : goal.returns-in_err-living-clause-faults
returns-in_err-living-clause-faults g c =
    let asks = c.in_err-living.ensures.asks in
    handed (CollectFaults g.D.Directory c.args.self.now c.under_meta_lock.new.self) c.from_residual.result _ c.from_residual.ensures.1 (collect_locked g.D.Directory asks.frame asks.faults)

pub returns-in_err-living-clause-frame : goal.returns-in_err-living-clause-frame
returns-in_err-living-clause-frame g c = c.in_err-living.ensures.asks.frame.below

pub returns-clause-faults : goal.returns-clause-faults
returns-clause-faults g c =
    let asks = c.in_ok-living.ensures.asks in
    collect_begun g.D.Directory c.begin_beside.result asks.frame asks.faults c.begin_beside.ensures.faults c.begin_beside.ensures.err c.begin_beside.ensures.frame

pub returns-clause-frame : goal.returns-clause-frame
returns-clause-frame g c = reads_then c.in_ok-living.ensures.asks.frame.below c.begin_beside.ensures.frame
