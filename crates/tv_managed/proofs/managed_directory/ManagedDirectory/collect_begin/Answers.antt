use Rattle.std.proofs.Common.{rules, ℕ, List, ap, subst}
use Rattle.std.specs.Prelude.{IfOk}
use Rattle.tv_managed.specs.Collecting.{names_of, taken_by, Begins, CollectFaults}
use Rattle.tv_managed.proofs.Beginning.{begun_safely}
use Rattle.tv_managed.proofs.Giving.{settles_asked, settles_none}
use Rattle.tv_managed.specs.TrackLaws.{listed_read, track_read}
use Rattle.tv_managed.proofs.Failing.{collect_begun, collect_locked}
use Rattle.tv_device.specs.ViewLaws.{reads_then}
use Rattle.tv_managed.proofs.Results.{handed}
use Rattle.tv_managed.proofs.managed_directory.ManagedDirectory.collect_begin.Goals as goal

pub returns-in_err-under_meta_lock-clause-safe : goal.returns-in_err-under_meta_lock-clause-safe
returns-in_err-under_meta_lock-clause-safe g c = λ tells.
    let asks = c.in_err-under_meta_lock.ensures.asks in
    record { tracks = track_read g.D.Directory asks.frame.names (asks.images tells); listed = listed_read g.D.Directory c.args.self.now c.under_meta_lock.new.self asks.frame.names (asks.images tells); states = settles_none (asks.images tells) (search rules) }

pub returns-clause-safe : goal.returns-clause-safe
returns-clause-safe g c = λ tells.
    let asks = c.in_ok-under_meta_lock.ensures.asks in
    let settles = settles_asked (asks.images tells) (c.begin.ensures.images tells) in
    begun_safely g.D.Directory (taken_by (names_of c.args.living.now.keys) c.args.self.now.1) {old = c.args.self.now} {new = c.begin.new.self} c.begin.result settles (subst (λ (taken : List (List ℕ)). IfOk c.begin.result (Begins taken c.args.self.now.1 c.begin.new.self.1)) (ap (λ d. d.untried) c.in_ok-collection.ensures) (rw asks.frame.names at c.begin.ensures.begins)) (rw asks.frame.names at c.begin.ensures.err)

pub returns-in_err-under_meta_lock-clause-faults : goal.returns-in_err-under_meta_lock-clause-faults
returns-in_err-under_meta_lock-clause-faults g c =
    let asks = c.in_err-under_meta_lock.ensures.asks in
    handed (CollectFaults g.D.Directory c.args.self.now c.under_meta_lock.new.self) c.from_residual-in_err-under_meta_lock.result _ c.from_residual-in_err-under_meta_lock.ensures.1 (collect_locked g.D.Directory asks.frame asks.faults)

pub returns-in_err-under_meta_lock-clause-frame : goal.returns-in_err-under_meta_lock-clause-frame
returns-in_err-under_meta_lock-clause-frame g c = c.in_err-under_meta_lock.ensures.asks.frame.below

pub returns-clause-faults : goal.returns-clause-faults
returns-clause-faults g c =
    let asks = c.in_ok-under_meta_lock.ensures.asks in
    collect_begun g.D.Directory c.begin.result asks.frame asks.faults c.begin.ensures.faults c.begin.ensures.err c.begin.ensures.frame

pub returns-clause-frame : goal.returns-clause-frame
returns-clause-frame g c = reads_then c.in_ok-under_meta_lock.ensures.asks.frame.below c.begin.ensures.frame
