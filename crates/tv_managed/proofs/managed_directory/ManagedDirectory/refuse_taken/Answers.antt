use Rattle.std.proofs.Common.{◌≡◌, true, refl, sym, ap, ◌∙◌}
use Rattle.std.proofs.lemmas.Result.{IfOk-from_err}
use Rattle.tv_formats.specs.Collections.{held}
use Rattle.tv_formats.specs.Names.{has}
use Rattle.tv_managed.specs.Frames.{OnlyAsks}
use Rattle.tv_managed.specs.Managed.{CreateFaults}
use Rattle.tv_managed.proofs.Creating.{asks_for, faults_made, none_of}
use Rattle.tv_managed.proofs.Results.{handed}
use Rattle.tv_managed.proofs.managed_directory.ManagedDirectory.refuse_taken.Goals as goal

pub returns-in_err-is_there-clause-absent : goal.returns-in_err-is_there-clause-absent
returns-in_err-is_there-clause-absent g c = λ tells. IfOk-from_err c.from_residual.result _ c.from_residual.ensures.0

pub returns-in_err-is_there-clause-asks : goal.returns-in_err-is_there-clause-asks
returns-in_err-is_there-clause-asks g c =
    let D = g.D.Directory in
    let asks = c.in_err-is_there.ensures.asks in
    handed (λ r. OnlyAsks D c.args.self.now c.is_there.new.self (CreateFaults D c.args.self.now c.is_there.new.self c.args.name.now r)) c.from_residual.result _ c.from_residual.ensures.1
    (asks_for D asks (faults_made D c.args.self.now refl asks.faults))

pub returns-in_err-path-clause-absent : goal.returns-in_err-path-clause-absent
returns-in_err-path-clause-absent g c = λ tells. IfOk-from_err c.from_residual-in_err-path.result _ c.from_residual-in_err-path.ensures.0

pub returns-in_err-path-clause-asks : goal.returns-in_err-path-clause-asks
returns-in_err-path-clause-asks g c =
    let D = g.D.Directory in
    let asks = c.in_ok-is_there.ensures.asks in
    handed (λ r. OnlyAsks D c.args.self.now c.is_there.new.self (CreateFaults D c.args.self.now c.is_there.new.self c.args.name.now r)) c.from_residual-in_err-path.result _ c.from_residual-in_err-path.ensures.1
    (asks_for D asks (record { quiet = tt; free = tt; cause = asks.faults.quiet }))

pub returns-then-branch-clause-asks : goal.returns-then-branch-clause-asks
returns-then-branch-clause-asks g c =
    let asks = c.in_ok-is_there.ensures.asks in
    asks_for g.D.Directory asks (record { quiet = tt; free = tt; cause = (c.in_ok-path.ensures.ok, (λ tells. sym (c.in_ok-is_there.ensures.answer tells) ∙ c.if-branch.true, asks.faults.quiet)) })

pub returns-in_err-path-2-clause-absent : goal.returns-in_err-path-2-clause-absent
returns-in_err-path-2-clause-absent g c = λ tells. IfOk-from_err c.from_residual-in_err-path-2.result _ c.from_residual-in_err-path-2.ensures.0

pub returns-in_err-path-2-clause-asks : goal.returns-in_err-path-2-clause-asks
returns-in_err-path-2-clause-asks g c =
    let D = g.D.Directory in
    let asks = c.in_ok-is_there.ensures.asks in
    handed (λ r. OnlyAsks D c.args.self.now c.is_there.new.self (CreateFaults D c.args.self.now c.is_there.new.self c.args.name.now r)) c.from_residual-in_err-path-2.result _ c.from_residual-in_err-path-2.ensures.1
    (asks_for D asks (record { quiet = tt; free = tt; cause = asks.faults.quiet }))

pub returns-then-holds-clause-asks : goal.returns-then-holds-clause-asks
returns-then-holds-clause-asks g c =
    let asks = c.in_ok-is_there.ensures.asks in
    let held : has (held c.args.self.now.1.collections) c.args.name.now ≡ true =
    ap (λ v. has (held v.collections) c.args.name.now) (sym (ap (λ v. v.1) c.self.view_is ∙ asks.frame.names)) ∙ sym c.holds.ensures ∙ c.if-holds.true in
    asks_for g.D.Directory asks (record {
      quiet = tt;
      free = tt;
      cause = (c.in_ok-path-2.ensures.ok, (held, λ tells. none_of _ (sym (c.in_ok-is_there.ensures.answer tells) ∙ c.if-branch.false), asks.faults.quiet));
    })

pub returns-clause-absent : goal.returns-clause-absent
returns-clause-absent g c = λ tells. none_of _ (sym (c.in_ok-is_there.ensures.answer tells) ∙ c.if-branch.false)

pub returns-clause-asks : goal.returns-clause-asks
returns-clause-asks g c =
    let asks = c.in_ok-is_there.ensures.asks in
    asks_for g.D.Directory asks (record {
      quiet = asks.faults.quiet;
      free = ap (λ v. has (held v.collections) c.args.name.now) (sym (ap (λ v. v.1) c.self.view_is ∙ asks.frame.names)) ∙ sym c.holds.ensures ∙ c.if-holds.false;
      cause = tt;
    })
