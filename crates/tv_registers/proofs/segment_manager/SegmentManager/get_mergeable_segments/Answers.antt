use Rattle.std.proofs.Common.{rules, ◌≡◌, ◌++◌, ℕ, List, Some, Ok, Err, map, ap, sym, subst, ◌∙◌}
use Rattle.std.specs.Result.{result_err}
use Rattle.tv_metas.specs.Tracked.{KeptMetas}
use Rattle.tv_registers.specs.Managers.{ManagerState}
use Rattle.tv_registers.specs.Registers.{outside, tickets_in}
use Rattle.tv_registers.specs.Sharing.{SharesEach, Undoes}
use Rattle.tv_registers.proofs.Shares.{both_shared, both_undone, cause_first, cause_then, tickets_of_metas, told_on}
use Rattle.tv_registers.proofs.segment_manager.SegmentManager.get_mergeable_segments.Goals as goal

abbrev of_both : List (List ℕ) → ManagerState → List ℕ
of_both ids m = tickets_in (outside ids m.committed) ++ tickets_in (outside ids m.uncommitted)

pub returns-in_err-committed-clause-shares : goal.returns-in_err-committed-clause-shares
returns-in_err-committed-clause-shares c =
    let first = tickets_in (outside c.args.in_merge.now.keys c.self.inside.committed) in
    let second = tickets_in (outside c.args.in_merge.now.keys c.self.inside.uncommitted) in
    let error = c.in_err-committed.field-0.0 in
    let refused = c.in_err-committed.ensures.shares in
    let same : Some error ≡ result_err c.from_residual.result = search rules in
    subst (λ (m : ManagerState). SharesEach (of_both c.args.in_merge.now.keys m) c.args.inventory.now c.get_mergeable_segments.new.inventory c.from_residual.result) c.self.view_is
    (told_on {A = Unit {0}} _ _ _ (Err error) c.from_residual.result same
    (record { ok = tt; undone = tt; err = refused.err; cause = cause_first first second c.args.inventory.now error refused.cause }))

pub returns-in-Ok-clause-shares : goal.returns-in-Ok-clause-shares
returns-in-Ok-clause-shares c =
    let first = tickets_in (outside c.args.in_merge.now.keys c.self.inside.committed) in
    let second = tickets_in (outside c.args.in_merge.now.keys c.self.inside.uncommitted) in
    let old = c.args.inventory.now in
    let mid = c.get_mergeable_segments.new.inventory in
    let new = c.get_mergeable_segments-2.new.inventory in
    let one = c.in_ok-committed.ensures.shares in
    let other = c.in-Ok.ensures.shares in
    subst (λ (m : ManagerState). SharesEach (of_both c.args.in_merge.now.keys m) old new (Ok (c.in_ok-committed.committed, c.in-Ok.uncommitted))) c.self.view_is
    (record {
      ok = both_shared first second old mid new one.ok other.ok;
      undone = both_undone first second old mid new one.undone other.undone;
      err = tt;
      cause = tt;
    })

pub returns-in-Err-clause-shares : goal.returns-in-Err-clause-shares
returns-in-Err-clause-shares c =
    let register = outside c.args.in_merge.now.keys c.self.inside.committed in
    let first = tickets_in register in
    let second = tickets_in (outside c.args.in_merge.now.keys c.self.inside.uncommitted) in
    let old = c.args.inventory.now in
    let mid = c.get_mergeable_segments.new.inventory in
    let error = c.in-Err.error in
    let one = c.in_ok-committed.ensures.shares in
    let other = c.in-Err.ensures.shares in
    let numbers : map (λ m. m.0) c.in_ok-committed.committed.items ≡ first = ap (map (λ m. m.0)) c.in_ok-committed.ensures.metas ∙ tickets_of_metas register in
    let back : Undoes (map (λ m. m.0) c.in_ok-committed.committed.items) old c.get_mergeable_segments-2.new.inventory =
    subst (λ (k : KeptMetas). Undoes (map (λ m. m.0) c.in_ok-committed.committed.items) old k) (sym other.err)
    (subst (λ (ns : List ℕ). Undoes ns old mid) (sym numbers) one.undone) in
    subst (λ (m : ManagerState). SharesEach (of_both c.args.in_merge.now.keys m) old c.release_each.new.inventory (Err error)) c.self.view_is
    (record {
      ok = tt;
      undone = tt;
      err = c.release_each.ensures old back;
      cause = cause_then first second old mid error one.ok other.cause;
    })
