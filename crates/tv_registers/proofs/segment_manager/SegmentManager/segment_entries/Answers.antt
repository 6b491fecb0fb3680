use Rattle.std.proofs.Common.{rules, ◌≡◌, ◌++◌, ℕ, List, map, ap, subst, ◌∙◌}
use Rattle.tv_registers.specs.Registers.{entries_in, ticket_of}
use Rattle.tv_registers.specs.Sharing.{SharesEach}
use Rattle.tv_registers.proofs.Shares.{tickets_of_both}
use Rattle.tv_registers.proofs.segment_manager.SegmentManager.segment_entries.Goals as goal

pub returns-clause-shares : goal.returns-clause-shares
returns-clause-shares c =
    let first = c.args.self.now.uncommitted in
    let second = c.args.self.now.committed in
    let chosen : map (λ m. m.now) c.as_slice.result.now ≡ entries_in first ++ entries_in second = search rules in
    subst (λ (numbers : List ℕ). SharesEach numbers c.args.inventory.now c.share_each.new.inventory c.share_each.result)
    (ap (map ticket_of) chosen ∙ tickets_of_both first second) c.share_each.ensures.shares
