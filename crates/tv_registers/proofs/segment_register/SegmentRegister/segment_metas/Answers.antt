use Rattle.std.proofs.Common.{rules, ◌≡◌, ℕ, List, map, ap, subst, ◌∙◌}
use Rattle.tv_registers.specs.Registers.{metas_in}
use Rattle.tv_registers.specs.Sharing.{SharesEach}
use Rattle.tv_registers.proofs.Shares.{tickets_of_metas}
use Rattle.tv_registers.proofs.segment_register.SegmentRegister.segment_metas.Goals as goal

pub returns-clause-shares : goal.returns-clause-shares
returns-clause-shares c =
    let register = c.args.self.now in
    let chosen : map (λ m. m.now) c.as_slice.result.now ≡ metas_in register = search rules in
    subst (λ (numbers : List ℕ). SharesEach numbers c.args.inventory.now c.share_each.new.inventory c.share_each.result)
    (ap (map (λ m. m.0)) chosen ∙ tickets_of_metas register) c.share_each.ensures.shares
