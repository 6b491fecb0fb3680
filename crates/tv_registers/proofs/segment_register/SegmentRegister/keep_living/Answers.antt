use Rattle.std.proofs.Common.{rules, ◌≡◌, ℕ, List, Some, map, ap, subst, sym, ◌∙◌}
use Rattle.std.specs.Prelude.{option_map}
use Rattle.tv_registers.specs.Registers.{Counted, Register, empty_in, living_in, tickets_in, without_each}
use Rattle.tv_registers.specs.Sharing.{releases, shared}
use Rattle.tv_registers.proofs.Removed.{emptied_of}
use Rattle.tv_registers.proofs.segment_register.SegmentRegister.keep_living.Goals as goal

pub returns-clause-ok : goal.returns-clause-ok
returns-clause-ok c =
    let register = c.self.inside.segments.entries in
    let before = c.share_living.new.inventory in
    let ids : c.as_slice.result.now ≡ map (λ e. e.0) (empty_in register) = search rules in
    subst (λ (r : Register). c.take_each.new.segments.entries ≡ living_in r) c.self.view_is
    (ap (λ (k : Counted). k.0)
    (c.take_each.ensures ∙ ap (λ (l : List (List ℕ)). without_each l (register, before)) ids ∙ emptied_of register before c.in_ok-empty.ensures.ordered))

pub returns-clause-shares : goal.returns-clause-shares
returns-clause-shares c =
    let register = c.self.inside.segments.entries in
    let before = c.share_living.new.inventory in
    let ids : c.as_slice.result.now ≡ map (λ e. e.0) (empty_in register) = search rules in
    let taken : shared (tickets_in (living_in register)) c.args.inventory.now ≡ Some before = search rules in
    subst (λ (r : Register). option_map (releases (tickets_in (empty_in r))) (shared (tickets_in (living_in r)) c.args.inventory.now) ≡ Some c.take_each.new.inventory) c.self.view_is
    (ap (option_map (releases (tickets_in (empty_in register)))) taken
    ∙ ap Some (sym (ap (λ (k : Counted). k.1)
    (c.take_each.ensures ∙ ap (λ (l : List (List ℕ)). without_each l (register, before)) ids ∙ emptied_of register before c.in_ok-empty.ensures.ordered))))
