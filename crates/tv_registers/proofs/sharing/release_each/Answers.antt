use Rattle.std.proofs.Common.{rules, ◌≡◌, ◌++◌, ◌∷◌, [], ℕ, List, map, ap, sym, ◌∙◌}
use Rattle.std.proofs.lemmas.List.{map_push}
use Rattle.tv_registers.specs.Sharing.{taken_back}
use Rattle.tv_registers.proofs.Shares.{taken_last}
use Rattle.tv_registers.proofs.sharing.release_each.Goals as goal

pub loop-share-preserved : goal.loop-share-preserved
loop-share-preserved g c before undoes =
    let split : c.loop-share.shares.items ≡ c.pop.new.self.items ++ c.in-Some.share ∷ [] = search rules in
    let numbers : List ℕ = map g.T.Counted.ticket c.pop.new.self.items in
    ap (taken_back numbers) c.release_one.ensures.released
    ∙ sym (taken_last numbers (g.T.Counted.ticket c.in-Some.share) c.loop-share.inventory)
    ∙ sym (ap (λ (ns : List ℕ). taken_back ns c.loop-share.inventory) (ap (map g.T.Counted.ticket) split ∙ map_push g.T.Counted.ticket c.pop.new.self.items c.in-Some.share))
    ∙ c.loop-share.invariant before undoes
