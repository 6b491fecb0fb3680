use Rattle.std.proofs.Common.{◌≡◌, drop, map, take}
use Rattle.tv_registers.specs.Sharing.{Undoes, shared}
use Rattle.tv_registers.proofs.sharing.push_shares.Given as goal

abbrev pub invariant-loop-value : goal.invariant-loop-value
invariant-loop-value g l = record {
  same : l.shares.items ≡ map (λ c. c.now) (take l.value-index l.chosen);
  shares : shared (map g.T.Counted.ticket (map (λ c. c.now) (drop l.value-index l.chosen))) l.inventory
      ≡ shared (map g.T.Counted.ticket (map (λ c. c.now) l.chosen)) l.fn.inventory;
  undone : Undoes (map g.T.Counted.ticket l.shares.items) l.fn.inventory l.inventory;
}
